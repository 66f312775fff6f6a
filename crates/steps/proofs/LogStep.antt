-- The log over a step: with every desk moved on its runs are the plan's up to the next moment.
use Prim.Native.Nat.{ℕ, zero, suc, ◌+◌, ◌≤◌, ◌<◌}
use mathlib.Core.Bool.{Bool, false}
use mathlib.Core.List.{List}
use mathlib.Core.Logic.{inl, inr}
use mathlib.Core.Option.{some}
use mathlib.Core.Path.{◌≡◌, sym, ◌∙◌}
use native.Mathlib.Omega.{arith}
use borrow.Author.Tests.{lt-ltb}
use lib.ListN.{length, get_or}
use Rattle.std.specs.declared.option.Option.TheVariants.{Some, None}
use Rattle.rules.specs.Words.{when}
use Rattle.rules.specs.Job.{Job, piece_count, desk}
use Rattle.rules.specs.Tables.{Sound}
use Rattle.rules.specs.Urgency.{worked}
use Rattle.laws.proofs.Words.{by_test}
use Rattle.slots.specs.Growth.{goes_on_at}
use Rattle.slots.specs.Stretch.{Stretch}
use Rattle.steps.specs.Log.{Log, stays, begun_if, note_at, note_on, note_to}
use Rattle.steps.proofs.LogHeld.{Placed, LastRun, LogHeld, all_held}
use Rattle.steps.proofs.LogGoesOn.{run_in, stays_goes, goes_on_held}
use Rattle.steps.proofs.LogBegins.{room, begins_held}
use Rattle.steps.proofs.Moved.{also, moment_of, moved_by, Desks}

module _ (J : Job) (sound : Sound J) (n : ℕ) (desks : List ℕ) (t u k : ℕ) (e : t + k ≡ u) (p : 0 < k) (s : Stretch J t k)
    (count : piece_count J ≡ n) (small : n ≤ 256) (desk_is : (i : ℕ) → i < n → desk J i ≡ get_or desks i 0) where
  abbrev Then : (ℕ → Bool) → Log → Type 0
  Then M l = LogHeld J n desks (moment_of t u M) l

  -- Desk d works on piece i, whose run the test says goes on, or does not.
  module _ (M : ℕ → Bool) (d : ℕ) (new : M d ≡ false) (i : ℕ) (b : d < 32) (q : worked J d t ≡ some i) (l : Log)
      (h : Then M l) where
    -- Another run begins, and there is room for it.
    anew : ((w : Placed desks l d) → goes_on_at (run_in l.runs w.place) i t ≡ false)
        → Then (also M d) (begun_if t u d i l)
    unfolding when
    anew a =
        rw (
          lt-ltb (length l.runs) 512 (room J sound n desks t u k e p s count small desk_is M d new i b q l h a),
          when,
        )
        (begins_held J sound n desks t u k e p s count small desk_is M d new i b q l h a)

    noted : LastRun desks l d → Then (also M d) (note_on t u d i l)
    unfolding LastRun note_on note_at when
    noted (inl y) = rw y.0 (anew (λ w. absurd (nowhere (sym y.0 ∙ w.is))))
      where
        nowhere : {k : ℕ} → None ≡ Some k → ⊥
        nowhere e = cc
    noted (inr w) = rw w.is (by_test (stays l.runs w.place i t)
        (λ y. rw (y, when) (goes_on_held J sound n desks t u k e p s count small desk_is M d new i b q l h w
        (sym (stays_goes l.runs w.place i t w.below) ∙ y)))
        (λ y. rw (y, when) (anew (λ v. same v y))))
      where
        same : (v : Placed desks l d) → stays l.runs w.place i t ≡ false → goes_on_at (run_in l.runs v.place) i t ≡ false
        same v y =
            let z : v.place ≡ w.place = one_place (sym v.is ∙ w.is) in
            rw z (sym (stays_goes l.runs w.place i t w.below) ∙ y)
          where
            one_place : {j k : ℕ} → Some j ≡ Some k → j ≡ k
            one_place e = cc

    note_desk : Then (also M d) (note_on t u d i l)
    note_desk = noted (h.lasts d b)

  -- The first c of the desks that work moved on.
  module _ (all : ℕ) (chosen busy : List ℕ) (D : Desks J t all chosen busy) where
    note_desks : (c : ℕ) → c ≤ all → (l : Log) → Then (moved_by busy 0) l
        → Then (moved_by busy c) (note_to t u chosen busy c l)
    unfolding note_to moved_by
    note_desks zero b l h = h
    note_desks (suc c) b l h =
        note_desk (moved_by busy c) (get_or busy c 0) (D.new c b) (get_or chosen (get_or busy c 0) 0) (D.desk_most c b)
        (D.works c b) (note_to t u chosen busy c l) (note_desks c (omega arith) l h)

    -- All of them.
    pub note_step : (l : Log) → LogHeld J n desks (λ d. t) l → LogHeld J n desks (λ d. u) (note_to t u chosen busy all l)
    unfolding moved_by moment_of when
    note_step l h =
        all_held J sound n desks t u k e p s count small desk_is (moved_by busy all) D.rest
        (note_to t u chosen busy all l) (note_desks all (omega arith) l h)
