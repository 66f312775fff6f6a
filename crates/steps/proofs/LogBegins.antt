-- A desk works on, and a run begins: the log has it behind the others, and there is room for it.
use Prim.Native.Nat.{ℕ, suc, ◌+◌, ◌-◌, ◌≤◌, ◌<◌}
use mathlib.Core.Bool.{Bool, true, false}
use mathlib.Core.List.{List, [], ◌∷◌, ◌++◌}
use mathlib.Core.Logic.{inl, inr}
use mathlib.Core.Option.{some}
use mathlib.Core.Path.{◌≡◌, refl, sym, ap, ◌∙◌}
use native.Mathlib.Omega.{arith}
use borrow.Author.Tests.{ltb-true, ltb-false, eqb-true, eqb-false, eq-eqb, ne_eqb}
use lib.Dec.{ltb, eqb}
use lib.ListN.{length, get_or, get_or-append, length-set, length-append}
use Rattle.std.specs.declared.option.Option.TheVariants.{Some, None}
use lib.Seq.{get_or-set_same, get_or-set_other, get_or-append_seam}
use Rattle.rules.specs.Job.{Job, piece_count, desk}
use Rattle.rules.specs.Runs.{Run}
use Rattle.rules.specs.Tables.{Sound, no_run, run_pieces, run_froms, run_untils}
use Rattle.rules.specs.declared.Run.{Run as LogRun}
use Rattle.rules.specs.Urgency.{worked}
use Rattle.laws.proofs.Columns.{get_or-run_pieces}
use Rattle.laws.proofs.Slots.{worked_chosen, none_or_some, some_inj}
use Rattle.laws.proofs.Words.{by_test, true_or_false}
use Rattle.slots.specs.Growth.{goes_on_at, fresh_run, grown, runs_until, last_piece, last_end, last_on}
use Rattle.slots.specs.Stretch.{Stretch}
use Rattle.slots.proofs.Growth.{grown_anew, going_on}
use Rattle.slots.proofs.Last.{last_piece_lem, last_end_lem, under_way_lem}
use Rattle.slots.proofs.Score.{run_rises}
use Rattle.steps.specs.Log.{Log, begun, logged_runs}
use Rattle.steps.proofs.LogGoesOn.{run_in, told, run_told}
use Rattle.steps.proofs.LogHeld.{Placed, logged, LastRun, LogHeld, worked-runs}
use Rattle.steps.proofs.LogLists.{own_run, own_more, other_more, last_logged, logged_same}
use Rattle.steps.proofs.Moved.{also, moment_of, moment_early, moment_own, moment_other}
use Rattle.steps.proofs.Scores.{scores, scores_less, scores_rise}

-- The run at place c = the count of runs so far, which is the last one now.
module _ (desks : List ℕ) (l : Log) (t u d i : ℕ) (desk_is : get_or desks i 0 ≡ d) where
  abbrev after : Log
  after = begun t u d i l

  abbrev c : ℕ
  c = length l.runs

  abbrev fresh : LogRun
  fresh = record { piece = i; from = t; until = u }

  one_more : length after.runs ≡ suc c
  one_more = omega (arith, length-append l.runs (fresh ∷ []))

  newest : get_or after.runs c no_run ≡ fresh
  newest = get_or-append_seam l.runs fresh [] no_run

  pub older : (j : ℕ) → j < c → get_or after.runs j no_run ≡ get_or l.runs j no_run
  older j h = get_or-append l.runs (fresh ∷ []) no_run j h

  same_piece : (j : ℕ) → j < c → get_or (run_pieces after.runs) j 0 ≡ get_or (run_pieces l.runs) j 0
  same_piece j h = get_or-run_pieces after.runs j ∙ ap (λ r. r.piece) (older j h) ∙ sym (get_or-run_pieces l.runs j)

  new_piece : get_or (run_pieces after.runs) c 0 ≡ i
  new_piece = get_or-run_pieces after.runs c ∙ ap (λ r. r.piece) newest

  old_run : (j : ℕ) → j < c → run_in after.runs j ≡ run_in l.runs j
  old_run j h = run_told after.runs j ∙ ap told (older j h) ∙ sym (run_told l.runs j)

  new_run : run_in after.runs c ≡ told fresh
  new_run = run_told after.runs c ∙ ap told newest

  old_own : (f j : ℕ) → j < c → own_run desks (run_pieces after.runs) f j ≡ own_run desks (run_pieces l.runs) f j
  old_own f j h = rw (same_piece j h)

  new_own : own_run desks (run_pieces after.runs) d c ≡ true
  new_own = rw (new_piece, desk_is) (eq-eqb d d refl)

  new_other : (f : ℕ) → (f ≡ d → ⊥) → own_run desks (run_pieces after.runs) f c ≡ false
  new_other f ne = rw (new_piece, desk_is) (ne_eqb d f (λ z. ne (sym z)))

  abbrev logged_to : ℕ → ℕ → List Run
  logged_to k f = logged_runs desks (run_pieces after.runs) (run_froms after.runs) (run_untils after.runs) k f

  so_far : (f : ℕ) → logged_to c f ≡ logged desks l f
  so_far f =
      logged_same desks (run_pieces l.runs) (run_pieces after.runs) (run_froms l.runs) (run_froms after.runs)
      (run_untils l.runs) (run_untils after.runs) f c same_piece (λ j h w. old_run j h)

  own_logged : logged desks after d ≡ logged desks l d ++ (told fresh ∷ [])
  own_logged =
      ap (λ k. logged_to k d) one_more
      ∙ own_more desks (run_pieces after.runs) (run_froms after.runs) (run_untils after.runs) d c new_own
      ∙ rw (so_far d, new_run)

  other_logged : (f : ℕ) → (f ≡ d → ⊥) → logged desks after f ≡ logged desks l f
  other_logged f ne =
      ap (λ k. logged_to k f) one_more
      ∙ other_more desks (run_pieces after.runs) (run_froms after.runs) (run_untils after.runs) f c (new_other f ne)
      ∙ so_far f

module _ (J : Job) (sound : Sound J) (n : ℕ) (desks : List ℕ) (t u k : ℕ) (e : t + k ≡ u) (p : 0 < k) (s : Stretch J t k)
    (count : piece_count J ≡ n) (small : n ≤ 256) (desk_is : (i : ℕ) → i < n → desk J i ≡ get_or desks i 0) where
  module _ (M : ℕ → Bool) (d : ℕ) (new : M d ≡ false) (i : ℕ) (b : d < 32) (q : worked J d t ≡ some i) (l : Log)
      (h : LogHeld J n desks (moment_of t u M) l)
      (anew : (w : Placed desks l d) → goes_on_at (run_in l.runs w.place) i t ≡ false) where
    abbrev now : Log
    now = begun t u d i l

    inside : i < n
    inside = rw count at (worked_chosen J d t i q).waits.inside

    own_desk : get_or desks i 0 ≡ d
    own_desk = sym (desk_is i inside) ∙ (worked_chosen J d t i q).waits.at_desk

    pub room : length l.runs < 512
    room =
        let early : moment_of t u M (desk J i) ≡ t =
        rw (worked_chosen J d t i q).waits.at_desk (moment_early t u M d new) in
        omega (
          arith,
          h.few,
          scores_less J n (moment_of t u M) i inside
              (rw early (worked_chosen J d t i q).waits.unfinished),
        )

    was : logged desks l d ≡ runs_until J d t
    was = h.runs_are d b ∙ ap (runs_until J d) (moment_early t u M d new)

    abbrev run : Placed desks l d → Run
    run w = run_in l.runs w.place

    abbrev before : Placed desks l d → List Run
    before w = logged_runs desks (run_pieces l.runs) (run_froms l.runs) (run_untils l.runs) w.place d

    last_was : (w : Placed desks l d) → runs_until J d t ≡ before w ++ (run w ∷ [])
    last_was w =
        sym was ∙ last_logged desks (run_pieces l.runs) (run_froms l.runs) (run_untils l.runs) d (length l.runs) w.place
        w.below w.own w.latest

    -- The plan's runs grow by a run of its own.
    grows : grown (runs_until J d t) i t k ≡ runs_until J d t ++ (fresh_run i t k ∷ [])
    unfolding LastRun grown
    grows = go (h.lasts d b)
      where
        go : LastRun desks l d → grown (runs_until J d t) i t k ≡ runs_until J d t ++ (fresh_run i t k ∷ [])
        go (inl y) = let z : runs_until J d t ≡ [] = sym was ∙ y.1 in rw z
        go (inr w) = rw (last_was w) (grown_anew (before w) (run w) i t k (anew w))

    own_runs : logged desks now d ≡ runs_until J d u
    own_runs =
        let y : u - t ≡ k = omega arith in
        own_logged desks l t u d i own_desk
        ∙ rw (was, y, ← e) (sym grows ∙ sym (worked-runs J sound n desks t (t + k) k refl p s count small desk_is d i q))

    -- The desk did not work on this piece last, or its run would go on.
    not_last : last_on J d t ≡ some i → ⊥
    unfolding LastRun last_on last_piece
    not_last o = go (h.lasts d b)
      where
        go : LastRun desks l d → ⊥
        go (inl y) = let z : runs_until J d t ≡ [] = sym was ∙ y.1 in none_or_some (rw z at o)
        go (inr w) =
            let a : (run w).piece ≡ i = some_inj
            (sym (last_piece_lem (before w) (run w)) ∙ ap last_piece (sym (last_was w)) ∙ o) in
            let v = (under_way_lem J sound d t i o (worked_chosen J d t i q).waits.unfinished).on_time in
            let c : (run w).until ≡ t = sym (last_end_lem (before w) (run w)) ∙ ap last_end (sym (last_was w)) ∙ v in
            true_or_false (sym (going_on (run w) i t a c) ∙ anew w)

    one_more_fits : length now.runs ≤ scores J n (moment_of t u (also M d))
    one_more_fits =
        let r = run_rises J sound d t i q not_last in
        omega (
          arith,
          one_more desks l t u d i own_desk,
          h.few,
          scores_rise J n t u k e p count M d new r.0 (rw count at r.1) r.2 r.3,
        )

    other_runs : (f : ℕ) → (f ≡ d → ⊥) → logged desks now f ≡ logged desks l f
    other_runs f ne = other_logged desks l t u d i own_desk f ne

    -- The last runs of the other desks stay where they are, and the desk's own is the new one.
    others_last : (f : ℕ) → LastRun desks l f → (f ≡ d → ⊥) → LastRun desks now f
    unfolding LastRun
    others_last f (inl y) ne =
        inl (get_or-set_other l.last d f (Some (length l.runs)) None ne ∙ y.0, other_runs f ne ∙ y.1)
    others_last f (inr y) ne = inr (record {
      place = y.place;
      is = get_or-set_other l.last d f (Some (length l.runs)) None ne ∙ y.is;
      below = omega (arith, one_more desks l t u d i own_desk, y.below);
      own = old_own desks l t u d i own_desk f y.place y.below ∙ y.own;
      latest = λ j a c. by_test (ltb j (length l.runs))
          (λ z. let o = ltb-true j (length l.runs) z in
          old_own desks l t u d i own_desk f j o ∙ y.latest j a o)
          (λ z. let m : j ≡ length l.runs =
          omega (arith, one_more desks l t u d i own_desk, c, ltb-false j (length l.runs) z) in
          rw m (new_other desks l t u d i own_desk f ne));
    })

    own_last : LastRun desks now d
    unfolding LastRun
    own_last = inr (record {
      place = length l.runs;
      is = get_or-set_same l.last d (Some (length l.runs)) None (omega (arith, h.last_sized));
      below = omega (arith, one_more desks l t u d i own_desk);
      own = new_own desks l t u d i own_desk;
      latest = λ j a c. absurd (omega (arith, one_more desks l t u d i own_desk));
    })

    -- What holds of the log's runs and of the new one holds of all.
    each : (P : LogRun → Type 0) → ((j : ℕ) → j < length l.runs → P (get_or l.runs j no_run))
        → P (fresh desks l t u d i own_desk)
        → (j : ℕ) → j < length now.runs → P (get_or now.runs j no_run)
    each P f g j c = by_test (ltb j (length l.runs))
        (λ z. let o = ltb-true j (length l.runs) z in rw (older desks l t u d i own_desk j o) (f j o))
        (λ z. let m : j ≡ length l.runs =
        omega (arith, one_more desks l t u d i own_desk, c, ltb-false j (length l.runs) z) in
        rw (m, newest desks l t u d i own_desk) g)

    pub begins_held : LogHeld J n desks (moment_of t u (also M d)) now
    begins_held = record {
      last_sized = length-set l.last d (Some (length l.runs)) ∙ h.last_sized;
      runs_are = λ f c. by_test (eqb f d)
          (λ z. let y : f ≡ d = eqb-true f d z in rw (y, moment_own t u M d) own_runs)
          (λ z. let ne = eqb-false f d z in rw (moment_other t u M d f ne) (other_runs f ne ∙ h.runs_are f c));
      lasts = λ f c. by_test (eqb f d)
          (λ z. rw (eqb-true f d z) own_last)
          (λ z. others_last f (h.lasts f c) (eqb-false f d z));
      inside = each (λ r. r.piece < n) h.inside inside;
      forward = each (λ r. r.from ≤ r.until) h.forward (omega arith);
      few = one_more_fits;
    }
