-- The choice over the tables is that of the plan: where the tables say how far the pieces are at moment t, every desk
-- chooses whom it works on in slot t.
use Prim.Native.Nat.{ℕ, ◌≤◌, ◌<◌}
use mathlib.Core.Bool.{false}
use mathlib.Core.List.{List}
use mathlib.Core.Logic.{inl, inr}
use mathlib.Core.Option.{none, some}
use mathlib.Core.Path.{◌≡◌, refl, sym, ◌∙◌}
use native.Mathlib.Omega.{arith}
use lib.ListN.{get_or}
use Rattle.rules.specs.Job.{Job, piece_count, desk}
use Rattle.rules.specs.Moments.{latest}
use Rattle.rules.specs.Urgency.{work_at, worked}
use Rattle.laws.proofs.Hours.{always_open}
use Rattle.laws.proofs.Signed.{dn}
use Rattle.laws.proofs.Slots.{Waits, chosen_choice, resting_choice}
use Rattle.laws.proofs.Words.{true_or_false}
use Rattle.slots.specs.Standing.{waits_of, ready_of}
use Rattle.slots.specs.Stretch.{at}
use Rattle.slots.proofs.Standing.{ready_waits, waits_ready}
use Rattle.steps.specs.Keys.{key_of}
use Rattle.steps.specs.Choice.{View, Asks, Best, Choice, Busy}
use Rattle.steps.specs.Opening.{Among}
use Rattle.steps.proofs.Moved.{Desks, moved_by, not_moved, moved}
use Rattle.steps.proofs.Precedence.{key_sooner}

-- The view shows the job's n pieces as they are at its moment, and S are the unfinished ones that wait for none.
pub record Shown (J : Job) (n : ℕ) (v : View) (S : ℕ → Type 0) : Type 0 where
  pub count : piece_count J ≡ n
  pub few : n ≤ 256
  pub desk_is : (i : ℕ) → i < n → desk J i ≡ get_or v.desks i 0
  pub desk_most : (i : ℕ) → i < n → get_or v.desks i 0 < 32
  pub key_is : (i : ℕ) → i < n → get_or v.keys i 0 ≡ key_of (latest J i) i
  pub not_far : (i : ℕ) → i < n → dn (latest J i) ≤ 524288
  pub left_is : (i : ℕ) → i < n → get_or v.left i 0 ≡ (at J v.moment i).left
  pub ready_is : (i : ℕ) → i < n → get_or v.ready i 0 ≡ ready_of J (at J v.moment) i
  pub inside : (i : ℕ) → S i → i < n
  pub unfinished : (i : ℕ) → S i → 0 < (at J v.moment i).left
  pub idle : (i : ℕ) → S i → waits_of J (at J v.moment) i ≡ 0
  pub everyone : (i : ℕ) → i < n → 0 < (at J v.moment i).left → waits_of J (at J v.moment) i ≡ 0 → S i

module _ (J : Job) (n : ℕ) (v : View) (S : ℕ → Type 0) (s : Shown J n v S) where
  -- Who asks for a desk is who waits for it, in the words of the rules.
  asks_waits : (d i : ℕ) → S i → Asks v S d i → Waits J (work_at J v.moment) d v.moment i
  asks_waits d i m a =
      let h : i < n = s.inside i m in
      record {
        inside = rw s.count h;
        at_desk = s.desk_is i h ∙ a.0;
        unfinished = s.unfinished i m;
        ready_then = waits_ready J (work_at J v.moment) v.moment i (s.idle i m) (rw (s.ready_is i h) at a.1);
      }

  waits_asks : (d i : ℕ) → Waits J (work_at J v.moment) d v.moment i → S i × Asks v S d i
  waits_asks d i w =
      let h : i < n = rw s.count at w.inside in
      let r = ready_waits J (work_at J v.moment) v.moment i w.ready_then in (
        s.everyone i h w.unfinished r.0,
        (sym (s.desk_is i h) ∙ w.at_desk, rw (s.ready_is i h) r.1),
      )

  -- Who goes first of those that ask is who the desk works on.
  best_works : (d x : ℕ) → Best v S d x → worked J d v.moment ≡ some x
  unfolding worked
  best_works d x b =
      chosen_choice J (work_at J v.moment) d v.moment x (record {
        opened = always_open J d v.moment;
        waits = asks_waits d x b.inside b.asks;
        first = λ j u ne.
            let a = waits_asks d j u in
            let hx = s.inside x b.inside in
            let hj = s.inside j a.0 in
            key_sooner J x j (omega (arith, hx, s.few)) (omega (arith, hj, s.few)) (s.not_far x hx) (s.not_far j hj) ne
            (rw (s.key_is x hx, s.key_is j hj) at (b.first j a.0 a.1));
      })

  nobody_rests : (d : ℕ) → ((j : ℕ) → S j → Asks v S d j → ⊥) → worked J d v.moment ≡ none
  unfolding worked
  nobody_rests d w =
      resting_choice J (work_at J v.moment) d v.moment (λ i u. let a = waits_asks d i u in w i a.0 a.1)

  -- The table of the desks that work has those that do, and the other desks rest.
  module _ (count : ℕ) (chosen busy : List ℕ) (c : (d : ℕ) → d < 32 → Choice v S count chosen busy d)
      (b : Busy count chosen busy) where
    someone_works : (d : ℕ) → Among busy count d → Choice v S count chosen busy d
        → worked J d v.moment ≡ some (get_or chosen d 0)
    unfolding Choice
    someone_works d m (inl w) = best_works d (get_or chosen d 0) w.1
    someone_works d m (inr w) = absurd (w.0 m)

    others_rest : (d : ℕ) → moved_by busy count d ≡ false → Choice v S count chosen busy d → worked J d v.moment ≡ none
    unfolding Choice
    others_rest d m (inl w) = true_or_false (sym (rw w.0.2 at (moved busy count w.0.0 w.0.1)) ∙ m)
    others_rest d m (inr w) = nobody_rests d w.1

    pub desks_are : Desks J v.moment count chosen busy
    desks_are = record {
      desk_most = b.desk_most;
      works = λ k h. someone_works (get_or busy k 0) (k, h, refl) (c (get_or busy k 0) (b.desk_most k h));
      new = λ k h. not_moved busy k (get_or busy k 0)
          (λ q l z. let y : q ≡ k = b.once q k (omega arith) h z in omega arith);
      rest = λ d h m. others_rest d m (c d h);
    }
