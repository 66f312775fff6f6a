-- The next moment over the tables: from the moment on until then nothing is decided, it comes as long as a piece is
-- unfinished, and it lies within the horizon.
use Prim.Native.Nat.{ℕ, ◌+◌, ◌-◌, ◌≤◌, ◌<◌}
use mathlib.Core.List.{List}
use mathlib.Core.Logic.{◌⊎◌, inl, inr}
use mathlib.Core.Option.{none, some}
use mathlib.Core.Path.{◌≡◌, sym, ap, ◌∙◌}
use native.Mathlib.Omega.{arith}
use borrow.Author.Tests.{ltb-true, ltb-false, eqb-true, eqb-false}
use lib.Dec.{ltb, eqb}
use lib.ListN.{get_or}
use Rattle.rules.specs.Job.{Job, piece_count, desk}
use Rattle.rules.specs.Rings.{ring_piece}
use Rattle.rules.specs.Tables.{Sound}
use Rattle.rules.specs.Urgency.{worked, horizon}
use Rattle.laws.proofs.Finishing.{all_finished, horizon_most}
use Rattle.laws.proofs.Progress.{finished_for_good}
use Rattle.laws.proofs.Slots.{worked_chosen, none_or_some, some_inj}
use Rattle.laws.proofs.Words.{by_test}
use Rattle.slots.specs.Standing.{waits_of, ready_of}
use Rattle.slots.specs.Stretch.{at, Stretch}
use Rattle.slots.proofs.Ended.{Ended}
use Rattle.slots.proofs.Stretch.{unfinished_through}
use Rattle.steps.specs.Choice.{View, Decided, whom, end_next, never}
use Rattle.steps.proofs.Decision.{Shown, desks_are}
use Rattle.steps.proofs.Earliest.{end_most, end_counts, end_above, end_from}
use Rattle.steps.proofs.Moved.{Desks, moved_by, found_moved}

module _ (J : Job) (n : ℕ) (v : View) (S : ℕ → Type 0) (s : Shown J n v S) (count : ℕ) (chosen busy : List ℕ) (next : ℕ)
    (decided : Decided v S count chosen busy next) where
  pub desks : Desks J v.moment count chosen busy
  desks = desks_are J n v S s count chosen busy decided.looked_at.choices decided.looked_at.working

  abbrev works_on : ℕ → ℕ
  works_on = whom chosen busy

  -- Who is worked on is an unfinished piece.
  whom_waits : (k : ℕ) → k < count → (works_on k < n) × (0 < get_or v.left (works_on k) 0)
  whom_waits k h =
      let w = (worked_chosen J (get_or busy k 0) v.moment (works_on k) (desks.works k h)).waits in
      let b : works_on k < n = rw s.count at w.inside in
      (b, rw (s.left_is (works_on k) b) w.unfinished)

  -- The next moment lies ahead.
  pub next_ahead : v.moment < never → v.moment < next
  next_ahead h =
      rw decided.next_is
      (end_above v.moment v.left works_on count decided.soon (decided.looked_at.later.above h)
      (λ k l. (whom_waits k l).1))

  pub next_most : next ≤ never
  next_most =
      omega (
        arith,
        decided.next_is,
        end_most v.moment v.left works_on count decided.soon,
        decided.looked_at.later.most,
      )

  -- It comes no later than the end of a piece that is worked on, and no later than a piece becomes ready.
  desk_few : (i : ℕ) → i < n → desk J i < 32
  desk_few i h = rw (s.desk_is i h) (s.desk_most i h)

  next_end : (i : ℕ) → i < n → worked J (desk J i) v.moment ≡ some i → next ≤ v.moment + (at J v.moment i).left
  next_end i h e = by_test (moved_by busy count (desk J i))
      (λ m. go (found_moved busy count (desk J i) m))
      (λ m. none_or_some (sym (desks.rest (desk J i) (desk_few i h) m) ∙ e))
    where
      go : (k : ℕ) × (k < count) × (get_or busy k 0 ≡ desk J i) → next ≤ v.moment + (at J v.moment i).left
      go w =
          let c : works_on w.0 ≡ i =
          some_inj (sym (desks.works w.0 w.1) ∙ ap (λ d. worked J d v.moment) w.2 ∙ e) in
          omega (
            arith,
            decided.next_is,
            rw (c, s.left_is i h) at
                (end_counts v.moment v.left works_on count decided.soon w.0 w.1),
          )

  next_ready : (i : ℕ) → i < n → 0 < (at J v.moment i).left → waits_of J (at J v.moment) i ≡ 0
      → v.moment < ready_of J (at J v.moment) i → next ≤ ready_of J (at J v.moment) i
  next_ready i h l w b =
      let r : get_or v.ready i 0 ≡ ready_of J (at J v.moment) i = s.ready_is i h in
      omega (
        arith,
        decided.next_is,
        end_most v.moment v.left works_on count decided.soon,
        decided.looked_at.later.counts i (s.everyone i h l w) (omega arith),
      )

  -- So nothing is decided until then.
  pub quiet_until : v.moment < never → Stretch J v.moment (next - v.moment)
  quiet_until a = record {
    works = λ i h e. omega (arith, next_end i (rw s.count at h) e);
    quiet = λ i h l w b.
        let r : next ≤ ready_of J (at J v.moment) i = next_ready i (rw s.count at h) l w b in
        omega (arith, next_ahead a);
  }

  -- If it comes at all, a piece is unfinished.
  unfinished_one : (next ≡ never → ⊥) → (i : ℕ) × (i < n) × (0 < (at J v.moment i).left)
  unfinished_one ne =
      go (end_from v.moment v.left works_on count decided.soon) decided.looked_at.later.from
    where
      go : (end_next v.moment v.left works_on count decided.soon ≡ decided.soon) ⊎ (0 < count)
          → (decided.soon ≡ never) ⊎ ((j : ℕ) × S j) → (i : ℕ) × (i < n) × (0 < (at J v.moment i).left)
      go (inr w) r = let c = whom_waits 0 w in (works_on 0, c.0, rw (s.left_is _ c.0) at c.1)
      go (inl e) (inl q) = absurd (ne (decided.next_is ∙ e ∙ q))
      go (inl e) (inr w) = (w.0, s.inside w.0 w.1, s.unfinished w.0 w.1)

  module _ (sound : Sound J) (free : ring_piece J ≡ none) where
    -- An unfinished piece is so until just before the next moment, which therefore lies within the horizon.
    within : v.moment < never → (i : ℕ) → i < n → 0 < (at J v.moment i).left → next ≤ horizon J
    within a i h l = by_test (ltb (horizon J) next)
        (λ e. absurd (clash (ltb-true (horizon J) next e)))
        (λ e. ltb-false (horizon J) next e)
      where
        b : i < piece_count J
        b = rw s.count h

        clash : horizon J < next → ⊥
        clash q =
            let k = next - v.moment - 1 in
            let m : v.moment < next = next_ahead a in
            let z : horizon J + (v.moment + k - horizon J) ≡ v.moment + k = omega arith in
            let u : 0 < (at J (v.moment + k) i).left =
            unfinished_through J sound v.moment (next - v.moment) (quiet_until a) k (omega arith) i b l in
            let f : (at J (v.moment + k) i).left ≡ (at J (horizon J) i).left =
            ap (λ p. p.left) (rw z at (finished_for_good J (v.moment + k - horizon J) (horizon J) i b
            (all_finished J sound free i b))) in
            omega (arith, all_finished J sound free i b)

    -- No further moment: every piece is finished. A further moment: it lies within the horizon.
    pub no_next : v.moment < never → next ≡ never → Ended J v.moment
    no_next a e i h = by_test (eqb (at J v.moment i).left 0)
        (λ q. eqb-true _ 0 q)
        (λ q. absurd (omega (
          arith,
          horizon_most J sound free,
          within a i (rw s.count at h) (omega (arith, eqb-false (at J v.moment i).left 0 q)),
        )))

    pub next_within : v.moment < never → next < never → next ≤ horizon J
    next_within a e = let w = unfinished_one (λ z. omega arith) in within a w.0 w.1 w.2
