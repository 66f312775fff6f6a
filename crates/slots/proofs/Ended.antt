-- Once every piece is finished nothing changes any more: the finished plan is the same at any two such moments.
use Prim.Native.Nat.{ℕ, ◌+◌, ◌-◌, ◌<◌}
use mathlib.Core.Option.{none}
use mathlib.Core.Path.{◌≡◌, sym, ap}
use native.Mathlib.Omega.{arith}
use borrow.Author.Tests.{leb-true, leb-false}
use lib.Dec.{leb}
use Rattle.rules.specs.Job.{Job, piece_count}
use Rattle.rules.specs.Urgency.{worked}
use Rattle.laws.proofs.Words.{by_test}
use Rattle.laws.proofs.Progress.{finished_for_good}
use Rattle.laws.proofs.Slots.{by_choice, worked_chosen}
use Rattle.slots.specs.Stretch.{at}
use Rattle.slots.specs.Growth.{runs_until}
use Rattle.slots.proofs.Growth.{runs_resting}

-- Every piece is finished at moment t.
abbrev pub Ended : Job → ℕ → Type 0
Ended J t = (i : ℕ) → i < piece_count J → (at J t i).left ≡ 0

module _ (J : Job) where
  pub ended_rests : (t : ℕ) → Ended J t → (j d : ℕ) → worked J d (t + j) ≡ none
  ended_rests t e j d = by_choice (worked J d (t + j))
      (λ q. q)
      (λ i q. let w = (worked_chosen J d (t + j) i q).waits in
      absurd (omega (
        arith,
        w.unfinished,
        e i w.inside,
        ap (λ p. p.left) (finished_for_good J j t i w.inside (e i w.inside)),
      )))

  -- At a later moment, and at any other at which every piece is finished.
  ended_later : (t k : ℕ) → Ended J t → (i : ℕ) → i < piece_count J → at J (t + k) i ≡ at J t i
  ended_later t k e i h = finished_for_good J k t i h (e i h)

  runs_later : (t k : ℕ) → Ended J t → (d : ℕ) → runs_until J d (t + k) ≡ runs_until J d t
  runs_later t k e d = runs_resting J d t k (λ j l. ended_rests t e j d)

  pub ended_same : (t h : ℕ) → Ended J t → Ended J h → (i : ℕ) → i < piece_count J → at J t i ≡ at J h i
  ended_same t h e f i l = by_test (leb t h)
      (λ q. let z : t + (h - t) ≡ h = omega (arith, leb-true t h q) in sym (rw z at (ended_later t (h - t) e i l)))
      (λ q. let z : h + (t - h) ≡ t = omega (arith, leb-false t h q) in rw z at (ended_later h (t - h) f i l))

  pub ended_runs : (t h : ℕ) → Ended J t → Ended J h → (d : ℕ) → runs_until J d t ≡ runs_until J d h
  ended_runs t h e f d = by_test (leb t h)
      (λ q. let z : t + (h - t) ≡ h = omega (arith, leb-true t h q) in sym (rw z at (runs_later t (h - t) e d)))
      (λ q. let z : h + (t - h) ≡ t = omega (arith, leb-false t h q) in rw z at (runs_later h (t - h) f d))
