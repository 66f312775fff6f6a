-- The count that bounds the runs, over all pieces: it grows with every desk that is moved on, by one or more where a run
-- begins, and stays below two for each piece as long as one is unfinished.
use Prim.Native.Nat.{ℕ, suc, ◌+◌, ◌-◌, ◌≤◌, ◌<◌}
use mathlib.Core.Bool.{Bool, false}
use mathlib.Core.List.{List, [], ◌∷◌, map}
use mathlib.Core.Path.{◌≡◌, refl}
use native.Mathlib.Omega.{arith}
use borrow.Author.Tests.{eqb-true, eqb-false}
use lib.Dec.{eqb}
use lib.ListN.{length}
use Rattle.rules.specs.Words.{below, sum}
use Rattle.rules.specs.Job.{Job, piece_count, desk}
use Rattle.laws.proofs.Words.{by_test, sum_le, sum_lt, mem_below, below_mem, length-below}
use Rattle.slots.specs.Growth.{score}
use Rattle.slots.specs.Stretch.{at}
use Rattle.slots.proofs.Score.{score_most, score-unfinished, score_grows}
use Rattle.steps.proofs.Moved.{also, moment_of, moment_early, moment_late, moment_own, moment_other}

-- A sum over all pieces of a bound that is the same for each.
twice : (l : List ℕ) → sum (map (λ i. 2) l) ≡ length l + length l
unfolding sum
twice [] = refl
twice (x ∷ xs) = let ih : sum (map (λ i. 2) xs) ≡ length xs + length xs = twice xs in omega arith

-- The count that bounds the runs, with the desks at moments of their own.
module _ (J : Job) (n : ℕ) where
  abbrev pub scores : (ℕ → ℕ) → ℕ
  scores τ = sum (map (λ i. score J (τ (desk J i)) i) (below n))

  pub scores_most : (τ : ℕ → ℕ) → scores τ ≤ n + n
  scores_most τ =
      omega (
        arith,
        sum_le (λ i. score J (τ (desk J i)) i) (λ i. 2) (below n) (λ i m. score_most J (τ (desk J i)) i),
        twice (below n),
        length-below n,
      )

  pub scores_less : (τ : ℕ → ℕ) (i : ℕ) → i < n → 0 < (at J (τ (desk J i)) i).left → scores τ < n + n
  scores_less τ i h l =
      let less = sum_lt (λ i. score J (τ (desk J i)) i) (λ i. 2) (below n) (λ i m. score_most J (τ (desk J i)) i) i
      (below_mem n i h)
      (omega (arith, score-unfinished J (τ (desk J i)) i l)) in
      omega (arith, twice (below n), length-below n)

  module _ (t u k : ℕ) (e : t + k ≡ u) (p : 0 < k) (count : piece_count J ≡ n) (M : ℕ → Bool) where
    moved_score : (d i : ℕ) → i < n → score J (moment_of t u M d) i ≤ score J u i
    moved_score d i h = by_test (M d)
        (λ q. rw (moment_late t u M d q) (omega arith))
        (λ q. rw (moment_early t u M d q, ← e) (score_grows J t k i (rw count h)))

    pub scores_end : scores (moment_of t u M) ≤ scores (λ d. u)
    scores_end = sum_le _ _ (below n) (λ i m. moved_score (desk J i) i (mem_below n i m))

    score_moves : (d i : ℕ) → i < n
        → score J (moment_of t u M (desk J i)) i ≤ score J (moment_of t u (also M d) (desk J i)) i
    score_moves d i h = by_test (eqb (desk J i) d)
        (λ q. let z : desk J i ≡ d = eqb-true (desk J i) d q in rw (z, moment_own t u M d) (moved_score d i h))
        (λ q. rw (moment_other t u M d (desk J i) (eqb-false (desk J i) d q)) (omega arith))

    pub scores_grow : (d : ℕ) → scores (moment_of t u M) ≤ scores (moment_of t u (also M d))
    scores_grow d = sum_le _ _ (below n) (λ i m. score_moves d i (mem_below n i m))

    pub scores_rise : (d : ℕ) → M d ≡ false → (x : ℕ) → x < n → desk J x ≡ d → score J t x < score J (suc t) x
        → scores (moment_of t u M) < scores (moment_of t u (also M d))
    scores_rise d new x h z r =
        sum_lt _ _ (below n) (λ i m. score_moves d i (mem_below n i m)) x (below_mem n x h)
        (rw (z, moment_early t u M d new, moment_own t u M d)
        (let y : suc t + (k - 1) ≡ u = omega arith in
        let g : score J (suc t) x ≤ score J u x = rw y at (score_grows J (suc t) (k - 1) x (rw count h)) in
        omega arith))
