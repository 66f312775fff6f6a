-- The figures grow with the pieces: with one piece more, the largest finish is the greater of what it was and that
-- piece's, and so is the worst lateness.
use Prim.Native.Nat.{ℕ, zero, suc, ◌+◌, ◌≤◌, ◌<◌, max}
use mathlib.Core.List.{map}
use mathlib.Core.Path.{◌≡◌, refl, ap}
use native.Mathlib.Nat.{le_antisymm}
use native.Mathlib.Numerals.{add-one}
use native.Mathlib.Omega.{arith}
use borrow.Author.Tests.{ltb-true, ltb-false}
use lib.Dec.{ltb}
use lib.IntN.{ℤ, pos, negsuc}
use Rattle.std.specs.Int.{int_max}
use lib.Signed.{mag, lt_z}
use mir.Syntax.{w32}
use mir.Val.{SFits}
use Rattle.rules.specs.Words.{when, greater, greatest, greater_z, greatest_z, worst_of, row, below}
use Rattle.laws.proofs.Words.{by_test, mem_below, below_mem, greater_left, greater_right, greater_least}
use Rattle.laws.proofs.Words.{greatest_of, greatest_within}
use Rattle.laws.proofs.Signed.{◌≼◌, same, lt_z_lt, lt_z_le, greater_z_left, greater_z_right, greater_z_least}
use Rattle.laws.proofs.Signed.{greatest_z_start, greatest_z_mem, greatest_z_least}
use Rattle.laws.proofs.Words.{mem_map, mem_row, row_mem}
use Rattle.laws.proofs.Joined.{mem_of_map}
use Rattle.output.specs.Late.{Bounded, lateness_of}

-- The greater of two, as the page and as the code has it.
pub max_is : (a b : ℕ) → max a b ≡ greater a b
unfolding greater
max_is a b =
    by_test (ltb a b) (λ e. rw (e, when) (omega (arith, ltb-true a b e)))
    (λ e. rw (e, when) (omega (arith, ltb-false a b e)))

pub int_max_is : (a b : ℤ) → int_max a b ≡ greater_z a b
unfolding greater_z
int_max_is a b = by_test (lt_z b a)
    (λ e. by_test (lt_z a b)
    (λ f. absurd (omega (arith, lt_z_lt b a e, lt_z_lt a b f)))
    (λ f. rw (e, f, when)))
    (λ e. by_test (lt_z a b)
    (λ f. rw (e, f, when))
    (λ f. rw (e, f, when) (same b a (omega (arith, lt_z_le b a e, lt_z_le a b f)))))

pub largest_more : (f : ℕ → ℕ) (k : ℕ) → greater (greatest 0 (map f (below k))) (f k)
    ≡ greatest 0 (map f (below (k + 1)))
largest_more f k = rw add-one (le_antisymm
    (greater_least (greatest 0 (map f (below k))) (f k) (greatest 0 (map f (below (suc k))))
    (greatest_within f 0 (greatest 0 (map f (below (suc k)))) (below k) (omega arith)
    (λ i m. greatest_of f 0 (below (suc k)) i (below_mem (suc k) i (omega (arith, mem_below k i m)))))
    (greatest_of f 0 (below (suc k)) k (below_mem (suc k) k (omega arith))))
    (greatest_within f 0 (greater (greatest 0 (map f (below k))) (f k)) (below (suc k)) (omega arith)
    (λ i m. by_test (ltb i k)
    (λ e.
    omega (
      arith,
      greatest_of f 0 (below k) i (below_mem k i (ltb-true i k e)),
      greater_left (greatest 0 (map f (below k))) (f k),
    ))
    (λ e. let q : f i ≡ f k = ap f (omega (arith, ltb-false i k e, mem_below (suc k) i m)) in
    omega (arith, greater_right (greatest 0 (map f (below k))) (f k))))))

-- The worst of one piece or more: at least each, and no more than what bounds each.
worst_each : (f : ℕ → ℤ) (n i : ℕ) → i < suc n → f i ≼ worst_of (map f (below (suc n)))
unfolding worst_of below row
worst_each f n zero h = greatest_z_start (f 0) (map f (row 1 n))
worst_each f n (suc i) h =
    greatest_z_mem (f 0) (map f (row 1 n)) (f (suc i))
    (mem_map f (row 1 n) (suc i) (row_mem n 1 (suc i) (omega arith) (omega arith)))

worst_bound : (f : ℕ → ℤ) (n : ℕ) (c : ℤ) → ((i : ℕ) → i < suc n → f i ≼ c) → worst_of (map f (below (suc n))) ≼ c
unfolding worst_of below row
worst_bound f n c h =
    greatest_z_least (f 0) c (map f (row 1 n)) (h 0 (omega arith))
    (λ x m. let w = mem_of_map f (row 1 n) x m in
    rw w.2 (h w.0 (omega (arith, (mem_row n 1 w.0 w.1).1))))

both_ways : (a b : ℤ) → a ≼ b → b ≼ a → a ≡ b
both_ways a b h k = same a b (omega arith)

pub worst_one : (f : ℕ → ℤ) → worst_of (map f (below 1)) ≡ f 0
unfolding worst_of greatest_z below row
worst_one f = refl

pub worst_more : (f : ℕ → ℤ) (k : ℕ) → 1 ≤ k → greater_z (worst_of (map f (below k))) (f k)
    ≡ worst_of (map f (below (k + 1)))
worst_more f zero h = absurd (omega arith)
worst_more f (suc n) h = rw add-one (both_ways _ _
    (greater_z_least (worst_of (map f (below (suc n)))) (f (suc n)) (worst_of (map f (below (suc (suc n)))))
    (worst_bound f n (worst_of (map f (below (suc (suc n))))) (λ i l. worst_each f (suc n) i (omega arith)))
    (worst_each f (suc n) (suc n) (omega arith)))
    (worst_bound f (suc n) (greater_z (worst_of (map f (below (suc n)))) (f (suc n)))
    (λ i l. by_test (ltb i (suc n))
    (λ e.
    omega (
      arith,
      worst_each f n i (ltb-true i (suc n) e),
      greater_z_left (worst_of (map f (below (suc n)))) (f (suc n)),
    ))
    (λ e. let q : i ≡ suc n = omega (arith, ltb-false i (suc n) e) in
    rw q (greater_z_right (worst_of (map f (below (suc n)))) (f (suc n)))))))

-- A lateness fits 32 bits.
late_size : (f : ℕ) (z : ℤ) → mag (lateness_of f z) ≤ f + mag z + 1
late_size f (pos zero) = omega arith
late_size f (pos (suc k)) = by_test (ltb f (suc k)) (λ e. rw e (omega arith)) (λ e. rw e (omega arith))
late_size f (negsuc k) = omega arith

pub late_fits : (f : ℕ) (z : ℤ) → Bounded f z → SFits w32 (lateness_of f z)
late_fits f z b = record { sfits = omega (arith, late_size f z, b.early, b.near) }
