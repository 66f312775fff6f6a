-- Counting slots: `cnt f t` is the number of slots before moment t that pass the test f. Everything a plan does is
-- said by such counts, so the laws here are the arithmetic of the whole crate. Assumes nothing.
use mathlib.Core.Path.{◌≡◌, refl}
use mathlib.Core.Bool.{Bool, true, false, ◌&&◌, ◌||◌}
use Prim.Native.Nat.{ℕ, zero, suc, ◌+◌, ◌-◌, ◌≤◌, ◌<◌, min}
use native.Mathlib.Omega.{arith}
use lib.Dec.{ltb}
use borrow.Author.Tests.{ltb-true, ltb-false, lt-ltb, le-ltb}
use Rattle.laws.proofs.Words.{by_test}
use Rattle.theory.proofs.Cases.{by_le, clash}

unfoldable pub bit : Bool → ℕ
bit true = 1
bit false = 0

unfoldable pub cnt : (ℕ → Bool) → ℕ → ℕ
cnt f zero = 0
cnt f (suc t) = cnt f t + bit (f t)

pub bit_le : (b : Bool) → bit b ≤ 1
unfolding bit
bit_le true = omega arith
bit_le false = omega arith

pub bit_mono : (a b : Bool) → (a ≡ true → b ≡ true) → bit a ≤ bit b
unfolding bit
bit_mono false b h = omega arith
bit_mono true b h = rw (h refl) (omega arith)

pub bit_less : (a b : Bool) → (a ≡ true → ⊥) → b ≡ true → bit a < bit b
unfolding bit
bit_less true b h k = absurd (h refl)
bit_less false b h k = rw k (omega arith)

pub cnt_zero : (f : ℕ → Bool) → cnt f 0 ≡ 0
unfolding cnt
cnt_zero f = refl

pub cnt_suc : (f : ℕ → Bool) (t : ℕ) → cnt f (suc t) ≡ cnt f t + bit (f t)
unfolding cnt
cnt_suc f t = refl

pub cnt_hit : (f : ℕ → Bool) (t : ℕ) → f t ≡ true → cnt f (suc t) ≡ suc (cnt f t)
unfolding cnt bit
cnt_hit f t h = rw h (omega arith)

pub cnt_miss : (f : ℕ → Bool) (t : ℕ) → f t ≡ false → cnt f (suc t) ≡ cnt f t
unfolding cnt bit
cnt_miss f t h = rw h (omega arith)

-- where f implies g from s on, f gains at most as much as g
pub cnt_gain : (f g : ℕ → Bool) (s t : ℕ) → s ≤ t → ((k : ℕ) → s ≤ k → k < t → f k ≡ true → g k ≡ true)
    → cnt f t + cnt g s ≤ cnt g t + cnt f s
unfolding cnt
cnt_gain f g s zero h imp = let z : s ≡ 0 = omega arith in rw z (omega arith)
cnt_gain f g s (suc t) h imp =
    by_le s t
    (λ k.
    omega (
      arith,
      cnt_gain f g s t k (λ n a b. imp n a (omega arith)),
      bit_mono (f t) (g t) (imp t k (omega arith)),
    ))
    (λ k. let z : s ≡ suc t = omega arith in rw z (omega arith))

pub cnt_imp : (f g : ℕ → Bool) (t : ℕ) → ((k : ℕ) → k < t → f k ≡ true → g k ≡ true) → cnt f t ≤ cnt g t
cnt_imp f g t imp =
    omega (arith, cnt_gain f g 0 t (omega arith) (λ k a. imp k), cnt_zero f, cnt_zero g)

pub cnt_ext : (f g : ℕ → Bool) (t : ℕ) → ((k : ℕ) → k < t → f k ≡ g k) → cnt f t ≡ cnt g t
unfolding cnt
cnt_ext f g zero same = refl
cnt_ext f g (suc t) same =
    rw (cnt_ext f g t (λ k h. same k (omega arith)), same t (omega arith))

pub cnt_true : (t : ℕ) → cnt (λ s. true) t ≡ t
unfolding cnt bit
cnt_true zero = refl
cnt_true (suc t) = omega (arith, cnt_true t)

pub cnt_false : (f : ℕ → Bool) (t : ℕ) → ((k : ℕ) → k < t → f k ≡ false) → cnt f t ≡ 0
unfolding cnt bit
cnt_false f zero misses = refl
cnt_false f (suc t) misses =
    let ih : cnt f t ≡ 0 = cnt_false f t (λ k h. misses k (omega arith)) in
    rw (misses t (omega arith)) (omega arith)

pub cnt_mono : (f : ℕ → Bool) (s t : ℕ) → s ≤ t → cnt f s ≤ cnt f t
cnt_mono f s t h =
    omega (
      arith,
      cnt_gain (λ k. false) f s t h (λ k a b e. clash e refl),
      cnt_false (λ k. false) s (λ k a. refl),
      cnt_false (λ k. false) t (λ k a. refl),
    )

pub cnt_lipschitz : (f : ℕ → Bool) (s t : ℕ) → s ≤ t → cnt f t ≤ cnt f s + (t - s)
cnt_lipschitz f s t h =
    omega (arith, cnt_gain f (λ k. true) s t h (λ k a b e. refl), cnt_true s, cnt_true t)

pub cnt_le : (f : ℕ → Bool) (t : ℕ) → cnt f t ≤ t
cnt_le f t = omega (arith, cnt_lipschitz f 0 t (omega arith), cnt_zero f)

-- a test that no slot passes with another one: the counts add
bit_or : (a b : Bool) → (a ≡ true → b ≡ true → ⊥) → bit (a || b) ≡ bit a + bit b
unfolding bit
bit_or true true h = absurd (h refl refl)
bit_or true false h = refl
bit_or false b h = omega arith

pub cnt_or : (f g : ℕ → Bool) (t : ℕ) → ((k : ℕ) → k < t → f k ≡ true → g k ≡ true → ⊥)
    → cnt (λ s. f s || g s) t ≡ cnt f t + cnt g t
unfolding cnt
cnt_or f g zero apart = refl
cnt_or f g (suc t) apart =
    omega (
      arith,
      cnt_or f g t (λ k h. apart k (omega arith)),
      bit_or (f t) (g t) (apart t (omega arith)),
    )

-- the first d slots that pass u, and how many of them lie before t
unfoldable pub first_n : ℕ → (ℕ → Bool) → ℕ → Bool
first_n d u t = u t && ltb (cnt u t) d

pub cnt_first_n : (d : ℕ) (u : ℕ → Bool) (t : ℕ) → cnt (first_n d u) t ≡ min (cnt u t) d
unfolding cnt first_n bit
cnt_first_n d u zero = omega arith
cnt_first_n d u (suc t) =
    let ih : cnt (first_n d u) t ≡ min (cnt u t) d = cnt_first_n d u t in
    by_test (u t)
    (λ e. by_test (ltb (cnt u t) d)
    (λ h. rw (e, h) (omega (arith, ltb-true)))
    (λ h. rw (e, h) (omega (arith, ltb-false))))
    (λ e. rw e (omega arith))

-- a test that is "u, and fewer than d so far" is the test of the first d
ltb-min : (a d : ℕ) → ltb (min a d) d ≡ ltb a d
ltb-min a d =
    by_le d a
    (λ h. rw (le-ltb a d h, le-ltb (min a d) d (omega arith)))
    (λ h. rw (lt-ltb a d h, lt-ltb (min a d) d (omega arith)))

module _ (d : ℕ) (u g : ℕ → Bool) (step : (t : ℕ) → g t ≡ (u t && ltb (cnt g t) d)) where
  first_n_same : (t : ℕ) → cnt g t ≡ cnt (first_n d u) t → g t ≡ first_n d u t
  unfolding first_n
  first_n_same t e = rw (step t, e, cnt_first_n d u t, ltb-min)

  first_n_count : (t : ℕ) → cnt g t ≡ cnt (first_n d u) t
  unfolding cnt
  first_n_count zero = refl
  first_n_count (suc t) =
      let ih : cnt g t ≡ cnt (first_n d u) t = first_n_count t in
      rw (first_n_same t ih, ih)

pub first_n_unique : (d : ℕ) (u g : ℕ → Bool) → ((t : ℕ) → g t ≡ (u t && ltb (cnt g t) d)) → (t : ℕ)
    → g t ≡ first_n d u t
first_n_unique d u g step t = first_n_same d u g step t (first_n_count d u g step t)

-- a count that grows has a slot to grow by
pub cnt_find : (f : ℕ → Bool) (s t : ℕ) → cnt f s < cnt f t → (k : ℕ) × (s ≤ k) × (k < t) × (f k ≡ true)
unfolding cnt bit
cnt_find f s zero h = absurd (omega arith)
cnt_find f s (suc t) h =
    by_test (f t)
    (λ e. by_le s t (λ k. (t, k, omega arith, e)) (λ k. absurd (omega (arith, cnt_mono f (suc t) s k))))
    (λ e.
    let h' : cnt f s < cnt f t = omega (arith, cnt_miss f t e) in
    let r = cnt_find f s t h' in
    (r.0, r.1, omega (arith, r.2), r.3))
