-- The moment at which a number has had its d slots. It can be counted: it is the number of moments at which the
-- number is unfinished; and it is one past the last slot in which it is worked on. Assumes nothing.
use mathlib.Core.Path.{◌≡◌, refl}
use mathlib.Core.Bool.{Bool, true, false}
use mathlib.Core.Option.{some}
use Prim.Native.Nat.{ℕ, zero, suc, ◌≤◌, ◌<◌}
use native.Mathlib.Omega.{arith}
use native.Mathlib.Nat.{le_antisymm}
use lib.Dec.{ltb}
use borrow.Author.Tests.{ltb-true, ltb-false, lt-ltb, le-ltb}
use Rattle.rules.specs.Words.{is_it}
use Rattle.laws.proofs.Words.{by_test}
use Rattle.theory.proofs.Cases.{by_le, clash}
use Rattle.theory.proofs.Count.{cnt, cnt_zero, cnt_hit, cnt_miss, cnt_mono, cnt_ext, cnt_true, cnt_le}
use Rattle.theory.proofs.Plans as Plans
use Rattle.theory.proofs.Plans.{Plan, did}

-- c is the first moment at which i has had d slots
pub record Finish (w : Plan) (i d c : ℕ) : Type 0 where
  pub done : d ≤ did w i c
  pub first : (t : ℕ) → d ≤ did w i t → c ≤ t

-- the moments before h at which i is unfinished
unfoldable pub finish_by : Plan → ℕ → ℕ → ℕ → ℕ
finish_by w i d h = cnt (λ t. ltb (did w i t) d) h

-- a test that stays false once it is false: it holds below its count and fails there
module _ (u : ℕ → Bool) (down : (s t : ℕ) → s ≤ t → u t ≡ true → u s ≡ true) where
  below_count : (t h : ℕ) → t < cnt u h → u t ≡ true
  below_count t zero k = absurd (omega (arith, cnt_zero u))
  below_count t (suc h) k =
      by_test (u h)
      (λ e. down t h (omega (arith, cnt_hit u h e, cnt_le u h)) e)
      (λ e. below_count t h (omega (arith, cnt_miss u h e)))

  at_count : (h : ℕ) → u h ≡ false → u (cnt u h) ≡ false
  at_count h e =
      by_test (u (cnt u h))
      (λ k.
      by_le h (cnt u h)
      (λ z. clash (down h (cnt u h) z k) e)
      (λ z.
      absurd
      (omega (
        arith,
        cnt_mono u (suc (cnt u h)) h z,
        cnt_ext u (λ s. true) (suc (cnt u h)) (λ s a. down s (cnt u h) (omega arith) k),
        cnt_true (suc (cnt u h)),
      ))))
      (λ k. k)

module _ (w : Plan) (i d : ℕ) where
  pub finish_by_lem : (h : ℕ) → d ≤ did w i h → Finish w i d (finish_by w i d h)
  unfolding finish_by
  finish_by_lem h k = record {
    done = ltb-false (did w i (cnt u h)) d (at_count u down h (le-ltb (did w i h) d k));
    first = λ t z.
        by_le (cnt u h) t (λ y. y)
        (λ y. clash (below_count u down t h y) (le-ltb (did w i t) d z));
  }
    where
      u : ℕ → Bool
      u = λ t. ltb (did w i t) d

      down : (s t : ℕ) → s ≤ t → u t ≡ true → u s ≡ true
      down s t a b =
          lt-ltb (did w i s) d (omega (arith, ltb-true (did w i t) d b, cnt_mono (λ k. is_it (w k) i) s t a))

  pub finish_unique : (c e : ℕ) → Finish w i d c → Finish w i d e → c ≡ e
  finish_unique c e f g = le_antisymm (f.first e g.done) (g.first c f.done)

  -- one past the last slot worked
  pub finish_last : (c : ℕ) → Finish w i d c → 1 ≤ d → (k : ℕ) × (c ≡ suc k) × (w k ≡ some i)
  finish_last zero f h = absurd (omega (arith, f.done, cnt_zero (λ s. is_it (w s) i)))
  finish_last (suc k) f h =
      by_test (is_it (w k) i)
      (λ e. (k, refl, Plans.works-some (w k) i e))
      (λ e.
      absurd
      (omega (arith, f.first k (omega (arith, f.done, cnt_miss (λ s. is_it (w s) i) k e)))))

  pub finish_over : (c : ℕ) → Finish w i d c → ((t : ℕ) → did w i t ≤ d) → (t : ℕ) → c ≤ t → w t ≡ some i → ⊥
  finish_over c f most t h e =
      omega (
        arith,
        f.done,
        most (suc t),
        cnt_hit (λ s. is_it (w s) i) t (Plans.some-works (w t) i e),
        cnt_mono (λ s. is_it (w s) i) c t h,
      )
