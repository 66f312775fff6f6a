-- The order of urgency over anything that has a latest moment and a number: the smaller latest moment goes first, the
-- lower number where equal. The plan's order of pieces and the block method's order of entries are both this one.
use Prim.Native.Nat.{ℕ, ◌<◌}
use mathlib.Core.Bool.{Bool, true, false, ◌&&◌, ◌||◌}
use mathlib.Core.Logic.{◌⊎◌, inl, inr, ⊎_elim}
use mathlib.Core.Path.{◌≡◌}
use native.Mathlib.Omega.{arith}
use borrow.Author.Tests.{ltb-true, ltb-false, lt-ltb}
use lib.Dec.{ltb}
use lib.IntN.{ℤ}
use lib.Signed.{lt_z, le_z}
use Rattle.laws.proofs.Words.{by_test, and_true, and_false, and_intro, or_left, or_right, or_true, or_false}
use Rattle.laws.proofs.Signed.{◌≼◌, ◌≺◌, lt_z_lt, lt_z_le, le_z_le, le_z_lt, lt_lt_z, le_le_z}

module _ {E : Type 0} (latest : E → ℤ) (num : E → ℕ) where
  unfoldable pub earlier : E → E → Bool
  earlier a b = lt_z (latest a) (latest b) || (le_z (latest a) (latest b) && ltb (num a) (num b))

  -- The same as a fact about numbers.
  abbrev pub Earlier : E → E → Type 0
  Earlier a b = (latest a ≺ latest b) ⊎ ((latest a ≼ latest b) × (num a < num b))

  pub earlier_fact : (a b : E) → earlier a b ≡ true → Earlier a b
  unfolding earlier
  earlier_fact a b h =
      ⊎_elim
      (λ e. inl (lt_z_lt (latest a) (latest b) e))
      (λ e.
      let k = and_true (le_z (latest a) (latest b)) (ltb (num a) (num b)) e in
      inr (le_z_le (latest a) (latest b) k.0, ltb-true (num a) (num b) k.1))
      (or_true (lt_z (latest a) (latest b)) (le_z (latest a) (latest b) && ltb (num a) (num b)) h)

  pub fact_earlier : (a b : E) → Earlier a b → earlier a b ≡ true
  unfolding earlier
  fact_earlier a b (inl h) = or_left _ _ (lt_lt_z (latest a) (latest b) h)
  fact_earlier a b (inr h) =
      or_right (lt_z (latest a) (latest b)) _
      (and_intro _ _ (le_le_z (latest a) (latest b) h.0) (lt-ltb (num a) (num b) h.1))

  clash : (a b : E) → Earlier a b → Earlier b a → ⊥
  clash a b (inl h) (inl k) = omega arith
  clash a b (inl h) (inr k) = omega (arith, k.0)
  clash a b (inr h) (inl k) = omega (arith, h.0)
  clash a b (inr h) (inr k) = omega (arith, h.1, k.1)

  pub earlier_asym : (a b : E) → earlier a b ≡ true → earlier b a ≡ false
  earlier_asym a b h =
      by_test (earlier b a) (λ e. absurd (clash a b (earlier_fact a b h) (earlier_fact b a e))) (λ e. e)

  onward : (a b c : E) → Earlier a b → Earlier b c → Earlier a c
  onward a b c (inl h) (inl k) = inl (omega arith)
  onward a b c (inl h) (inr k) = inl (omega (arith, k.0))
  onward a b c (inr h) (inl k) = inl (omega (arith, h.0))
  onward a b c (inr h) (inr k) = inr (omega (arith, h.0, k.0), omega (arith, h.1, k.1))

  pub earlier_trans : (a b c : E) → earlier a b ≡ true → earlier b c ≡ true → earlier a c ≡ true
  earlier_trans a b c h k = fact_earlier a c (onward a b c (earlier_fact a b h) (earlier_fact b c k))

  -- Of two with different numbers one goes before the other.
  pub earlier_total : (a b : E) → (num a ≡ num b → ⊥) → earlier a b ≡ false → earlier b a ≡ true
  unfolding earlier
  earlier_total a b ne h =
      let w = or_false (lt_z (latest a) (latest b)) (le_z (latest a) (latest b) && ltb (num a) (num b)) h in
      fact_earlier b a
      (go (lt_z_le _ _ w.0) (and_false (le_z (latest a) (latest b)) (ltb (num a) (num b)) w.1))
    where
      go : latest b ≼ latest a → (le_z (latest a) (latest b) ≡ false) ⊎ (ltb (num a) (num b) ≡ false) → Earlier b a
      go k (inl e) = inl (le_z_lt _ _ e)
      go k (inr e) = inr (k, omega (arith, ne, ltb-false (num a) (num b) e))

  pub earlier_latest : (a b : E) → earlier a b ≡ true → latest a ≼ latest b
  earlier_latest a b h = ⊎_elim (λ e. omega arith) (λ e. e.0) (earlier_fact a b h)
