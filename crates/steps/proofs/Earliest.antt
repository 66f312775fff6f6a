-- The earliest of a moment and of those at which the pieces that are worked on would be finished. It is the moment or
-- one of them, and none comes before it.
use Prim.Native.Nat.{ℕ, zero, suc, ◌+◌, ◌≤◌, ◌<◌}
use mathlib.Core.List.{List}
use mathlib.Core.Logic.{◌⊎◌, inl, inr}
use mathlib.Core.Path.{◌≡◌, refl}
use native.Mathlib.Omega.{arith}
use borrow.Author.Tests.{ltb-true, ltb-false}
use lib.Dec.{ltb}
use lib.ListN.{get_or}
use Rattle.laws.proofs.Words.{by_test}
use Rattle.steps.specs.Choice.{end_next}

module _ (t : ℕ) (left : List ℕ) (f : ℕ → ℕ) where
  pub end_most : (k m : ℕ) → end_next t left f k m ≤ m
  unfolding end_next
  end_most zero m = omega arith
  end_most (suc k) m = omega (arith, end_most k m)

  pub end_counts : (k m q : ℕ) → q < k → end_next t left f k m ≤ t + get_or left (f q) 0
  unfolding end_next
  end_counts zero m q h = absurd (omega arith)
  end_counts (suc k) m q h = by_test (ltb q k)
      (λ e. omega (arith, end_counts k m q (ltb-true q k e)))
      (λ e. let z : q ≡ k = omega (arith, ltb-false q k e) in rw z (omega arith))

  pub end_above : (k m : ℕ) → t < m → ((q : ℕ) → q < k → 0 < get_or left (f q) 0) → t < end_next t left f k m
  unfolding end_next
  end_above zero m h u = h
  end_above (suc k) m h u =
      let ih : t < end_next t left f k m = end_above k m h (λ q l. u q (omega arith)) in
      omega (arith, u k (omega arith))

  -- Nobody works, and it is the moment; or somebody does.
  pub end_from : (k m : ℕ) → (end_next t left f k m ≡ m) ⊎ (0 < k)
  unfolding end_next
  end_from zero m = inl refl
  end_from (suc k) m = inr (omega arith)

-- It asks for no more than who those pieces are.
pub end_same : (t : ℕ) (left : List ℕ) (f g : ℕ → ℕ) (k m : ℕ) → ((q : ℕ) → q < k → f q ≡ g q)
    → end_next t left f k m ≡ end_next t left g k m
unfolding end_next
end_same t left f g zero m h = refl
end_same t left f g (suc k) m h =
    rw (end_same t left f g k m (λ q l. h q (omega arith)), h k (omega arith))
