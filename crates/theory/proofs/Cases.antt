-- Going by cases: a number is at most another or above it, the same or not; and a few facts of tests beside those of
-- the shared words. Assumes nothing.
use mathlib.Core.Path.{◌≡◌, refl, sym, ◌∙◌}
use mathlib.Core.Bool.{Bool, true, false, ◌||◌}
use Prim.Native.Nat.{ℕ, ◌≤◌, ◌<◌}
use lib.Dec.{leb, eqb}
use borrow.Author.Tests.{leb-true, leb-false, eqb-true, eqb-false}
use Rattle.laws.proofs.Words.{by_test, true_or_false}

pub by_le : {P : Type 0} (a b : ℕ) → (a ≤ b → P) → (b < a → P) → P
by_le a b small large = by_test (leb a b) (λ e. small (leb-true a b e)) (λ e. large (leb-false a b e))

pub by_eq : {P : Type 0} (a b : ℕ) → (a ≡ b → P) → ((a ≡ b → ⊥) → P) → P
by_eq a b same other = by_test (eqb a b) (λ e. same (eqb-true a b e)) (λ e. other (eqb-false a b e))

-- a test cannot have both outcomes
pub clash : {P : Type 0} {b : Bool} → b ≡ true → b ≡ false → P
clash p q = true_or_false (sym p ∙ q)

pub or_rest : (a : Bool) → (a || false) ≡ a
or_rest true = refl
or_rest false = refl

-- two tests that imply each other are equal
pub test_ext : (a b : Bool) → (a ≡ true → b ≡ true) → (b ≡ true → a ≡ true) → a ≡ b
test_ext true b f g = sym (f refl)
test_ext false true f g = g refl
test_ext false false f g = refl
