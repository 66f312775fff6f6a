-- How many digits a number has at most: as many as it may have.
use Rattle.std.specs.Prelude.{ℕ, zero, suc, ◌+◌, ◌/◌, ◌%◌, ◌≤◌, ◌<◌, [], ◌∷◌, ◌++◌, ◌≡◌, ltb, length, ℤ, pos, negsuc}
use Rattle.std.proofs.Common.{arith, length-append}
use borrow.Author.Tests.{lt-ltb, le-ltb, ltb-true, ltb-false}
use Rattle.rules.specs.Listing.{digits_within, digits, signed_digits}
use Rattle.laws.proofs.Words.{by_test, when_true, when_false}

-- Digits by the cases of the definition.
pub one_digit : (k n : ℕ) → n < 10 → digits_within (suc k) n ≡ (48 + n) ∷ []
unfolding digits_within
one_digit k n l = when_true _ _ _ (lt-ltb n 10 l)

pub more_digits : (k n : ℕ) → 10 ≤ n → digits_within (suc k) n ≡ digits_within k (n / 10) ++ ((48 + n % 10) ∷ [])
unfolding digits_within
more_digits k n l = when_false _ _ _ (le-ltb n 10 l)

pub few_digits : (k n : ℕ) → length (digits_within k n) ≤ k
unfolding digits_within
few_digits zero n = omega arith
few_digits (suc k) n = by_test (ltb n 10)
    (λ e. rw (one_digit k n (ltb-true n 10 e)) (omega arith))
    (λ e. rw (more_digits k n (ltb-false n 10 e))
    (omega (arith, few_digits k (n / 10), length-append (digits_within k (n / 10)) ((48 + n % 10) ∷ []))))

pub number_fits : (n : ℕ) → length (digits n) ≤ 20
unfolding digits
number_fits n = few_digits 20 n

pub signed_fits : (z : ℤ) → length (signed_digits z) ≤ 21
unfolding signed_digits
signed_fits (pos n) = omega (arith, number_fits n)
signed_fits (negsuc n) = omega (arith, number_fits (n + 1))
