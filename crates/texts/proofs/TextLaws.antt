-- The digits of a number as the rules write them are those that the library prints.
use Rattle.std.specs.Prelude.{false, ℕ, zero, suc, ◌+◌, ◌/◌, ◌%◌, ◌≤◌, ◌<◌, eqb, ℤ, pos, negsuc}
use Rattle.std.specs.Prelude.{List, [], ◌∷◌, ◌++◌, length, ◌≡◌}
use Rattle.std.proofs.Common.{refl, sym, ap, ◌∙◌, arith, append_assoc, append-nil}
use Rattle.std.specs.Fmt.{decimal, signed_decimal, digits_onto, digit_glyph, digits as printed}
use borrow.Author.Tests.{lt-ltb, eqb-true, eqb-false, eq-eqb, ne_eqb}
use Rattle.rules.specs.Listing.{digits_within, digits, signed_digits}
use Rattle.laws.proofs.Words.{by_test}
use Rattle.texts.proofs.DigitLaws.{one_digit, more_digits}

-- The digits that the library prints by the cases of its definition.
last_digit : (k n : ℕ) (acc : List ℕ) → n / 10 ≡ 0 → digits_onto (suc k) 10 false n acc ≡ digit_glyph false (n % 10) ∷ acc
last_digit k n acc h = rw (eq-eqb (n / 10) 0 h)

next_digit : (k n : ℕ) (acc : List ℕ) → (n / 10 ≡ 0 → ⊥)
    → digits_onto (suc k) 10 false n acc ≡ digits_onto k 10 false (n / 10) (digit_glyph false (n % 10) ∷ acc)
next_digit k n acc h = rw (ne_eqb (n / 10) 0 h)

-- Every number has a digit.
grows : (k n : ℕ) (acc : List ℕ) → length acc < length (digits_onto (suc k) 10 false n acc)
grows zero n acc = by_test (eqb (n / 10) 0)
    (λ e. rw (last_digit 0 n acc (eqb-true (n / 10) 0 e)) (omega arith))
    (λ e. rw (next_digit 0 n acc (eqb-false (n / 10) 0 e)) (omega arith))
grows (suc k) n acc = by_test (eqb (n / 10) 0)
    (λ e. rw (last_digit (suc k) n acc (eqb-true (n / 10) 0 e)) (omega arith))
    (λ e. rw (next_digit (suc k) n acc (eqb-false (n / 10) 0 e))
    (omega (arith, grows k (n / 10) (digit_glyph false (n % 10) ∷ acc))))

-- Where the digits are no more than k, they are those that the rules write within k.
onto : (k more n : ℕ) (acc : List ℕ) → length (digits_onto (k + more) 10 false n acc) ≤ k + length acc
    → digits_onto (k + more) 10 false n acc ≡ digits_within k n ++ acc
unfolding digits_within
onto zero zero n acc h = refl
onto zero (suc more) n acc h =
    let fuel : 0 + suc more ≡ suc more = omega arith in absurd (omega (arith, rw fuel at h, grows more n acc))
onto (suc k) more n acc h =
    let fuel : suc k + more ≡ suc (k + more) = omega arith in
    by_test (eqb (n / 10) 0)
    (λ e. let last : n / 10 ≡ 0 = eqb-true (n / 10) 0 e in
    let small : n < 10 = omega (arith, last) in
    let whole : n % 10 ≡ n = omega arith in
    rw (fuel, last_digit (k + more) n acc last, one_digit k n small, whole) (ap (λ d. d ∷ acc) (glyph n small)))
    (λ e. let more_left : n / 10 ≡ 0 → ⊥ = eqb-false (n / 10) 0 e in
    let large : 10 ≤ n = omega (arith, more_left) in
    let on = next_digit (k + more) n acc more_left in
    rw (fuel, on, glyph (n % 10) (omega arith), more_digits k n large)
    (onto k more (n / 10) ((48 + n % 10) ∷ acc)
    (omega (arith, rw (fuel, on, glyph (n % 10) (omega arith)) at h))
    ∙ sym (append_assoc (digits_within k (n / 10)) ((48 + n % 10) ∷ []) acc)))
  where
    glyph : (d : ℕ) → d < 10 → digit_glyph false d ≡ 48 + d
    glyph d h = rw (lt-ltb d 10 h)

-- A number that the library prints in at most twenty digits.
pub decimal_is : (n : ℕ) → length (decimal n) ≤ 20 → decimal n ≡ digits n
unfolding digits printed
decimal_is n h = onto 20 44 n [] (omega (arith, h)) ∙ append-nil (digits_within 20 n)

pub signed_decimal_is : (z : ℤ) → length (signed_decimal z) ≤ 20 → signed_decimal z ≡ signed_digits z
unfolding signed_digits
signed_decimal_is (pos n) h = decimal_is n h
signed_decimal_is (negsuc n) h = ap (λ ds. 45 ∷ ds) (ap decimal (add_one n) ∙ decimal_is (n + 1) (rw (add_one n) at short))
  where
    add_one : (n : ℕ) → suc n ≡ n + 1
    add_one n = omega arith

    short : length (decimal (suc n)) ≤ 20
    short = omega (arith, h)
