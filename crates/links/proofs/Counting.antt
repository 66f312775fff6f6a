-- How many numbers below n pass a test: two tests compared, one number more, and the links of a table counted.
use Prim.Native.Nat.{ℕ, zero, suc, ◌+◌, ◌≤◌, ◌<◌}
use mathlib.Core.Bool.{Bool, true, false}
use mathlib.Core.Path.{◌≡◌, refl, sym, ap, ◌∙◌}
use native.Mathlib.Omega.{arith}
use borrow.Author.Tests.{ltb-true, ltb-false}
use lib.Dec.{ltb}
use Rattle.rules.specs.Words.{when}
use Rattle.laws.proofs.Words.{by_test}
use Rattle.links.specs.Links.{counted}

-- A number below the next is below, or is it.
pub below_or_last : {P : Type 0} (k n : ℕ) → k < suc n → (k < n → P) → (k ≡ n → P) → P
below_or_last k n h f g = by_test (ltb k n) (λ e. f (ltb-true k n e)) (λ e. g (omega (arith, ltb-false k n e)))

module _ (p q : ℕ → Bool) where
  pub counted_same : (n : ℕ) → ((k : ℕ) → k < n → p k ≡ q k) → counted p n ≡ counted q n
  unfolding counted
  counted_same zero h = refl
  counted_same (suc n) h = rw (h n (omega arith), counted_same n (λ k l. h k (omega arith)))

  pub counted_le : (n : ℕ) → ((k : ℕ) → k < n → p k ≡ true → q k ≡ true) → counted p n ≤ counted q n
  unfolding counted
  counted_le zero h = omega arith
  counted_le (suc n) h =
      let ih : counted p n ≤ counted q n = counted_le n (λ k l. h k (omega arith)) in
      by_test (p n)
      (λ e. rw (e, h n (omega arith) e, when) (omega arith))
      (λ e. by_test (q n) (λ f. rw (e, f, when) (omega arith)) (λ f. rw (e, f, when) (omega arith)))

  -- One number passes the second test alone.
  pub counted_lt : (n : ℕ) → ((k : ℕ) → k < n → p k ≡ true → q k ≡ true) → (x : ℕ) → x < n → p x ≡ false → q x ≡ true
      → counted p n < counted q n
  unfolding counted
  counted_lt zero h x l np qx = absurd (omega arith)
  counted_lt (suc n) h x l np qx = below_or_last x n l
      (λ m. let ih : counted p n < counted q n = counted_lt n (λ k o. h k (omega arith)) x m np qx in
      by_test (p n)
      (λ e. rw (e, h n (omega arith) e, when) (omega arith))
      (λ e. by_test (q n) (λ f. rw (e, f, when) (omega arith)) (λ f. rw (e, f, when) (omega arith))))
      (λ m. let rest : counted p n ≤ counted q n = counted_le n (λ k o. h k (omega arith)) in
      let a : p n ≡ false = ap p (sym m) ∙ np in
      let b : q n ≡ true = ap q (sym m) ∙ qx in
      rw (a, b, when) (omega arith))

  -- The tests agree but for one number, which passes the second.
  pub counted_one : (n x : ℕ) → x < n → ((k : ℕ) → k < n → (k ≡ x → ⊥) → p k ≡ q k) → p x ≡ false → q x ≡ true
      → counted q n ≡ suc (counted p n)
  unfolding counted
  counted_one zero x l h np qx = absurd (omega arith)
  counted_one (suc n) x l h np qx = below_or_last x n l
      (λ m. let ih : counted q n ≡ suc (counted p n) = counted_one n x m (λ k o. h k (omega arith)) np qx in
      let e : p n ≡ q n = h n (omega arith) (λ z. absurd (omega arith)) in
      rw e (omega arith))
      (λ m. let rest : counted p n ≡ counted q n =
      counted_same n (λ k o. h k (omega arith) (λ z. absurd (omega arith))) in
      let a : p n ≡ false = ap p (sym m) ∙ np in
      let b : q n ≡ true = ap q (sym m) ∙ qx in
      rw (a, b, when) (omega arith))

module _ (p q r : ℕ → Bool) where
  -- What passes the first test passes one of the two others, and not both.
  pub counted_split : (n : ℕ) → ((k : ℕ) → k < n → when (p k) 1 0 ≡ when (q k) 1 0 + when (r k) 1 0)
      → counted p n ≡ counted q n + counted r n
  unfolding counted
  counted_split zero h = omega arith
  counted_split (suc n) h =
      let ih : counted p n ≡ counted q n + counted r n = counted_split n (λ k l. h k (omega arith)) in
      omega (arith, h n (omega arith))

none_pass : (n : ℕ) → counted (λ k. false) n ≡ 0
unfolding counted when
none_pass zero = refl
none_pass (suc n) = omega (arith, none_pass n)

all_pass : (n : ℕ) → counted (λ k. true) n ≡ n
unfolding counted when
all_pass zero = refl
all_pass (suc n) = omega (arith, all_pass n)

module _ (p : ℕ → Bool) where
  pub counted_most : (n : ℕ) → counted p n ≤ n
  counted_most n = omega (arith, counted_le p (λ k. true) n (λ k l e. refl), all_pass n)

  pub counted_none : (n : ℕ) → ((k : ℕ) → k < n → p k ≡ false) → counted p n ≡ 0
  counted_none n h = counted_same p (λ k. false) n h ∙ none_pass n

  pub counted_all : (n : ℕ) → ((k : ℕ) → k < n → p k ≡ true) → counted p n ≡ n
  counted_all n h = counted_same p (λ k. true) n h ∙ all_pass n

  pub all_counted : (n : ℕ) → counted p n ≡ n → (k : ℕ) → k < n → p k ≡ true
  all_counted n h k l = by_test (p k)
      (λ e. e)
      (λ e. absurd (omega (arith, counted_lt p (λ k. true) n (λ j o x. refl) k l e refl, all_pass n)))

  -- One at least passes: here is one.
  pub some-counted : (n : ℕ) → 0 < counted p n → (k : ℕ) × (k < n) × (p k ≡ true)
  unfolding counted when
  some-counted zero h = absurd (omega arith)
  some-counted (suc n) h = go (p n) refl h (λ l. some-counted n l)
    where
      go : (b : Bool) → p n ≡ b → 0 < when b 1 0 + counted p n → (0 < counted p n → (k : ℕ) × (k < n) × (p k ≡ true))
          → (k : ℕ) × (k < suc n) × (p k ≡ true)
      go true e l ih = (n, omega arith, e)
      go false e l ih = let w = ih (omega arith) in (w.0, omega (arith, w.1), w.2)
