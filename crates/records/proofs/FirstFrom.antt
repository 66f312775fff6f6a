-- The first record of a kind, looked for one by one: what is left to look at gives the whole answer.
use Prim.Native.Nat.{ℕ, zero, suc, ◌+◌, ◌-◌, ◌≤◌, ◌<◌}
use mathlib.Core.Bool.{Bool, true, false, not, beq}
use mathlib.Core.List.{List}
use mathlib.Core.Path.{◌≡◌, refl, sym, ◌∙◌}
use native.Mathlib.Omega.{arith}
use Rattle.rules.specs.Words.{when}
use Rattle.rules.specs.DeskRuns.{is_run_of, first_from}
use Rattle.records.specs.Handed.{looked_for}
use Rattle.laws.proofs.Words.{by_test, when_true, when_false}

module _ (wanted : ℕ → Bool) (whole k : ℕ) where
  pub first_here : k < whole → wanted k ≡ true → first_from wanted (whole - k) k ≡ k
  unfolding first_from
  first_here h e =
      let q : whole - k ≡ suc (whole - suc k) = omega arith in rw q (when_true (wanted k) k _ e)

  pub first_later : k < whole → wanted k ≡ false
      → first_from wanted (whole - (k + 1)) (k + 1) ≡ first_from wanted (whole - k) k
  unfolding first_from
  first_later h e =
      let q : whole - k ≡ suc (whole - (k + 1)) = omega arith in rw q (sym (when_false (wanted k) k _ e))

  pub first_nowhere : whole ≤ k → first_from wanted (whole - k) k ≡ k
  unfolding first_from
  first_nowhere h = let q : whole - k ≡ 0 = omega arith in rw q

-- The answer lies among the records looked at, or right behind them.
pub first_within : (wanted : ℕ → Bool) (n k : ℕ) → (k ≤ first_from wanted n k) × (first_from wanted n k ≤ k + n)
unfolding first_from when
first_within wanted zero k = (omega arith, omega arith)
first_within wanted (suc n) k =
    let ih = first_within wanted n (k + 1) in
    by_test (wanted k)
    (λ e. rw (e, when) (omega arith, omega arith))
    (λ e. rw (e, when) (omega (arith, ih.0), omega (arith, ih.1)))

-- What the code asks of a record is whether it is as wanted.
pub looked_is : (records : List ℕ) (desk : ℕ) (wanted : Bool) (i : ℕ) {b answer : Bool}
    → b ≡ is_run_of records desk i → beq b wanted ≡ answer → looked_for records desk wanted i ≡ answer
looked_is records desk true i e h = sym (beq_true (is_run_of records desk i)) ∙ rw e at h
  where
    beq_true : (b : Bool) → beq b true ≡ b
    beq_true true = refl
    beq_true false = refl
looked_is records desk false i e h = sym (beq_false (is_run_of records desk i)) ∙ rw e at h
  where
    beq_false : (b : Bool) → beq b false ≡ not b
    beq_false true = refl
    beq_false false = refl
