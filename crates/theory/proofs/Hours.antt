-- Opening hours, as far as the desk needs them: which slots are open, and the least moment by which k slots have
-- been open since t. A desk that is always open is one case, with t + k. Assumes nothing.
use mathlib.Core.Path.{◌≡◌, ◌∙◌}
use mathlib.Core.Bool.{Bool, true}
use Prim.Native.Nat.{ℕ, zero, suc, ◌+◌, ◌*◌, ◌≤◌, ◌<◌}
use native.Mathlib.Omega.{arith}
use native.Mathlib.Nat.{le_antisymm}
use Rattle.theory.proofs.Cases.{by_le}
use Rattle.theory.proofs.Count.{cnt, cnt_ext, cnt_true}

pub record Hours (opens : ℕ → Bool) (open_end : ℕ → ℕ → ℕ) : Type 0 where
  pub from : (t k : ℕ) → t ≤ open_end t k
  pub count : (t k : ℕ) → cnt opens (open_end t k) ≡ cnt opens t + k
  pub least : (t k u : ℕ) → t ≤ u → cnt opens t + k ≤ cnt opens u → open_end t k ≤ u

-- always open
pub cnt_always : (opens : ℕ → Bool) → ((s : ℕ) → opens s ≡ true) → (t : ℕ) → cnt opens t ≡ t
cnt_always opens always t = cnt_ext opens (λ s. true) t (λ k h. always k) ∙ cnt_true t

pub hours_always : (opens : ℕ → Bool) → ((s : ℕ) → opens s ≡ true) → Hours opens (λ t k. t + k)
hours_always opens always = record {
  from = λ t k. omega arith;
  count = λ t k. omega (arith, cnt_always opens always (t + k), cnt_always opens always t);
  least = λ t k u h e. omega (arith, cnt_always opens always t, cnt_always opens always u);
}

module _ (opens : ℕ → Bool) (open_end : ℕ → ℕ → ℕ) (H : Hours opens open_end) where
  pub open_end-zero : (t : ℕ) → open_end t 0 ≡ t
  open_end-zero t = le_antisymm (H.least t 0 t (omega arith) (omega arith)) (H.from t 0)

  pub open_end_mono : (t k l : ℕ) → k ≤ l → open_end t k ≤ open_end t l
  open_end_mono t k l h = H.least t k (open_end t l) (H.from t l) (omega (arith, H.count t l))

  -- before the end fewer than k slots have been open
  pub before_end : (t k u : ℕ) → t ≤ u → u < open_end t k → cnt opens u < cnt opens t + k
  before_end t k u h l =
      by_le (cnt opens t + k) (cnt opens u)
      (λ z. absurd (omega (arith, H.least t k u h z)))
      (λ z. z)

-- where every p slots have an open one, k open slots take at most p * k
pub steady : (opens : ℕ → Bool) (p : ℕ) → ((t : ℕ) → cnt opens t < cnt opens (t + p)) → (t k : ℕ)
    → cnt opens t + k ≤ cnt opens (t + p * k)
steady opens p week t zero = let z : t + p * 0 ≡ t = omega arith in rw z (omega arith)
steady opens p week t (suc k) =
    let z : t + p * suc k ≡ t + p * k + p = omega arith in
    rw z (omega (arith, steady opens p week t k, week (t + p * k)))

pub open_end_steady : (opens : ℕ → Bool) (open_end : ℕ → ℕ → ℕ) → Hours opens open_end → (p : ℕ)
    → ((t : ℕ) → cnt opens t < cnt opens (t + p)) → (t k : ℕ) → open_end t k ≤ t + p * k
open_end_steady opens open_end H p week t k = H.least t k (t + p * k) (omega arith) (steady opens p week t k)
