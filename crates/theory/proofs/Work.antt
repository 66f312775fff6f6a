-- The work on a set of entries: the slots in which the number worked on is that of an entry of the list in the set
-- X. It is the sum of what was done of each of them. Assumes nothing.
use mathlib.Core.Path.{◌≡◌, refl, sym, ◌∙◌}
use mathlib.Core.Bool.{Bool, true, false, ◌&&◌}
use mathlib.Core.Option.{Option, some-injective}
use mathlib.Core.List.{List, [], ◌∷◌}
use Prim.Native.Nat.{ℕ, ◌≤◌}
use native.Mathlib.Omega.{arith}
use Rattle.rules.specs.Words.{is_it, one_of, sum}
use Rattle.laws.proofs.Words.{and_true, and_intro, one_of_intro, one_of_found}
use Rattle.theory.proofs.Cases.{test_ext}
use Rattle.theory.proofs.Count.{cnt, cnt_or, cnt_false}
use Rattle.theory.proofs.Lists.{◌∈◌, Distinct, sum_of}
use Rattle.theory.proofs.Plans as Plans
use Rattle.theory.proofs.Plans.{Plan, busy, did}

-- a number where the test passes
unfoldable pub part : Bool → ℕ → ℕ
part true n = n
part false n = 0

pub part_true : (b : Bool) (n : ℕ) → b ≡ true → part b n ≡ n
unfolding part
part_true b n h = rw h

pub part_mono : (b : Bool) (m n : ℕ) → (b ≡ true → m ≤ n) → part b m ≤ part b n
unfolding part
part_mono true m n h = h refl
part_mono false m n h = omega arith

cnt_part : (b : Bool) (f : ℕ → Bool) (t : ℕ) → cnt (λ s. b && f s) t ≡ part b (cnt f t)
unfolding part
cnt_part true f t = refl
cnt_part false f t = cnt_false (λ s. false) t (λ k h. refl)

module _ {E : Type 0} (num : E → ℕ) (X : E → Bool) where
  unfoldable pub on : List E → Option ℕ → Bool
  on L o = one_of (λ e. X e && is_it o (num e)) L

  pub on_when : (L : List E) (o : Option ℕ) (e : E) → e ∈ L → X e ≡ true → is_it o (num e) ≡ true → on L o ≡ true
  unfolding on
  on_when L o e m h k =
      one_of_intro (λ f. X f && is_it o (num f)) L e m (and_intro (X e) (is_it o (num e)) h k)

  pub on_some : (L : List E) (o : Option ℕ) → on L o ≡ true
      → (e : E) × (e ∈ L) × (X e ≡ true) × (is_it o (num e) ≡ true)
  unfolding on
  on_some L o h =
      let r = one_of_found (λ f. X f && is_it o (num f)) L h in
      let b = and_true (X r.0) (is_it o (num r.0)) r.2 in
      (r.0, r.1, b.0, b.1)

  pub on_busy : (L : List E) (o : Option ℕ) → on L o ≡ true → busy o ≡ true
  on_busy L o h = let r = on_some L o h in Plans.works_busy o (num r.0) r.3

  -- who is in the list matters, and what is worked on of it
  pub on_ext : (L K : List E) (o p : Option ℕ) → ((e : E) → e ∈ L → X e ≡ true → e ∈ K) → ((e : E) → e ∈ K → e ∈ L)
      → ((e : E) → e ∈ L → X e ≡ true → is_it o (num e) ≡ is_it p (num e)) → on L o ≡ on K p
  on_ext L K o p to from same =
      test_ext (on L o) (on K p)
      (λ h.
      let r = on_some L o h in
      on_when K p r.0 (to r.0 r.1 r.2) r.2 (sym (same r.0 r.1 r.2) ∙ r.3))
      (λ h.
      let r = on_some K p h in
      on_when L o r.0 (from r.0 r.1) r.2 (same r.0 (from r.0 r.1) r.2 ∙ r.3))

  -- the work on X is the sum over the entries of X
  pub work-sum : (L : List E) → Distinct num L → (w : Plan) (t : ℕ)
      → cnt (λ s. on L (w s)) t ≡ sum_of (λ e. part (X e) (did w (num e) t)) L
  unfolding on one_of sum
  work-sum [] d w t = cnt_false (λ s. false) t (λ k h. refl)
  work-sum (x ∷ L) d w t =
      omega (
        arith,
        cnt_or (λ s. X x && is_it (w s) (num x)) (λ s. on L (w s)) t
            (λ k h a b.
            let r = on_some L (w k) b in
            d.0 r.0 r.1
            (some-injective (num r.0) (num x)
            (sym (Plans.works-some (w k) (num r.0) r.3)
            ∙ Plans.works-some (w k) (num x) (and_true (X x) (is_it (w k) (num x)) a).1
            ))),
        cnt_part (X x) (λ s. is_it (w s) (num x)) t,
        work-sum L d.1 w t,
      )
