-- The plans that are allowed for a list of entries, whatever rule made them: work on entries of the list alone, in
-- open slots, not before an entry is ready, and never more of it than it lasts. With one entry taken out of the list
-- and of the plan, an allowed plan stays allowed. Assumes nothing.
use mathlib.Core.Path.{◌≡◌, sym, ap, ◌∙◌}
use mathlib.Core.Bool.{Bool, true}
use mathlib.Core.Option.{some}
use mathlib.Core.List.Memᴰ.{tail as there}
use mathlib.Core.List.{List, ◌∷◌}
use Prim.Native.Nat.{ℕ, ◌≤◌}
use Rattle.rules.specs.Words.{is_it}
use Rattle.laws.proofs.Words.{by_test}
use Rattle.theory.proofs.Cases.{clash}
use Rattle.theory.proofs.Lists.{◌∈◌, by-mem, Distinct}
use Rattle.theory.proofs.Plans as Plans
use Rattle.theory.proofs.Plans.{Plan, did, without}

module _ {E : Type 0} (num ready dur : E → ℕ) (opens : ℕ → Bool) where
  pub record Allowed (L : List E) (q : Plan) : Type 0 where
    pub known : (t i : ℕ) → q t ≡ some i → (e : E) × (e ∈ L) × (num e ≡ i)
    pub hours : (t i : ℕ) → q t ≡ some i → opens t ≡ true
    pub after : (e : E) → e ∈ L → (t : ℕ) → q t ≡ some (num e) → ready e ≤ t
    pub most : (e : E) → e ∈ L → (t : ℕ) → did q (num e) t ≤ dur e

  -- it matters who is in the list, and not in which order
  pub allowed_members : (L K : List E) → ((e : E) → e ∈ L → e ∈ K) → ((e : E) → e ∈ K → e ∈ L) → (q : Plan)
      → Allowed L q → Allowed K q
  allowed_members L K to from q a = record {
    known = λ t i h. let r = a.known t i h in (r.0, to r.0 r.1, r.2);
    hours = a.hours;
    after = λ e m. a.after e (from e m);
    most = λ e m. a.most e (from e m);
  }

  module _ (x : E) (L : List E) (d : Distinct num (x ∷ L)) (q : Plan) (a : Allowed (x ∷ L) q) where
    -- what is left of q is_it where q is_it
    left_over : (t i : ℕ) → without (num x) q t ≡ some i → (q t ≡ some i) × (i ≡ num x → ⊥)
    left_over t i h =
        by_test (is_it (q t) (num x))
        (λ k. absurd (Plans.none-some (without (num x) q t) i (Plans.without_hit (num x) q t k) h))
        (λ k.
        let e : q t ≡ some i = sym (Plans.without_miss (num x) q t k) ∙ h in
        (e, λ p. clash (Plans.some-works (q t) (num x) (e ∙ ap some p)) k))

    pub allowed_without : Allowed L (without (num x) q)
    allowed_without = record {
      known = λ t i h.
          let k = left_over t i h in
          let r = a.known t i k.0 in
          by-mem r.1 (λ p. absurd (k.1 (sym r.2 ∙ ap num p))) (λ m. (r.0, m, r.2));
      hours = λ t i h. a.hours t i (left_over t i h).0;
      after = λ e m t h. a.after e (there m) t (left_over t (num e) h).0;
      most = λ e m t. rw (Plans.did_without (num x) q (num e) (d.0 e m) t) (a.most e (there m) t);
    }
