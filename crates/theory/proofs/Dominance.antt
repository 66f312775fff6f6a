-- Dominance: no allowed plan has worked more, by any moment, on the entries that are at least as urgent as some
-- bound. For all entries together any plan by layers does; a set that with each entry has all sooner ones is the
-- list without some of its least urgent entries, and they change nothing for the others. Assumes nothing.
use mathlib.Core.Path.{◌≡◌, refl, sym, ap, ◌∙◌}
use mathlib.Core.Bool.{Bool, true, false}
use mathlib.Core.Option.{Option, some}
use mathlib.Core.List.{List, [], ◌∷◌}
use mathlib.Core.List.Memᴰ.{head as here}
use mathlib.Core.List.Memᴰ.{tail as there}
use Prim.Native.Nat.{ℕ, ◌≤◌}
use native.Mathlib.Omega.{arith}
use Rattle.rules.specs.Words.{one_of, is_it}
use Rattle.laws.proofs.Words.{by_test}
use Rattle.theory.proofs.Cases.{by_le, clash}
use Rattle.theory.proofs.Count.{cnt, cnt_gain, cnt_imp, cnt_ext, cnt_false}
use Rattle.theory.proofs.Lists.{◌∈◌, by-mem, Distinct}
use Rattle.theory.proofs.Order.{Urgency, Ordered, UpClosed, sorted, sorted_mem, mem_sorted, sorted_distinct}
use Rattle.theory.proofs.Order.{sorted_ordered}
use Rattle.theory.proofs.Plans as Plans
use Rattle.theory.proofs.Plans.{Plan, busy, did, without}
use Rattle.theory.proofs.Layers as Layers
use Rattle.theory.proofs.Allowed.{Allowed, allowed_without, allowed_members}
use Rattle.theory.proofs.Rule.{Obeys}
use Rattle.theory.proofs.Obeyed.{layers_obey, obeys_allowed, obeys_layers}
use Rattle.theory.proofs.Work.{on, on_when, on_busy, on_ext}

module _ {E : Type 0} (num ready dur : E → ℕ) (opens : ℕ → Bool) where
  abbrev layers : List E → Plan
  layers = Layers.layers num ready dur opens

  -- before x is ready it is not worked on
  not_yet : (x : E) (L : List E) (q : Plan) → Allowed num ready dur opens (x ∷ L) q → (t : ℕ) → t ≤ ready x
      → did q (num x) t ≡ 0
  not_yet x L q a t h =
      cnt_false (λ s. is_it (q s) (num x)) t
      (λ k l.
      by_test (is_it (q k) (num x))
      (λ e. absurd (omega (arith, a.after x (here refl) k (Plans.works-some (q k) (num x) e))))
      (λ e. e))

  -- the plan by layers has been busy at least as often as any allowed plan
  pub busiest : (L : List E) → Distinct num L → (q : Plan) → Allowed num ready dur opens L q → (t : ℕ)
      → cnt (λ s. busy (q s)) t ≤ cnt (λ s. busy (layers L s)) t
  unfolding Layers.layers
  busiest [] d q a t =
      omega (
        arith,
        cnt_false (λ s. busy (q s)) t
            (λ k h.
            by_test (busy (q k))
            (λ e. let b = Plans.busy_some (q k) e in elim (a.known k b.0 b.1).1 [ ])
            (λ e. e)),
      )
  busiest (x ∷ L) d q a t =
      let ih : (t : ℕ) → cnt (λ s. busy (without (num x) q s)) t ≤ cnt (λ s. busy (layers L s)) t =
      busiest L d.1 (without (num x) q) (allowed_without num ready dur opens x L d q a) in
      by_le (dur x) (cnt (Layers.chance num ready dur opens x (layers L)) t)
      (λ h.
      omega (
        arith,
        ih t,
        a.most x (here refl) t,
        Plans.busy_without (num x) q t,
        Layers.cnt_layer_busy num ready dur opens x (layers L) t,
      ))
      (λ h.
      by_le t (ready x)
      (λ k.
      omega (
        arith,
        ih t,
        not_yet x L q a t k,
        Plans.busy_without (num x) q t,
        Layers.cnt_layer_busy num ready dur opens x (layers L) t,
      ))
      (λ k.
      omega (
        arith,
        ih (ready x),
        not_yet x L q a (ready x) (omega arith),
        Plans.busy_without (num x) q (ready x),
        cnt_gain (λ s. busy (q s)) opens (ready x) t (omega arith)
            (λ s l r e. let b = Plans.busy_some (q s) e in a.hours s b.0 b.1),
        Layers.chance_fills num ready dur opens x (layers L) (ready x) t (omega arith) (omega arith),
        Layers.cnt_layer_busy num ready dur opens x (layers L) t,
      )))

  pub layers_dominate : (sooner : E → E → Bool) (L : List E) → Distinct num L → Ordered sooner L → (X : E → Bool)
      → UpClosed sooner L X → (q : Plan) → Allowed num ready dur opens L q → (t : ℕ)
      → cnt (λ s. on num X L (q s)) t ≤ cnt (λ s. on num X L (layers L s)) t
  unfolding on one_of Layers.layers
  layers_dominate sooner [] d o X up q a t = omega arith
  layers_dominate sooner (x ∷ L) d o X up q a t =
      by_test (X x)
      (λ h.
      omega (
        arith,
        cnt_imp (λ s. on num X (x ∷ L) (q s)) (λ s. busy (q s)) t (λ k l e. on_busy num X (x ∷ L) (q k) e),
        busiest (x ∷ L) d q a t,
        cnt_imp (λ s. busy (layers (x ∷ L) s)) (λ s. on num X (x ∷ L) (layers (x ∷ L) s)) t (λ k l e. all h k e),
      ))
      (λ h.
      omega (
        arith,
        layers_dominate sooner L d.1 o.1 X (λ e f m n. up e f (there m) (there n))
            (without (num x) q) (allowed_without num ready dur opens x L d q a) t,
        cnt_ext (λ s. on num X (x ∷ L) (q s)) (λ s. on num X L (without (num x) q s)) t
            (λ k l.
            on_ext num X (x ∷ L) L (q k) (without (num x) q k) (behind h) (λ e m. there m)
            (λ e m z. sym (Plans.without_other (num x) q k (num e) (d.0 e (behind h e m z))))),
        cnt_ext (λ s. on num X (x ∷ L) (layers (x ∷ L) s)) (λ s. on num X L (layers L s)) t
            (λ k l.
            on_ext num X (x ∷ L) L (layers (x ∷ L) k) (layers L k) (behind h) (λ e m. there m)
            (λ e m z. Layers.layer_other num ready dur opens x (layers L) k (num e) (d.0 e (behind h e m z)))),
      ))
    where
      behind : X x ≡ false → (e : E) → e ∈ x ∷ L → X e ≡ true → e ∈ L
      behind h e m k = by-mem m (λ p. clash (rw p at k) h) (λ n. n)

      all : X x ≡ true → (k : ℕ) → busy (layers (x ∷ L) k) ≡ true → on num X (x ∷ L) (layers (x ∷ L) k) ≡ true
      all h k e =
          let b = Plans.busy_some (layers (x ∷ L) k) e in
          let r =
          (obeys_allowed num ready dur opens sooner (x ∷ L) d (layers (x ∷ L))
          (layers_obey num ready dur opens sooner (x ∷ L) d o)).known k b.0 b.1 in
          on_when num X (x ∷ L) (layers (x ∷ L) k) r.0 r.1
          (by-mem r.1
          (λ p. rw p h)
          (λ n. up r.0 x (there n) (here refl) (o.0 r.0 n) h))
          (Plans.some-works (layers (x ∷ L) k) (num r.0) (b.1 ∙ ap some (sym r.2)))

  -- DOMINANCE, for every plan that obeys the rule
  pub obeys_dominates : (sooner : E → E → Bool) → Urgency num sooner → (L : List E) → Distinct num L
      → (w : Plan) → Obeys num ready dur opens sooner L w → (X : E → Bool) → UpClosed sooner L X
      → (q : Plan) → Allowed num ready dur opens L q → (t : ℕ)
      → cnt (λ s. on num X L (q s)) t ≤ cnt (λ s. on num X L (w s)) t
  obeys_dominates sooner U L d w rule X up q a t =
      omega (
        arith,
        layers_dominate sooner K (sorted_distinct sooner num L d) (sorted_ordered sooner num U L d) X
            (λ e f m n. up e f (mem_sorted sooner L e m) (mem_sorted sooner L f n)) q
            (allowed_members num ready dur opens L K (sorted_mem sooner L) (mem_sorted sooner L) q a) t,
        cnt_ext (λ s. on num X L (q s)) (λ s. on num X K (q s)) t (λ k h. same (q k) (q k) refl),
        cnt_ext (λ s. on num X L (w s)) (λ s. on num X K (layers K s)) t
            (λ k h. same (w k) (layers K k) (obeys_layers num ready dur opens sooner U L d w rule k)),
      )
    where
      K : List E
      K = sorted sooner L

      same : (o p : Option ℕ) → o ≡ p → on num X L o ≡ on num X K p
      same o p e =
          on_ext num X L K o p (λ f m z. sorted_mem sooner L f m) (mem_sorted sooner L)
          (λ f m z. ap (λ r. is_it r (num f)) e)
