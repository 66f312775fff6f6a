-- Every entry is finished at last: once all are ready and as many slots have been open as their durations together,
-- each entry has its whole duration. Where the desk is always open that is the latest ready moment plus the
-- durations. Assumes nothing.
use mathlib.Core.Path.{◌≡◌, refl, ap, ◌∙◌}
use mathlib.Core.Bool.{Bool, true}
use mathlib.Core.List.{List, [], ◌∷◌}
use mathlib.Core.List.Memᴰ.{head as here}
use mathlib.Core.List.Memᴰ.{tail as there}
use Prim.Native.Nat.{ℕ, ◌+◌, ◌≤◌}
use native.Mathlib.Omega.{arith}
use Rattle.rules.specs.Words.{is_it}
use Rattle.theory.proofs.Cases.{by_le}
use Rattle.theory.proofs.Count.{cnt, cnt_mono, cnt_false, cnt_ext}
use Rattle.theory.proofs.Lists.{◌∈◌, by-mem, Distinct, sum_of, sum_cons}
use Rattle.theory.proofs.Order.{Urgency, sorted, sorted_sum, sorted_mem, mem_sorted, sorted_distinct}
use Rattle.theory.proofs.Plans.{Plan, busy, did}
use Rattle.theory.proofs.Layers as Layers
use Rattle.theory.proofs.Hours.{cnt_always}
use Rattle.theory.proofs.Rule.{Obeys}
use Rattle.theory.proofs.Obeyed.{obeys_layers}

module _ {E : Type 0} (num ready dur : E → ℕ) (opens : ℕ → Bool) where
  abbrev layers : List E → Plan
  layers = Layers.layers num ready dur opens

  -- the desk is never busier than the durations together
  pub busy_most : (L : List E) (t : ℕ) → cnt (λ s. busy (layers L s)) t ≤ sum_of dur L
  unfolding Layers.layers busy
  busy_most [] t = omega (arith, cnt_false (λ s. busy (layers [] s)) t (λ k h. refl))
  busy_most (x ∷ L) t =
      omega (arith, Layers.cnt_layer_busy num ready dur opens x (layers L) t, busy_most L t, sum_cons dur x L)

  chances : (x : E) (w : Plan) (R t : ℕ) → ready x ≤ R
      → cnt opens t ≤ cnt opens R + cnt (λ s. busy (w s)) t + cnt (Layers.chance num ready dur opens x w) t
  chances x w R t h =
      by_le R t
      (λ k. omega (arith, Layers.chance_fills num ready dur opens x w R t h k))
      (λ k. omega (arith, cnt_mono opens t R (omega arith)))

  pub layers_done : (L : List E) → Distinct num L → (R t : ℕ) → ((e : E) → e ∈ L → ready e ≤ R)
      → cnt opens R + sum_of dur L ≤ cnt opens t → (e : E) → e ∈ L → did (layers L) (num e) t ≡ dur e
  unfolding Layers.layers
  layers_done [] d R t ripe enough e m = elim m [ ]
  layers_done (x ∷ L) d R t ripe enough e m =
      by-mem m
      (λ p.
      rw p
      (omega (
        arith,
        Layers.did_layer_self num ready dur opens x (layers L)
            (Layers.layers_fresh num ready dur opens L (num x) d.0) t,
        chances x (layers L) R t (ripe x (here refl)),
        busy_most L t,
        sum_cons dur x L,
      )))
      (λ n.
      Layers.did_layer_other num ready dur opens x (layers L) (num e) (d.0 e n) t
      ∙ layers_done L d.1 R t (λ f k. ripe f (there k)) (omega (arith, sum_cons dur x L)) e n)

  module _ (sooner : E → E → Bool) (U : Urgency num sooner) (L : List E) (d : Distinct num L) (w : Plan)
      (rule : Obeys num ready dur opens sooner L w) where
    -- EVERY ENTRY IS FINISHED, by the rule
    pub obeys_done : (R t : ℕ) → ((e : E) → e ∈ L → ready e ≤ R) → cnt opens R + sum_of dur L ≤ cnt opens t
        → (e : E) → e ∈ L → did w (num e) t ≡ dur e
    obeys_done R t ripe enough e m =
        cnt_ext (λ s. is_it (w s) (num e)) (λ s. is_it (layers (sorted sooner L) s) (num e)) t
        (λ k h. ap (λ o. is_it o (num e)) (obeys_layers num ready dur opens sooner U L d w rule k))
        ∙ layers_done (sorted sooner L) (sorted_distinct sooner num L d) R t
        (λ f n. ripe f (mem_sorted sooner L f n))
        (omega (arith, sorted_sum sooner dur L))
        e (sorted_mem sooner L e m)

    pub obeys_done_always : ((s : ℕ) → opens s ≡ true) → (R t : ℕ) → ((e : E) → e ∈ L → ready e ≤ R)
        → R + sum_of dur L ≤ t → (e : E) → e ∈ L → did w (num e) t ≡ dur e
    obeys_done_always always R t ripe enough =
        obeys_done R t ripe (omega (arith, cnt_always opens always R, cnt_always opens always t))
