-- The plan by layers: the entries lie in a list, LEAST urgent first, and each entry takes of the slots that the plan
-- of the entries behind it leaves free the first ones it can use. So to take the least urgent entry away changes
-- nothing for the others, by definition. Assumes nothing.
use mathlib.Core.Path.{◌≡◌, refl, sym, ap, ◌∙◌}
use mathlib.Core.Bool.{Bool, true, false, not, ◌&&◌, ◌||◌}
use mathlib.Core.Option.{none, some}
use mathlib.Core.List.{List, [], ◌∷◌}
use mathlib.Core.List.Memᴰ.{head as here}
use mathlib.Core.List.Memᴰ.{tail as there}
use Prim.Native.Nat.{ℕ, ◌+◌, ◌≤◌, ◌<◌, min}
use native.Mathlib.Omega.{arith}
use lib.Dec.{leb, ltb}
use borrow.Author.Tests.{leb-true, le-leb, lt-ltb, ltb-true, not-true}
use Rattle.rules.specs.Words.{is_it}
use Rattle.laws.proofs.Words.{by_test, and_true}
use Rattle.theory.proofs.Cases.{clash, or_rest}
use Rattle.theory.proofs.Count.{cnt, cnt_ext, cnt_gain, cnt_or, first_n, cnt_first_n}
use Rattle.theory.proofs.Lists.{◌∈◌}
use Rattle.theory.proofs.Plans.{Plan, busy, did, some-works, other_works, none_works, some_busy, busy_none}

module _ {E : Type 0} (num ready dur : E → ℕ) (opens : ℕ → Bool) where
  -- the slots that x could use where the plan w goes first
  unfoldable pub chance : E → Plan → ℕ → Bool
  chance x w t = opens t && leb (ready x) t && not (busy (w t))

  -- the first of them, as many as x lasts
  unfoldable pub takes : E → Plan → ℕ → Bool
  takes x w = first_n (dur x) (chance x w)

  unfoldable pub layer : E → Plan → Plan
  layer x w t = elim (takes x w t) [ true ↦ some (num x) | false ↦ w t ]

  unfoldable pub layers : List E → Plan
  layers [] t = none
  layers (x ∷ L) t = layer x (layers L) t

  module _ (x : E) (w : Plan) (t : ℕ) where
    pub layer_hit : takes x w t ≡ true → layer x w t ≡ some (num x)
    unfolding layer
    layer_hit h = rw (h, layer)

    pub layer_miss : takes x w t ≡ false → layer x w t ≡ w t
    unfolding layer
    layer_miss h = rw (h, layer)

    pub takes_chance : takes x w t ≡ true → chance x w t ≡ true
    unfolding takes first_n
    takes_chance h = (and_true (chance x w t) (ltb (cnt (chance x w) t) (dur x)) h).0

    pub takes_left : takes x w t ≡ true → cnt (chance x w) t < dur x
    unfolding takes first_n
    takes_left h =
        ltb-true (cnt (chance x w) t) (dur x) (and_true (chance x w t) (ltb (cnt (chance x w) t) (dur x)) h).1

    pub takes_when : chance x w t ≡ true → cnt (chance x w) t < dur x → takes x w t ≡ true
    unfolding takes first_n
    takes_when h k = rw (h, lt-ltb (cnt (chance x w) t) (dur x) k)

    pub chance_open : chance x w t ≡ true → opens t ≡ true
    unfolding chance
    chance_open h =
        (and_true (opens t) (leb (ready x) t) (and_true (opens t && leb (ready x) t) (not (busy (w t))) h).0).0

    pub chance_ready : chance x w t ≡ true → ready x ≤ t
    unfolding chance
    chance_ready h =
        leb-true (ready x) t
        (and_true (opens t) (leb (ready x) t) (and_true (opens t && leb (ready x) t) (not (busy (w t))) h).0).1

    pub chance_free : chance x w t ≡ true → busy (w t) ≡ false
    unfolding chance
    chance_free h = not-true (busy (w t)) (and_true (opens t && leb (ready x) t) (not (busy (w t))) h).1

    pub chance_when : opens t ≡ true → ready x ≤ t → busy (w t) ≡ false → chance x w t ≡ true
    unfolding chance
    chance_when h k b = rw (h, le-leb (ready x) t k, b)

    pub takes_early : t < ready x → takes x w t ≡ false
    takes_early h =
        by_test (takes x w t) (λ e. absurd (omega (arith, chance_ready (takes_chance e)))) (λ e. e)

    pub takes_over : dur x ≤ cnt (chance x w) t → takes x w t ≡ false
    takes_over h = by_test (takes x w t) (λ e. absurd (omega (arith, takes_left e))) (λ e. e)

    pub takes_behind : busy (w t) ≡ true → takes x w t ≡ false
    takes_behind h = by_test (takes x w t) (λ e. clash h (chance_free (takes_chance e))) (λ e. e)

    pub layer_busy : busy (layer x w t) ≡ (busy (w t) || takes x w t)
    layer_busy =
        by_test (takes x w t)
        (λ h.
        some_busy (layer x w t) (num x) (layer_hit h)
        ∙ sym (rw (h, chance_free (takes_chance h))))
        (λ h. rw (layer_miss h, h) (sym (or_rest (busy (w t)))))

    pub layer_self : ((s : ℕ) → is_it (w s) (num x) ≡ false) → is_it (layer x w t) (num x) ≡ takes x w t
    layer_self fresh =
        by_test (takes x w t)
        (λ h. some-works (layer x w t) (num x) (layer_hit h) ∙ sym h)
        (λ h. rw (layer_miss h, h) (fresh t))

    pub layer_other : (i : ℕ) → (i ≡ num x → ⊥) → is_it (layer x w t) i ≡ is_it (w t) i
    layer_other i apart =
        by_test (takes x w t)
        (λ h.
        other_works (layer x w t) (num x) i (layer_hit h) (λ e. apart (sym e))
        ∙ sym (none_works (w t) i (busy_none (w t) (chance_free (takes_chance h)))))
        (λ h. rw (layer_miss h))

  -- x has had min (slots it could use) (its duration); the others have had what they had
  pub did_layer_self : (x : E) (w : Plan) → ((s : ℕ) → is_it (w s) (num x) ≡ false) → (t : ℕ)
      → did (layer x w) (num x) t ≡ min (cnt (chance x w) t) (dur x)
  unfolding takes
  did_layer_self x w fresh t =
      cnt_ext (λ s. is_it (layer x w s) (num x)) (takes x w) t (λ k h. layer_self x w k fresh)
      ∙ cnt_first_n (dur x) (chance x w) t

  pub did_layer_other : (x : E) (w : Plan) (i : ℕ) → (i ≡ num x → ⊥) → (t : ℕ) → did (layer x w) i t ≡ did w i t
  did_layer_other x w i apart t =
      cnt_ext (λ s. is_it (layer x w s) i) (λ s. is_it (w s) i) t (λ k h. layer_other x w k i apart)

  -- the busy slots of a layer are those below it and those it takes
  pub cnt_layer_busy : (x : E) (w : Plan) (t : ℕ)
      → cnt (λ s. busy (layer x w s)) t ≡ cnt (λ s. busy (w s)) t + min (cnt (chance x w) t) (dur x)
  unfolding takes
  cnt_layer_busy x w t =
      cnt_ext (λ s. busy (layer x w s)) (λ s. busy (w s) || takes x w s) t (λ k h. layer_busy x w k)
      ∙ cnt_or (λ s. busy (w s)) (takes x w) t
      (λ k h b c. clash b (chance_free x w k (takes_chance x w k c)))
      ∙ ap (λ (n : ℕ). cnt (λ s. busy (w s)) t + n) (cnt_first_n (dur x) (chance x w) t)

  -- since x is ready, every open slot is busy below or one that x can use
  pub chance_fills : (x : E) (w : Plan) (r t : ℕ) → ready x ≤ r → r ≤ t
      → cnt opens t + (cnt (λ s. busy (w s)) r + cnt (chance x w) r)
      ≤ cnt opens r + (cnt (λ s. busy (w s)) t + cnt (chance x w) t)
  chance_fills x w r t h k =
      omega (arith, cnt_gain opens (λ s. busy (w s) || chance x w s) r t k fills, both r, both t)
    where
      fills : (s : ℕ) → r ≤ s → s < t → opens s ≡ true → (busy (w s) || chance x w s) ≡ true
      fills s a b o =
          by_test (busy (w s))
          (λ e. rw e)
          (λ e. rw (e, chance_when x w s o (omega arith) e))

      both : (u : ℕ) → cnt (λ s. busy (w s) || chance x w s) u ≡ cnt (λ s. busy (w s)) u + cnt (chance x w) u
      both u = cnt_or (λ s. busy (w s)) (chance x w) u (λ s a b c. clash b (chance_free x w s c))

  pub layers_cons : (x : E) (L : List E) (t : ℕ) → layers (x ∷ L) t ≡ layer x (layers L) t
  unfolding layers
  layers_cons x L t = refl

  -- a number of no entry is never worked on
  pub layers_fresh : (L : List E) (i : ℕ) → ((e : E) → e ∈ L → num e ≡ i → ⊥) → (t : ℕ) → is_it (layers L t) i ≡ false
  unfolding layers is_it
  layers_fresh [] i apart t = refl
  layers_fresh (x ∷ L) i apart t =
      layer_other x (layers L) t i (λ e. apart x (here refl) (sym e))
      ∙ layers_fresh L i (λ e m. apart e (there m)) t

  pub layers_open : (L : List E) (t : ℕ) → busy (layers L t) ≡ true → opens t ≡ true
  unfolding layers busy
  layers_open [] t h = clash h refl
  layers_open (x ∷ L) t h =
      by_test (takes x (layers L) t)
      (λ k. chance_open x (layers L) t (takes_chance x (layers L) t k))
      (λ k. layers_open L t (sym (ap busy (layer_miss x (layers L) t k)) ∙ h))
