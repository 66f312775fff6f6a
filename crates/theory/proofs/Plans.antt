-- A plan of a desk says for each slot the number worked on, or that the desk rests. Here are the words for plans:
-- who is_it, how often before a moment, and a plan with one number taken out. Assumes nothing.
use mathlib.Core.Path.{◌≡◌, refl, sym, ◌∙◌}
use mathlib.Core.Bool.{Bool, true, false, ◌||◌}
use mathlib.Core.Option.{Option, none, some, none-ne-some}
use Prim.Native.Nat.{ℕ, ◌+◌}
use borrow.Author.Tests.{ne_eqb}
use Rattle.rules.specs.Words.{is_it}
use Rattle.laws.proofs.Words.{by_test}
pub use Rattle.laws.proofs.Slots.{by_choice as by-who, is_it-true as works-some, it_is as some-works}
use Rattle.theory.proofs.Cases.{clash, or_rest}
use Rattle.theory.proofs.Count.{cnt, cnt_ext, cnt_or}

abbrev pub Plan : Type 0
Plan = ℕ → Option ℕ

unfoldable pub busy : Option ℕ → Bool
busy none = false
busy (some j) = true

-- slots before t in which i is worked on
abbrev pub did : Plan → ℕ → ℕ → ℕ
did w i t = cnt (λ s. is_it (w s) i) t

pub other_works : (o : Option ℕ) (i j : ℕ) → o ≡ some i → (i ≡ j → ⊥) → is_it o j ≡ false
unfolding is_it
other_works o i j e h = rw e (ne_eqb i j h)

pub works_busy : (o : Option ℕ) (i : ℕ) → is_it o i ≡ true → busy o ≡ true
unfolding is_it busy
works_busy none i h = h
works_busy (some j) i h = refl

pub busy_some : (o : Option ℕ) → busy o ≡ true → (i : ℕ) × (o ≡ some i)
unfolding busy
busy_some none h = clash h refl
busy_some (some j) h = (j, refl)

pub busy_none : (o : Option ℕ) → busy o ≡ false → o ≡ none
unfolding busy
busy_none none h = refl
busy_none (some j) h = clash refl h

pub some_busy : (o : Option ℕ) (i : ℕ) → o ≡ some i → busy o ≡ true
unfolding busy
some_busy o i e = rw e

pub none_busy : (o : Option ℕ) → o ≡ none → busy o ≡ false
unfolding busy
none_busy o e = rw e

pub none_works : (o : Option ℕ) (i : ℕ) → o ≡ none → is_it o i ≡ false
unfolding is_it
none_works o i e = rw e

pub none-some : (o : Option ℕ) (i : ℕ) → o ≡ none → o ≡ some i → ⊥
none-some o i p q = none-ne-some i (sym p ∙ q)

-- the plan w with number i taken out
unfoldable pub without : ℕ → Plan → Plan
without i w t = elim (is_it (w t) i) [ true ↦ none | false ↦ w t ]

module _ (i : ℕ) (w : Plan) (t : ℕ) where
  pub without_hit : is_it (w t) i ≡ true → without i w t ≡ none
  unfolding without
  without_hit h = rw (h, without)

  pub without_miss : is_it (w t) i ≡ false → without i w t ≡ w t
  unfolding without
  without_miss h = rw (h, without)

  pub without_self : is_it (without i w t) i ≡ false
  without_self =
      by_test (is_it (w t) i)
      (λ h. none_works (without i w t) i (without_hit h))
      (λ h. rw (without_miss h) h)

  pub without_other : (j : ℕ) → (j ≡ i → ⊥) → is_it (without i w t) j ≡ is_it (w t) j
  without_other j apart =
      by_test (is_it (w t) i)
      (λ h.
      none_works (without i w t) j (without_hit h)
      ∙ sym (other_works (w t) i j (works-some (w t) i h) (λ e. apart (sym e))))
      (λ h. rw (without_miss h))

pub did_without : (i : ℕ) (w : Plan) (j : ℕ) → (j ≡ i → ⊥) → (t : ℕ) → did (without i w) j t ≡ did w j t
did_without i w j apart t =
    cnt_ext (λ s. is_it (without i w s) j) (λ s. is_it (w s) j) t (λ k h. without_other i w k j apart)

-- the busy slots of a plan: those of i, and the others
pub busy_without : (i : ℕ) (w : Plan) (t : ℕ)
    → cnt (λ s. busy (w s)) t ≡ cnt (λ s. busy (without i w s)) t + did w i t
busy_without i w t =
    cnt_ext (λ s. busy (w s)) (λ s. busy (without i w s) || is_it (w s) i) t (λ k h. point k)
    ∙ cnt_or (λ s. busy (without i w s)) (λ s. is_it (w s) i) t (λ k h a b. clash a (gone k b))
  where
    gone : (k : ℕ) → is_it (w k) i ≡ true → busy (without i w k) ≡ false
    gone k h = none_busy (without i w k) (without_hit i w k h)

    point : (k : ℕ) → busy (w k) ≡ (busy (without i w k) || is_it (w k) i)
    point k =
        by_test (is_it (w k) i)
        (λ h. rw (h, gone k h) (works_busy (w k) i h))
        (λ h. rw (h, without_miss i w k h) (sym (or_rest (busy (w k)))))
