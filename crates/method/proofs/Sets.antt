-- Sets of entries in order, and what is kept of them: in order of raised ready moment, then number; of different numbers;
-- each more urgent than what follows it by a direct link. Sorting a set that is in order leaves it. Assumes nothing.
use Prim.Native.Nat.{ℕ, ◌<◌}
use mathlib.Core.Bool.{Bool, true, ◌&&◌}
use mathlib.Core.List.Memᴰ
use mathlib.Core.List.{List, [], ◌∷◌, ◌++◌}
use mathlib.Core.List.Memᴰ.{head as here}
use mathlib.Core.Logic.{◌⊎◌, inl, inr, ⊎_elim}
use mathlib.Core.Path.{◌≡◌, refl, sym, ap, ◌∙◌}
use native.Mathlib.Omega.{arith}
use borrow.Author.Tests.{ltb-true, lt-ltb, eqb-true, eq-eqb}
use lib.Dec.{ltb, eqb}
use Rattle.rules.specs.Words.{when, keep}
use Rattle.rules.specs.Entries.{Entry}
use Rattle.rules.specs.Blocks.{ready_first, placed, in_order}
use Rattle.laws.proofs.Words.{by_test, and_true, and_intro, or_true, or_left, or_right, mem_keep, when_true}
use Rattle.theory.proofs.Cases.{by_le, by_eq, clash}
use Rattle.theory.proofs.Lists.{◌∈◌, Distinct}
use Rattle.theory.proofs.Order.{Urgency, Ordered, mem_sorted, sorted_distinct, sorted_ordered}
use Rattle.laws.proofs.Order.{number}
use Rattle.theory.proofs.SetAside.{LinksAhead, keep_distinct}
use Rattle.theory.proofs.BlockMethod.{waits, in_order_lem}

-- By ready moment, then number, is a strict order.
abbrev First : Entry → Entry → Type 0
First a b = (a.ready < b.ready) ⊎ ((a.ready ≡ b.ready) × (a.number < b.number))

first_fact : (a b : Entry) → ready_first a b ≡ true → First a b
unfolding ready_first
first_fact a b h =
    ⊎_elim
    (λ e. inl (ltb-true a.ready b.ready e))
    (λ e.
    let k = and_true (eqb a.ready b.ready) (ltb a.number b.number) e in
    inr (eqb-true a.ready b.ready k.0, ltb-true a.number b.number k.1))
    (or_true (ltb a.ready b.ready) (eqb a.ready b.ready && ltb a.number b.number) h)

fact_first : (a b : Entry) → First a b → ready_first a b ≡ true
unfolding ready_first
fact_first a b (inl h) = or_left _ _ (lt-ltb a.ready b.ready h)
fact_first a b (inr h) =
    or_right (ltb a.ready b.ready) _
    (and_intro _ _ (eq-eqb a.ready b.ready h.0) (lt-ltb a.number b.number h.1))

never_both : (a b : Entry) → First a b → First b a → ⊥
never_both a b (inl h) (inl k) = omega arith
never_both a b (inl h) (inr k) = omega (arith, k.0)
never_both a b (inr h) (inl k) = omega (arith, h.0)
never_both a b (inr h) (inr k) = omega (arith, h.1, k.1)

onward : (a b c : Entry) → First a b → First b c → First a c
onward a b c (inl h) (inl k) = inl (omega arith)
onward a b c (inl h) (inr k) = inl (omega (arith, k.0))
onward a b c (inr h) (inl k) = inl (omega (arith, h.0))
onward a b c (inr h) (inr k) = inr (h.0 ∙ k.0, omega (arith, h.1, k.1))

one_of_two : (a b : Entry) → (a.number ≡ b.number → ⊥) → (First b a → ⊥) → First a b
one_of_two a b apart not-ba =
    by_eq a.ready b.ready
    (λ e.
    by_le a.number b.number
    (λ k. inr (e, by_eq a.number b.number (λ q. absurd (apart q)) (λ q. omega arith)))
    (λ k. absurd (not-ba (inr (sym e, k)))))
    (λ e. by_le a.ready b.ready (λ k. inl (omega arith)) (λ k. absurd (not-ba (inl k))))

pub waits_urgency : Urgency number waits
waits_urgency = record {
  asym = λ a b h k. never_both b a (first_fact b a h) (first_fact a b k);
  trans = λ a b c h k. fact_first c a (onward c b a (first_fact c b k) (first_fact b a h));
  total = λ a b apart h. fact_first a b (one_of_two a b apart (λ e. clash (fact_first b a e) h));
}

-- A set that is in order is what sorting makes of it.
pub in_order_same : (es : List Entry) → Ordered waits es → in_order es ≡ es
unfolding in_order placed
in_order_same [] o = refl
in_order_same (e ∷ es) o = ap (placed e) (in_order_same es o.1) ∙ front es o.0
  where
    front : (es : List Entry) → ((f : Entry) → f ∈ es → waits f e ≡ true) → placed e es ≡ e ∷ es
    front [] h = refl
    front (f ∷ fs) h = when_true (ready_first e f) (e ∷ f ∷ fs) (f ∷ placed e fs) (h f (here refl))

-- What the method asks of a set.
pub record Good (follows : ℕ → ℕ → Bool) (es : List Entry) : Type 0 where
  pub ordered : Ordered waits es
  pub apart : Distinct number es
  pub links : LinksAhead follows es

-- A set sorted is good.
pub sorted_good : (follows : ℕ → ℕ → Bool) (es : List Entry) → Distinct number es → LinksAhead follows es
    → Good follows (in_order es)
sorted_good follows es d links = rw (in_order_lem es) (record {
  ordered = sorted_ordered waits number waits_urgency es d;
  apart = sorted_distinct waits number es d;
  links = λ e f m n. links e f (mem_sorted waits es e m) (mem_sorted waits es f n);
})

ordered_keep : (p : Entry → Bool) (es : List Entry) → Ordered waits es → Ordered waits (keep p es)
unfolding keep
ordered_keep p [] o = tt
ordered_keep p (e ∷ es) o =
    by_test (p e)
    (λ h. rw (h, when) (λ f m. o.0 f (mem_keep p es f m).0, ordered_keep p es o.1))
    (λ h. rw (h, when) (ordered_keep p es o.1))

pub good_keep : (follows : ℕ → ℕ → Bool) (p : Entry → Bool) (es : List Entry) → Good follows es
    → Good follows (keep p es)
good_keep follows p es g = record {
  ordered = ordered_keep p es g.ordered;
  apart = keep_distinct p es g.apart;
  links = λ e f m n. g.links e f (mem_keep p es e m).0 (mem_keep p es f n).0;
}

-- Two parts of a good set are good.
ordered_left : (ks es : List Entry) → Ordered waits (ks ++ es) → Ordered waits ks
ordered_left [] es o = tt
ordered_left (k ∷ ks) es o = (λ f m. o.0 f (Memᴰ.append_left es m), ordered_left ks es o.1)

ordered_right : (ks es : List Entry) → Ordered waits (ks ++ es) → Ordered waits es
ordered_right [] es o = o
ordered_right (k ∷ ks) es o = ordered_right ks es o.1

distinct_left : (ks es : List Entry) → Distinct number (ks ++ es) → Distinct number ks
distinct_left [] es d = tt
distinct_left (k ∷ ks) es d = (λ f m. d.0 f (Memᴰ.append_left es m), distinct_left ks es d.1)

distinct_right : (ks es : List Entry) → Distinct number (ks ++ es) → Distinct number es
distinct_right [] es d = d
distinct_right (k ∷ ks) es d = distinct_right ks es d.1

module _ (follows : ℕ → ℕ → Bool) (ks es : List Entry) (g : Good follows (ks ++ es)) where
  pub good_left : Good follows ks
  good_left = record {
    ordered = ordered_left ks es g.ordered;
    apart = distinct_left ks es g.apart;
    links = λ e f m n. g.links e f (Memᴰ.append_left es m) (Memᴰ.append_left es n);
  }

  pub good_right : Good follows es
  good_right = record {
    ordered = ordered_right ks es g.ordered;
    apart = distinct_right ks es g.apart;
    links = λ e f m n. g.links e f (Memᴰ.append_right ks m) (Memᴰ.append_right ks n);
  }
