-- Rings and orders: where no piece leads to itself no ring is found; pieces in order have no ring; and the search for the
-- lowest piece on a ring, one piece after the other, does not pass it.
use Prim.Native.Nat.{ℕ, zero, suc, ◌+◌, ◌≤◌, ◌<◌}
use mathlib.Core.Bool.{Bool, true, false}
use mathlib.Core.List.Memᴰ.{head as here}
use mathlib.Core.List.{List, [], ◌∷◌, Memᴰ as Mem}
use mathlib.Core.Option.{none, some}
use mathlib.Core.Path.{◌≡◌, refl, sym, ap, ◌∙◌}
use native.Mathlib.Omega.{arith}
use borrow.Author.Tests.{eqb-true, eqb-false}
use lib.Dec.{eqb}
use lib.ListN.{get_or}
use Rattle.rules.specs.Words.{when, row, below}
use Rattle.rules.specs.Rings.{via, first_on_ring, lowest_on_ring}
use Rattle.laws.specs.Leads.{Leads, direct, onward}
use Rattle.laws.proofs.Words.{by_test, on_tail, mem_below}
use Rattle.laws.proofs.Rings.{via-leads}
use Rattle.links.specs.Links.{Ties, follows, InOrder}
use Rattle.links.proofs.LinkLaws.{follows_link, follows_inside}

-- None of the list leads to itself: none is found.
none_found : (follows : ℕ → ℕ → Bool) (n : ℕ) (l : List ℕ) → ((i : ℕ) → Mem i l → via follows n i i ≡ false)
    → first_on_ring follows n l ≡ none
unfolding first_on_ring
none_found follows n [] h = refl
none_found follows n (x ∷ xs) h = rw (h x (here refl), when) (none_found follows n xs (on_tail x xs h))

pub free_ring : (follows : ℕ → ℕ → Bool) (n : ℕ) → ((i : ℕ) → i < n → via follows n i i ≡ false)
    → lowest_on_ring follows n ≡ none
unfolding lowest_on_ring
free_ring follows n h = none_found follows n (below n) (λ i m. h i (mem_below n i m))

-- The first that leads to itself is the lowest on a ring.
first_found : (follows : ℕ → ℕ → Bool) (n k a i : ℕ) → a ≤ i → i < a + k → via follows n i i ≡ true
    → ((j : ℕ) → a ≤ j → j < i → via follows n j j ≡ false) → first_on_ring follows n (row a k) ≡ some i
unfolding first_on_ring row when
first_found follows n zero a i l m on before = absurd (omega arith)
first_found follows n (suc k) a i l m on before = by_test (eqb a i)
    (λ t. let e : a ≡ i = eqb-true a i t in rw (ap (λ x. via follows n x x) e ∙ on) (ap some e))
    (λ t. let e : a ≡ i → ⊥ = eqb-false a i t in rw (before a (omega arith) (omega arith))
    (first_found follows n k (suc a) i (omega arith) (omega arith) on (λ j p q. before j (omega arith) q)))

pub ring_first : (follows : ℕ → ℕ → Bool) (n i : ℕ) → i < n → via follows n i i ≡ true
    → ((j : ℕ) → j < i → via follows n j j ≡ false) → lowest_on_ring follows n ≡ some i
unfolding lowest_on_ring below
ring_first follows n i l on before = first_found follows n n 0 i (omega arith) (omega (arith, l)) on (λ j p q. before j q)

-- Pieces in order: places rise along links, so no piece leads to itself.
module _ (n m : ℕ) (befores afters order : List ℕ) (T : Ties n m befores afters)
    (O : InOrder n m befores afters order) where
  leads-rises : {i j : ℕ} → Leads (follows m befores afters) i j → (p q : ℕ) → p < n → q < n
      → get_or order p 0 ≡ i → get_or order q 0 ≡ j → p < q
  leads-rises {i} {j} (direct e) p q l k x y =
      let w = follows_link m befores afters i j e in
      O.rises w.0 w.1 p q l k (x ∙ sym w.2) (y ∙ sym w.3)
  leads-rises {i} {j = z} (onward {j} e on) p q l k x y =
      let w = follows_link m befores afters i j e in
      let s = O.everyone j (follows_inside m befores afters n T i j e).1 in
      let a : p < s.0 = O.rises w.0 w.1 p s.0 l s.1 (x ∙ sym w.2) (s.2 ∙ sym w.3) in
      let b : s.0 < q = leads-rises on s.0 q s.1 k s.2 y in
      omega arith

  pub order_free : lowest_on_ring (follows m befores afters) n ≡ none
  order_free = free_ring (follows m befores afters) n
      (λ i l. let s = O.everyone i l in
      by_test (via (follows m befores afters) n i i)
      (λ e. let led = via-leads (follows m befores afters) n i i e in
      let a : s.0 < s.0 = leads-rises led s.0 s.0 s.1 s.1 s.2 s.2 in
      absurd (omega arith))
      (λ e. e))
