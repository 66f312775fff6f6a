-- What is placed in the queue. Where each piece waits for all links into it, all pieces are placed exactly if there is no
-- ring, and then each stands after the pieces before it. Where each waits for one link, from one piece on, exactly the
-- pieces are placed that it leads to.
use Prim.Native.Nat.{ℕ, zero, suc, ◌≤◌, ◌<◌}
use mathlib.Core.Bool.{Bool, true, false, ◌&&◌}
use mathlib.Core.List.{List}
use mathlib.Core.Option.{Option, none, some}
use mathlib.Core.Path.{◌≡◌, refl, sym, ◌∙◌}
use native.Mathlib.Omega.{arith}
use borrow.Author.Tests.{eqb-true, eqb-false, eq-eqb, ne_eqb, ltb-true, ltb-false}
use lib.Dec.{eqb, ltb}
use lib.ListN.{get_or}
use Rattle.rules.specs.Rings.{via, lowest_on_ring}
use Rattle.laws.specs.Leads.{Leads, direct, onward}
use Rattle.laws.proofs.Words.{by_test, true_or_false, and_true, and_intro}
use Rattle.laws.proofs.Rings.{via-leads, leads-via, leads_on, ring_free, along_before}
use Rattle.links.specs.Links.{Ties, follows, links_to, links_between, InOrder}
use Rattle.links.specs.Queue.{Queue, Passed, among, links_from_first, CountedTo, FirstPassed}
use Rattle.links.proofs.Counting.{counted_le, counted_lt, counted_all, some-counted, all_counted}
use Rattle.links.proofs.LinkLaws.{follows_link, link_follows, follows_inside}
use Rattle.links.proofs.QueueLaws.{queue_most}
use Rattle.links.proofs.PassingLaws.{among_found, among_place}

-- Links from the first of the queue are links.
module _ (m : ℕ) (befores afters order : List ℕ) where
  -- As many come from the first h as lead to j: each does.
  all_from : (h j : ℕ) → links_to m afters j ≤ links_from_first m befores afters order h j
      → (k : ℕ) → k < m → get_or afters k 0 ≡ j → among order h (get_or befores k 0) ≡ true
  unfolding links_to links_from_first
  all_from h j full k l e = by_test (among order h (get_or befores k 0))
      (λ f. f)
      (λ f. absurd (omega (
        arith,
        counted_lt (λ k. eqb (get_or afters k 0) j && among order h (get_or befores k 0)) (λ k. eqb (get_or afters k 0) j) m
            (λ g o a. (and_true (eqb (get_or afters g 0) j) (among order h (get_or befores g 0)) a).0)
            k l (rw (eq-eqb (get_or afters k 0) j e, f)) (eq-eqb (get_or afters k 0) j e),
      )))

  from_all : (h j : ℕ) → ((k : ℕ) → k < m → get_or afters k 0 ≡ j → among order h (get_or befores k 0) ≡ true)
      → links_to m afters j ≤ links_from_first m befores afters order h j
  unfolding links_to links_from_first
  from_all h j f = counted_le (λ k. eqb (get_or afters k 0) j)
      (λ k. eqb (get_or afters k 0) j && among order h (get_or befores k 0)) m
      (λ k l e. and_intro _ _ e (f k l (eqb-true (get_or afters k 0) j e)))

  -- One at least comes from the first h: here is one.
  one_from : (h j : ℕ) → 0 < links_from_first m befores afters order h j
      → (p : ℕ) × (p < h) × (follows m befores afters (get_or order p 0) j ≡ true)
  unfolding links_from_first
  one_from h j Some-of =
      let w = some-counted (λ k. eqb (get_or afters k 0) j && among order h (get_or befores k 0)) m Some-of in
      let a = and_true (eqb (get_or afters w.0 0) j) (among order h (get_or befores w.0 0)) w.2 in
      let s = among_found order h (get_or befores w.0 0) a.1 in
      let there = eqb-true (get_or afters w.0 0) j a.0 in
      (s.0, s.1, link_follows m befores afters w.0 (get_or order s.0 0) j w.1 (sym s.2) there)

  from_one : (h j p : ℕ) → p < h → follows m befores afters (get_or order p 0) j ≡ true
      → 0 < links_from_first m befores afters order h j
  unfolding links_from_first
  from_one h j p l e =
      let w = follows_link m befores afters (get_or order p 0) j e in
      omega (
        arith,
        counted_lt (λ k. false) (λ k. eqb (get_or afters k 0) j && among order h (get_or befores k 0)) m
            (λ k o x. true_or_false (sym x)) w.0 w.1 refl
            (and_intro _ _ (eq-eqb (get_or afters w.0 0) j w.3)
            (among_place order h p (get_or befores w.0 0) l (sym w.2))),
      )

-- A link between two pieces is counted.
module _ (m : ℕ) (befores afters : List ℕ) (i j : ℕ) where
  between_follows : 0 < links_between m befores afters i j → follows m befores afters i j ≡ true
  unfolding links_between
  between_follows Some-of =
      let w = some-counted (λ k. eqb (get_or befores k 0) i && eqb (get_or afters k 0) j) m Some-of in
      let a = and_true (eqb (get_or befores w.0 0) i) (eqb (get_or afters w.0 0) j) w.2 in
      link_follows m befores afters w.0 i j w.1
      (eqb-true (get_or befores w.0 0) i a.0) (eqb-true (get_or afters w.0 0) j a.1)

  follows_between : follows m befores afters i j ≡ true → 0 < links_between m befores afters i j
  unfolding links_between
  follows_between e =
      let w = follows_link m befores afters i j e in
      omega (
        arith,
        counted_lt (λ k. false) (λ k. eqb (get_or befores k 0) i && eqb (get_or afters k 0) j) m
            (λ k o x. true_or_false (sym x)) w.0 w.1 refl
            (and_intro _ _ (eq-eqb (get_or befores w.0 0) i w.2) (eq-eqb (get_or afters w.0 0) j w.3)),
      )

-- Each piece waits for all links into it, and all are passed from what is placed.
module _ {n m : ℕ} {befores afters : List ℕ} (T : Ties n m befores afters) {t : ℕ} {order₀ waits₀ : List ℕ}
    (Q : Queue n t order₀ waits₀) (C : CountedTo m afters waits₀)
    {r : ℕ} {order waits : List ℕ} (F : FirstPassed n m befores afters t order₀ waits₀ r r order waits) where
  counts : (j : ℕ) → j < n → get_or waits₀ j 0 ≡ links_to m afters j
  counts j l = C.counts j (omega (arith, T.few_pieces))

  -- A piece was placed once all pieces before it stood in the queue.
  complete : (q : ℕ) → q < r
      → links_to m afters (get_or order q 0) ≤ links_from_first m befores afters order q (get_or order q 0)
  complete q l = by_test (ltb q t)
      (λ e. let o : q < t = ltb-true q t e in
      rw (F.passed.kept q o) (omega (arith, Q.idle q o, counts (get_or order₀ q 0) (Q.inside q o))))
      (λ e. omega (
        arith,
        F.earned q (ltb-false q t e) l,
        counts (get_or order q 0) (F.passed.queue.inside q l),
      ))

  before_placed : (k q : ℕ) → k < m → q < r → get_or order q 0 ≡ get_or afters k 0
      → (p : ℕ) × (p < q) × (get_or order p 0 ≡ get_or befores k 0)
  before_placed k q l o e =
      among_found order q (get_or befores k 0)
      (all_from m befores afters order q (get_or order q 0) (complete q o) k l (sym e))

  pub all_placed : r ≡ n → InOrder n m befores afters order
  all_placed whole = record {
    sized = F.passed.queue.order_sized;
    inside = λ p l. F.passed.queue.inside p (omega arith);
    everyone = λ i l.
        let w = F.passed.queue.everyone i l (eqb-true (get_or waits i 0) 0
        (all_counted (λ i. eqb (get_or waits i 0) 0) n (F.passed.queue.as_many ∙ whole) i l)) in
        (w.0, omega (arith, w.1), w.2);
    once = λ p q l k e. F.passed.queue.once p q (omega arith) (omega arith) e;
    rises = λ k l p q o u x y.
        let w = before_placed k q l (omega arith) y in
        omega (arith, w.1, F.passed.queue.once p w.0 (omega arith) (omega (arith, w.1)) (x ∙ sym w.2));
  }

  -- Without a ring a piece waits for nothing once the pieces before it do, and so all are placed.
  freed : lowest_on_ring (follows m befores afters) n ≡ none → (j : ℕ) → j < n → get_or waits j 0 ≡ 0
  freed free =
      along_before (follows m befores afters) n (follows_inside m befores afters n T)
      (ring_free (follows m befores afters) n free) {P = λ j. get_or waits j 0 ≡ 0}
      (λ j l before. omega (
        arith,
        F.passed.lowered j l,
        counts j l,
        from_all m befores afters order r j
            (λ k o e.
            let w = F.passed.queue.everyone (get_or befores k 0) (T.before_one k o)
            (before (get_or befores k 0) (link_follows m befores afters k (get_or befores k 0) j o refl e)) in
            among_place order r w.0 (get_or befores k 0) w.1 w.2),
      ))

  some_left : r < n → (w : ℕ) × (lowest_on_ring (follows m befores afters) n ≡ some w)
  some_left short = go (lowest_on_ring (follows m befores afters) n) refl
    where
      go : (o : Option ℕ) → lowest_on_ring (follows m befores afters) n ≡ o
          → (w : ℕ) × (lowest_on_ring (follows m befores afters) n ≡ some w)
      go none e =
          absurd (omega (
            arith,
            F.passed.queue.as_many,
            counted_all (λ i. eqb (get_or waits i 0) 0) n (λ i l. eq-eqb (get_or waits i 0) 0 (freed e i l)),
          ))
      go (some w) e = (w, e)

  pub placed_short : (r ≡ n → ⊥) → (w : ℕ) × (lowest_on_ring (follows m befores afters) n ≡ some w)
  placed_short e = some_left (omega (arith, queue_most n r order waits F.passed.queue))

-- Each piece waits for one link; first the links from piece i are passed, then all from what is placed.
module _ {n m : ℕ} {befores afters : List ℕ} (T : Ties n m befores afters) (i : ℕ)
    {order₀ waits₀ : List ℕ} (ones : (j : ℕ) → j < n → get_or waits₀ j 0 ≡ 1)
    {s t : ℕ} {order₁ waits₁ : List ℕ} (P : Passed n s (links_between m befores afters i) order₀ waits₀ t order₁ waits₁)
    {r : ℕ} {order waits : List ℕ} (F : FirstPassed n m befores afters t order₁ waits₁ r r order waits) where
  abbrev Follows : ℕ → ℕ → Bool
  Follows = follows m befores afters

  -- What is placed later waited at first.
  waited : (q : ℕ) → t ≤ q → q < r → 0 < get_or waits₁ (get_or order q 0) 0
  waited q e l = by_test (eqb (get_or waits₁ (get_or order q 0) 0) 0)
      (λ z. let free = eqb-true (get_or waits₁ (get_or order q 0) 0) 0 z in
      let w = P.queue.everyone (get_or order q 0) (F.passed.queue.inside q l) free in
      let twice = F.passed.kept w.0 w.1 ∙ w.2 in
      absurd (omega (arith, w.1, F.passed.queue.once w.0 q (omega (arith, w.1)) l twice)))
      (λ z. let waits : get_or waits₁ (get_or order q 0) 0 ≡ 0 → ⊥ = eqb-false (get_or waits₁ (get_or order q 0) 0) 0 z in
      omega arith)

  -- All that is placed is led to: at first by a link from i, later by one from what stands earlier.
  first_led : (q : ℕ) → q < t → Leads Follows i (get_or order q 0)
  first_led q l =
      let o = P.queue.inside q l in
      let x = get_or order₁ q 0 in
      rw (F.passed.kept q l)
      (direct (between_follows m befores afters i x (omega (arith, P.queue.idle q l, P.lowered x o, ones x o))))

  placed_led : (s q : ℕ) → q < s → q < r → Leads Follows i (get_or order q 0)
  placed_led zero q o l = absurd (omega arith)
  placed_led (suc s) q o l = by_test (ltb q t)
      (λ e. first_led q (ltb-true q t e))
      (λ e. let later = ltb-false q t e in
      let w = one_from m befores afters order q (get_or order q 0) (omega (arith, F.earned q later l, waited q later l)) in
      leads_on Follows (placed_led s w.0 (omega (arith, w.1)) (omega (arith, w.1))) (direct w.2))

  -- All that is led to is placed.
  on_from : (j : ℕ) → j < n → get_or waits j 0 ≡ 0 → (y : ℕ) → Follows j y ≡ true → get_or waits y 0 ≡ 0
  on_from j l z y f =
      let w = F.passed.queue.everyone j l z in
      let u : y < n = (follows_inside m befores afters n T j y f).1 in
      omega (
        arith,
        from_one m befores afters order r y w.0 w.1 (rw w.2 f),
        F.passed.lowered y u,
        P.lowered y u,
        ones y u,
      )

  led_free : {x j : ℕ} → Leads Follows x j → ((y : ℕ) → Follows x y ≡ true → get_or waits y 0 ≡ 0) → get_or waits j 0 ≡ 0
  led_free {x} {j} (direct e) h = h j e
  led_free {x} {j = z} (onward {j} e on) h =
      led_free on (on_from j (follows_inside m befores afters n T x j e).1 (h j e))

  from_start : (y : ℕ) → follows m befores afters i y ≡ true → get_or waits y 0 ≡ 0
  from_start y f =
      let u : y < n = (follows_inside m befores afters n T i y f).1 in
      omega (arith, follows_between m befores afters i y f, F.passed.lowered y u, P.lowered y u, ones y u)

  -- Piece i is placed exactly if it leads to itself.
  pub placed-via : i < n → eqb (get_or waits i 0) 0 ≡ via (follows m befores afters) n i i
  placed-via one = by_test (via (follows m befores afters) n i i)
      (λ e. eq-eqb (get_or waits i 0) 0 (led_free (via-leads (follows m befores afters) n i i e) from_start) ∙ sym e)
      (λ e. ne_eqb (get_or waits i 0) 0 (λ z.
      let w = F.passed.queue.everyone i one z in
      let led : Leads (follows m befores afters) i i = rw w.2 at (placed_led r w.0 w.1 w.1) in
      true_or_false (sym (leads-via Follows n (follows_inside m befores afters n T) led) ∙ e)) ∙ sym e)
