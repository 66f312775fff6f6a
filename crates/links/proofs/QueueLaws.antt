-- The queue of pieces that wait for nothing: one piece more of which it is asked, and one piece that waits for one less.
-- And the links into each piece counted, for which the pieces wait at first.
use Prim.Native.Nat.{ℕ, suc, ◌+◌, ◌-◌, ◌≤◌, ◌<◌}
use mathlib.Core.List.{List}
use mathlib.Core.Path.{◌≡◌, refl, sym, ap, ◌∙◌}
use native.Mathlib.Numerals.{add-one}
use native.Mathlib.Omega.{arith}
use borrow.Author.Tests.{eqb-true, eqb-false, eq-eqb, ne_eqb}
use lib.Dec.{eqb}
use lib.ListN.{length, get_or, set, length-set}
use lib.Seq.{get_or-set_same, get_or-set_other}
use Rattle.rules.specs.Words.{when}
use Rattle.laws.proofs.Words.{by_test}
use Rattle.links.specs.Links.{counted, links_to}
use Rattle.links.specs.Queue.{Queue, Passed, ToCount, CountedTo, ToPassOne}
use Rattle.links.specs.declared.queue.Placing.{Placing}
use Rattle.links.proofs.Counting.{counted_none, counted_same, counted_one, counted_most, below_or_last}

-- Links into each piece: none yet, one more, and no more than were looked at.
pub count_none : (m : ℕ) (afters waits : List ℕ) → ToCount m afters waits → length waits ≡ 256 → CountedTo 0 afters waits
unfolding links_to
count_none m afters waits h sized = record { sized = sized; counts = h.cleared }

pub count_more : (k : ℕ) (afters waits : List ℕ) → CountedTo k afters waits → get_or afters k 0 < 256
    → CountedTo (k + 1) afters (set waits (get_or afters k 0) (get_or waits (get_or afters k 0) 0 + 1))
unfolding links_to when
count_more k afters waits h small = rw (add-one k) (record {
  sized = length-set waits (get_or afters k 0) _ ∙ h.sized;
  counts = λ j l. by_test (eqb (get_or afters k 0) j)
      (λ e. let q : get_or afters k 0 ≡ j = eqb-true (get_or afters k 0) j e in
      rw (e, q) (get_or-set_same waits j _ 0 (omega (arith, h.sized)) ∙ omega (arith, h.counts j l)))
      (λ e. let no : j ≡ get_or afters k 0 → ⊥ = λ q. eqb-false (get_or afters k 0) j e (sym q) in
      rw e (get_or-set_other waits (get_or afters k 0) j _ 0 no ∙ omega (arith, h.counts j l)));
})

pub count_most : (k j : ℕ) (afters waits : List ℕ) → CountedTo k afters waits → j < 256 → get_or waits j 0 ≤ k
unfolding links_to
count_most k j afters waits h l = omega (arith, h.counts j l, counted_most (λ i. eqb (get_or afters i 0) j) k)

-- Of no pieces none waits, and none is placed.
pub queue_none : (order waits : List ℕ) → length order ≡ 256 → length waits ≡ 256 → Queue 0 0 order waits
unfolding counted
queue_none order waits h k = record {
  order_sized = h;
  waits_sized = k;
  as_many = refl;
  inside = λ q l. absurd (omega arith);
  idle = λ q l. absurd (omega arith);
  once = λ p q l. absurd (omega arith);
  everyone = λ i l. absurd (omega arith);
}

-- All wait, and none is placed.
pub queue_ones : (n : ℕ) (order waits : List ℕ) → length order ≡ 256 → length waits ≡ 256
    → ((i : ℕ) → i < n → get_or waits i 0 ≡ 1) → Queue n 0 order waits
queue_ones n order waits h k ones = record {
  order_sized = h;
  waits_sized = k;
  as_many = counted_none (λ i. eqb (get_or waits i 0) 0) n
      (λ i l. ne_eqb (get_or waits i 0) 0 (λ z. absurd (omega (arith, ones i l))));
  inside = λ q l. absurd (omega arith);
  idle = λ q l. absurd (omega arith);
  once = λ p q l. absurd (omega arith);
  everyone = λ i l z. absurd (omega (arith, ones i l));
}

-- No more are placed than there are pieces.
pub queue_most : (n t : ℕ) (order waits : List ℕ) → Queue n t order waits → t ≤ n
queue_most n t order waits Q = omega (arith, counted_most (λ i. eqb (get_or waits i 0) 0) n, Q.as_many)

-- An entry behind the placed ones leaves those as they are.
behind : (t q v : ℕ) (order : List ℕ) → q < t → get_or (set order t v) q 0 ≡ get_or order q 0
behind t q v order l = get_or-set_other order t q v 0 (λ e. absurd (omega arith))

-- One piece more, which waits for something.
pub queue_waiting : (n t : ℕ) (order waits : List ℕ) → Queue n t order waits → (get_or waits n 0 ≡ 0 → ⊥)
    → Queue (suc n) t order waits
unfolding counted
queue_waiting n t order waits Q h = record {
  order_sized = Q.order_sized;
  waits_sized = Q.waits_sized;
  as_many = rw (ne_eqb (get_or waits n 0) 0 h, when) (omega (arith, Q.as_many));
  inside = λ q l. omega (arith, Q.inside q l);
  idle = Q.idle;
  once = Q.once;
  everyone = λ i l z. below_or_last i n l (λ k. Q.everyone i k z)
      (λ k. absurd (h (ap (λ x. get_or waits x 0) (sym k) ∙ z)));
}

-- The same pieces wait for nothing.
queue_same : (n t : ℕ) (order waits waits₂ : List ℕ) → Queue n t order waits → length waits₂ ≡ 256
    → ((i : ℕ) → i < n → eqb (get_or waits i 0) 0 ≡ eqb (get_or waits₂ i 0) 0) → Queue n t order waits₂
queue_same n t order waits waits₂ Q sized same = record {
  order_sized = Q.order_sized;
  waits_sized = sized;
  as_many = sym (counted_same (λ i. eqb (get_or waits i 0) 0) (λ i. eqb (get_or waits₂ i 0) 0) n same) ∙ Q.as_many;
  inside = Q.inside;
  idle = λ q l. eqb-true (get_or waits₂ (get_or order q 0) 0) 0
      (sym (same (get_or order q 0) (Q.inside q l)) ∙ eq-eqb _ 0 (Q.idle q l));
  once = Q.once;
  everyone = λ i l z. Q.everyone i l (eqb-true (get_or waits i 0) 0 (same i l ∙ eq-eqb _ 0 z));
}

-- Piece x is placed: it waits for nothing now, was not in the queue, and the others wait or not as before.
module _ (n n₂ t x : ℕ) (order waits waits₂ : List ℕ) (Q : Queue n t order waits) (room : t < 256)
    (there : x < n₂) (free : get_or waits₂ x 0 ≡ 0) (new : x < n → get_or waits x 0 ≡ 0 → ⊥)
    (still : (i : ℕ) → i < n → (i ≡ x → ⊥) → get_or waits i 0 ≡ 0 → (i < n₂) × (get_or waits₂ i 0 ≡ 0))
    (only : (i : ℕ) → i < n₂ → (i ≡ x → ⊥) → get_or waits₂ i 0 ≡ 0 → (i < n) × (get_or waits i 0 ≡ 0)) where
  at_end_lem : get_or (set order t x) t 0 ≡ x
  at_end_lem = get_or-set_same order t x 0 (omega (arith, Q.order_sized))

  not_new : (q : ℕ) → q < t → get_or order q 0 ≡ x → ⊥
  not_new q l e = new (rw e at (Q.inside q l)) (ap (λ y. get_or waits y 0) (sym e) ∙ Q.idle q l)

  old : (q : ℕ) → q < t → (get_or (set order t x) q 0 < n₂) × (get_or waits₂ (get_or (set order t x) q 0) 0 ≡ 0)
  old q l = rw (behind t q x order l) (still (get_or order q 0) (Q.inside q l) (not_new q l) (Q.idle q l))

  last : (q : ℕ) → q ≡ t → (get_or (set order t x) q 0 < n₂) × (get_or waits₂ (get_or (set order t x) q 0) 0 ≡ 0)
  last q e = rw (e, at_end_lem) (there, free)

  each : (q : ℕ) → q < suc t → (get_or (set order t x) q 0 < n₂) × (get_or waits₂ (get_or (set order t x) q 0) 0 ≡ 0)
  each q l = below_or_last q t l (old q) (last q)

  alone : (p q : ℕ) → p < suc t → q < suc t → get_or (set order t x) p 0 ≡ get_or (set order t x) q 0 → p ≡ q
  alone p q l m e = below_or_last p t l
      (λ a. below_or_last q t m
      (λ b. Q.once p q a b (sym (behind t p x order a) ∙ e ∙ behind t q x order b))
      (λ b. absurd (not_new p a (sym (behind t p x order a) ∙ e ∙ rw b at_end_lem))))
      (λ a. below_or_last q t m
      (λ b. absurd (not_new q b (sym (behind t q x order b) ∙ sym e ∙ rw a at_end_lem)))
      (λ b. omega arith))

  found : (i : ℕ) → i < n₂ → get_or waits₂ i 0 ≡ 0 → (q : ℕ) × (q < suc t) × (get_or (set order t x) q 0 ≡ i)
  found i l z = by_test (eqb i x)
      (λ e. (t, omega arith, at_end_lem ∙ sym (eqb-true i x e)))
      (λ e. let was = only i l (eqb-false i x e) z in
      let w = Q.everyone i was.0 was.1 in
      (w.0, omega (arith, w.1), behind t w.0 x order w.1 ∙ w.2))

  queue_placed : length waits₂ ≡ 256 → counted (λ i. eqb (get_or waits₂ i 0) 0) n₂ ≡ suc t
      → Queue n₂ (suc t) (set order t x) waits₂
  queue_placed sized many = record {
    order_sized = length-set order t x ∙ Q.order_sized;
    waits_sized = sized;
    as_many = many;
    inside = λ q l. (each q l).0;
    idle = λ q l. (each q l).1;
    once = alone;
    everyone = found;
  }

-- One piece more, which waits for nothing and is placed.
pub queue_free : (n t : ℕ) (order waits : List ℕ) → Queue n t order waits → n < 256 → get_or waits n 0 ≡ 0
    → Queue (suc n) (suc t) (set order t n) waits
unfolding counted
queue_free n t order waits Q small z =
    queue_placed n (suc n) t n order waits waits Q (omega (arith, queue_most n t order waits Q)) (omega arith) z
    (λ l e. absurd (omega arith))
    (λ i l e w. (omega arith, w))
    (λ i l e w. (below_or_last i n l (λ k. k) (λ k. absurd (e k)), w))
    Q.waits_sized
    (rw (eq-eqb (get_or waits n 0) 0 z, when) (omega (arith, Q.as_many)))

-- One link to piece j is passed, for which it waits for nothing: nothing changes.
pub passed_idle : (n t j : ℕ) (order waits : List ℕ) → Queue n t order waits → get_or waits j 0 ≡ 0
    → Passed n t (λ x. when (eqb x j) 1 0) order waits t order waits
unfolding when
passed_idle n t j order waits Q z = record {
  queue = Q;
  more = omega arith;
  kept = λ q l. refl;
  lowered = λ x l. by_test (eqb x j)
      (λ e. let q : get_or waits x 0 ≡ 0 = ap (λ y. get_or waits y 0) (eqb-true x j e) ∙ z in rw e (omega arith))
      (λ e. rw e (omega arith));
}

-- It waits for one less.
module _ (n t j : ℕ) (order waits : List ℕ) (Q : Queue n t order waits) (one : j < n) (few : n ≤ 256) where
  abbrev now_waits : List ℕ
  now_waits = set waits j (get_or waits j 0 - 1)

  own : get_or now_waits j 0 ≡ get_or waits j 0 - 1
  own = get_or-set_same waits j (get_or waits j 0 - 1) 0 (omega (arith, Q.waits_sized))

  other : (x : ℕ) → (x ≡ j → ⊥) → get_or now_waits x 0 ≡ get_or waits x 0
  other x e = get_or-set_other waits j x (get_or waits j 0 - 1) 0 e

  lowered_one : (x : ℕ) → x < n → get_or now_waits x 0 ≡ get_or waits x 0 - when (eqb x j) 1 0
  unfolding when
  lowered_one x l = by_test (eqb x j)
      (λ e. rw (eqb-true x j e, eq-eqb j j refl) own)
      (λ e. rw e (other x (eqb-false x j e) ∙ omega arith))

  -- It waits on for others.
  pub passed-waiting : 1 < get_or waits j 0 → Passed n t (λ x. when (eqb x j) 1 0) order waits t order now_waits
  passed-waiting w = record {
    queue = queue_same n t order waits now_waits Q (length-set waits j (get_or waits j 0 - 1) ∙ Q.waits_sized)
        (λ i l. by_test (eqb i j)
        (λ e. rw (eqb-true i j e) (ne_eqb (get_or waits j 0) 0 (λ z. absurd (omega arith))
        ∙ sym (ne_eqb (get_or now_waits j 0) 0 (λ z. absurd (omega (arith, own))))))
        (λ e. ap (λ y. eqb y 0) (sym (other i (eqb-false i j e)))));
    more = omega arith;
    kept = λ q l. refl;
    lowered = lowered_one;
  }

  -- It waited for this link last, and is placed: then there is room for it.
  one_more : get_or waits j 0 ≡ 1 → counted (λ i. eqb (get_or now_waits i 0) 0) n ≡ suc t
  one_more w =
      counted_one (λ i. eqb (get_or waits i 0) 0) (λ i. eqb (get_or now_waits i 0) 0) n j one
      (λ k l e. ap (λ y. eqb y 0) (sym (other k e)))
      (ne_eqb (get_or waits j 0) 0 (λ z. absurd (omega arith))) (eq-eqb (get_or now_waits j 0) 0 (own ∙ omega arith))
      ∙ ap suc Q.as_many

  passed_room : get_or waits j 0 ≡ 1 → t < n
  passed_room w = omega (arith, counted_most (λ i. eqb (get_or now_waits i 0) 0) n, one_more w)

  pub passed_last : get_or waits j 0 ≡ 1
      → Passed n t (λ x. when (eqb x j) 1 0) order waits (suc t) (set order t j) now_waits
  passed_last w = record {
    queue = queue_placed n n t j order waits now_waits Q (omega (arith, passed_room w)) one (own ∙ omega arith)
        (λ l z. absurd (omega arith))
        (λ i l e z. (l, other i e ∙ z)) (λ i l e z. (l, sym (other i e) ∙ z))
        (length-set waits j (get_or waits j 0 - 1) ∙ Q.waits_sized) (one_more w);
    more = omega arith;
    kept = λ q l. behind t q j order l;
    lowered = lowered_one;
  }

pub room_for_one : (j : ℕ) (q : Placing) → ToPassOne j q → get_or q.waits j 0 ≡ 1 → q.placed < 256
room_for_one j q A w =
    omega (arith, passed_room A.pieces q.placed j q.order q.waits A.queue A.one A.few w, A.few)

-- The same two steps in the numbers of the code, for a turn that finds its goal by itself.
pub queue_takes : (n t : ℕ) (order waits : List ℕ) → Queue n t order waits → n < 256 → get_or waits n 0 ≡ 0
    → Queue (n + 1) (t + 1) (set order t n) waits
queue_takes n t order waits Q small z = rw (add-one, add-one) (queue_free n t order waits Q small z)

pub queue_passes : (n t : ℕ) (order waits : List ℕ) → Queue n t order waits → (get_or waits n 0 ≡ 0 → ⊥)
    → Queue (n + 1) t order waits
queue_passes n t order waits Q h = rw add-one (queue_waiting n t order waits Q h)

-- What a turn that finds its goals by itself is given.
pub ruleset queue_steps = (queue_none, queue_most, queue_takes, queue_passes)
