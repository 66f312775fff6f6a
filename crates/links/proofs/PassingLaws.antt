-- Links passed along the chain of one piece, and from all pieces in the queue.
use Prim.Native.Nat.{ℕ, zero, suc, ◌+◌, ◌-◌, ◌≤◌, ◌<◌}
use mathlib.Core.Bool.{true, false, ◌&&◌}
use mathlib.Core.List.{List}
use mathlib.Core.Logic.{◌⊎◌, inl, inr}
use mathlib.Core.Path.{◌≡◌, refl, sym, ap, ◌∙◌}
use native.Mathlib.Omega.{arith}
use borrow.Author.Tests.{eqb-true, eqb-false, eq-eqb, ne_eqb, ltb-true, ltb-false}
use lib.Dec.{eqb, ltb}
use lib.ListN.{get_or}
use Rattle.rules.specs.Words.{when}
use Rattle.laws.proofs.Words.{by_test, true_or_false, or_true, or_left, or_right, and_true, and_intro}
use Rattle.links.specs.Chains.{last_with, Chained}
use Rattle.links.specs.Links.{Ties, links_between}
use Rattle.links.specs.Queue.{Queue, Passed, among, links_from_first, FirstPassed}
use Rattle.links.proofs.ChainLaws.{chain_skip, OnChain, chain_start, on_most, on_link, on_falls, on_next}
use Rattle.links.proofs.Counting.{below_or_last, counted_same, counted_le, counted_none, counted_split}

-- On the way along the chain of piece i, before the link of the code `at`: what is left to pass there makes it whole.
pub record Walking (n m : ℕ) (befores afters : List ℕ) (i t : ℕ) (order waits : List ℕ)
    (at r : ℕ) (order₂ waits₂ : List ℕ) : Type 0 where
  pub bound : ℕ
  pub chain : OnChain befores i m at bound
  pub place : at ≤ m
  pub queue : Queue n r order₂ waits₂
  pub more : t ≤ r
  pub kept : (q : ℕ) → q < t → get_or order₂ q 0 ≡ get_or order q 0
  pub rest : (j : ℕ) → j < n
      → get_or waits₂ j 0 - links_between at befores afters i j ≡ get_or waits j 0 - links_between m befores afters i j

-- Links of other pieces do not count.
between_skip : (befores afters : List ℕ) (i j n : ℕ)
    → links_between (last_with befores i n) befores afters i j ≡ links_between n befores afters i j
unfolding links_between
between_skip befores afters i j n =
    chain_skip befores i (λ a. links_between a befores afters i j) n
    (λ k l e. rw (ne_eqb (get_or befores k 0) i e, when) (omega arith))

between_own : (befores afters : List ℕ) (i j k : ℕ) → get_or befores k 0 ≡ i
    → links_between (suc k) befores afters i j ≡ when (eqb j (get_or afters k 0)) 1 0 + links_between k befores afters i j
unfolding links_between
between_own befores afters i j k h = by_test (eqb j (get_or afters k 0))
    (λ e. rw (eq-eqb (get_or befores k 0) i h, eq-eqb (get_or afters k 0) j (sym (eqb-true j (get_or afters k 0) e)), e))
    (λ e. let no : get_or afters k 0 ≡ j → ⊥ = λ q. eqb-false j (get_or afters k 0) e (sym q) in
    rw (eq-eqb (get_or befores k 0) i h, ne_eqb (get_or afters k 0) j no, e))

module _ {n m : ℕ} {befores afters last prior : List ℕ} (T : Ties n m befores afters) (C : Chained befores m last prior)
    (i t : ℕ) (order waits : List ℕ) where
  abbrev Walk : ℕ → ℕ → List ℕ → List ℕ → Type 0
  Walk = Walking n m befores afters i t order waits

  pub walk_start : (at : ℕ) → at ≡ get_or last i 0 → i < n → Queue n t order waits → Walk at t order waits
  walk_start at e one Q =
      let first = chain_start C at e (omega (arith, one, T.few_pieces)) in
      record {
        bound = m;
        chain = first;
        place = on_most C first;
        queue = Q;
        more = omega arith;
        kept = λ q l. refl;
        rest = λ j l. rw first.here_is (ap (λ x. get_or waits j 0 - x) (between_skip befores afters i j m));
      }

  -- At link k: it is one of the links, it leads to a piece, and the next on the chain stands at a lower place.
  module _ {k r : ℕ} {order₂ waits₂ : List ℕ} (W : Walk (suc k) r order₂ waits₂) where
    here : (k < m) × (get_or befores k 0 ≡ i)
    here = on_link C W.chain

    pub walk_place : k < m
    walk_place = here.0

    pub walk_link : get_or afters k 0 < n
    walk_link = T.after_one k here.0

    pub walk_falls : get_or prior k 0 < suc k
    walk_falls = on_falls C W.chain

    pub walk_on : {r₃ : ℕ} {order₃ waits₃ : List ℕ} (at : ℕ) → at ≡ get_or prior k 0
        → Passed n r (λ x. when (eqb x (get_or afters k 0)) 1 0) order₂ waits₂ r₃ order₃ waits₃
        → Walk at r₃ order₃ waits₃
    walk_on at e P =
        let next = on_next C W.chain at e in
        record {
          bound = k;
          chain = next;
          place = on_most C next;
          queue = P.queue;
          more = omega (arith, W.more, P.more);
          kept = λ q l. P.kept q (omega (arith, W.more)) ∙ W.kept q l;
          rest = λ j l.
              rw (next.here_is, between_skip befores afters i j k)
              (omega (arith, P.lowered j l, W.rest j l, between_own befores afters i j k here.1));
        }

  pub walk_end : {r : ℕ} {order₂ waits₂ : List ℕ} → Walk 0 r order₂ waits₂
      → Passed n t (links_between m befores afters i) order waits r order₂ waits₂
  unfolding links_between
  walk_end W = record {
    queue = W.queue;
    more = W.more;
    kept = W.kept;
    lowered = λ j l. omega (arith, W.rest j l);
  }

-- Among the first of the queue.
pub among_found : (order : List ℕ) (h x : ℕ) → among order h x ≡ true → (p : ℕ) × (p < h) × (get_or order p 0 ≡ x)
unfolding among
among_found order zero x e = true_or_false (sym e)
among_found order (suc h) x e = go (or_true (eqb (get_or order h 0) x) (among order h x) e) (λ f. among_found order h x f)
  where
    go : (eqb (get_or order h 0) x ≡ true) ⊎ (among order h x ≡ true)
        → (among order h x ≡ true → (p : ℕ) × (p < h) × (get_or order p 0 ≡ x))
        → (p : ℕ) × (p < suc h) × (get_or order p 0 ≡ x)
    go (inl f) ih = (h, omega arith, eqb-true (get_or order h 0) x f)
    go (inr f) ih = let w = ih f in (w.0, omega (arith, w.1), w.2)

pub among_place : (order : List ℕ) (h p x : ℕ) → p < h → get_or order p 0 ≡ x → among order h x ≡ true
unfolding among
among_place order zero p x l e = absurd (omega arith)
among_place order (suc h) p x l e = below_or_last p h l
    (λ k. or_right (eqb (get_or order h 0) x) (among order h x) (among_place order h p x k e))
    (λ k. or_left (eqb (get_or order h 0) x) (among order h x)
    (eq-eqb (get_or order h 0) x (ap (λ y. get_or order y 0) (sym k) ∙ e)))

among_kept : (order order₂ : List ℕ) (h x : ℕ) → ((q : ℕ) → q < h → get_or order₂ q 0 ≡ get_or order q 0)
    → among order₂ h x ≡ among order h x
unfolding among
among_kept order order₂ zero x k = refl
among_kept order order₂ (suc h) x k =
    rw (k h (omega arith), among_kept order order₂ h x (λ q l. k q (omega arith)))

-- Links from the first of the queue.
module _ (m : ℕ) (befores afters : List ℕ) where
  first_none : (order : List ℕ) (j : ℕ) → links_from_first m befores afters order 0 j ≡ 0
  unfolding links_from_first among
  first_none order j = counted_none (λ k. eqb (get_or afters k 0) j && false) m
      (λ k l. by_test (eqb (get_or afters k 0) j) (λ e. rw e) (λ e. rw e))

  first_kept : (order order₂ : List ℕ) (h j : ℕ) → ((q : ℕ) → q < h → get_or order₂ q 0 ≡ get_or order q 0)
      → links_from_first m befores afters order₂ h j ≡ links_from_first m befores afters order h j
  unfolding links_from_first
  first_kept order order₂ h j k = counted_same _ _ m
      (λ g l. ap (λ b. eqb (get_or afters g 0) j && b) (among_kept order order₂ h (get_or befores g 0) k))

  pub first_more : (order : List ℕ) (h h₂ j : ℕ) → h ≤ h₂
      → links_from_first m befores afters order h j ≤ links_from_first m befores afters order h₂ j
  unfolding links_from_first
  first_more order h h₂ j l = counted_le _ _ m
      (λ g o e. let a = and_true (eqb (get_or afters g 0) j) (among order h (get_or befores g 0)) e in
      let w = among_found order h (get_or befores g 0) a.1 in
      and_intro _ _ a.0 (among_place order h₂ w.0 (get_or befores g 0) (omega (arith, w.1)) w.2))

  -- One more of the queue, which was not among the first yet.
  first_next : (order : List ℕ) (h j : ℕ) → among order h (get_or order h 0) ≡ false
      → links_from_first m befores afters order (suc h) j
      ≡ links_from_first m befores afters order h j + links_between m befores afters (get_or order h 0) j
  unfolding links_from_first links_between among
  first_next order h j new = counted_split _ _ _ m
      (λ k l. by_test (eqb (get_or afters k 0) j)
      (λ e. by_test (eqb (get_or order h 0) (get_or befores k 0))
      (λ f. let q : get_or befores k 0 ≡ get_or order h 0 = sym (eqb-true (get_or order h 0) (get_or befores k 0) f) in
      rw (e, q, new, eq-eqb (get_or order h 0) (get_or order h 0) refl, when))
      (λ f.
      let no : get_or befores k 0 ≡ get_or order h 0 → ⊥ = λ q. eqb-false (get_or order h 0) (get_or befores k 0) f (sym q) in
      rw (e, f, ne_eqb (get_or befores k 0) (get_or order h 0) no, when) (omega arith)))
      (λ e. by_test (eqb (get_or befores k 0) (get_or order h 0)) (λ f. rw (e, f, when)) (λ f. rw (e, f, when))))

-- From the first h of the queue to the first h + 1.
module _ (n m : ℕ) (befores afters : List ℕ) (t : ℕ) (order waits : List ℕ) where
  abbrev First : ℕ → ℕ → List ℕ → List ℕ → Type 0
  First = FirstPassed n m befores afters t order waits

  pub first_start : Queue n t order waits → First 0 t order waits
  first_start Q = record {
    within = omega arith;
    passed = record {
      queue = Q;
      more = omega arith;
      kept = λ q l. refl;
      lowered = λ j l. omega (arith, first_none m befores afters order j);
    };
    earned = λ q l k. absurd (omega arith);
  }

  module _ (h r : ℕ) (order₂ waits₂ : List ℕ) (F : First h r order₂ waits₂) (next : h < r) where
    new : among order₂ h (get_or order₂ h 0) ≡ false
    new = by_test (among order₂ h (get_or order₂ h 0))
        (λ e. let w = among_found order₂ h (get_or order₂ h 0) e in
        absurd (omega (arith, w.1, F.passed.queue.once w.0 h (omega (arith, w.1)) next w.2)))
        (λ e. e)

    module _ (r₃ : ℕ) (order₃ waits₃ : List ℕ)
        (P : Passed n r (links_between m befores afters (get_or order₂ h 0)) order₂ waits₂ r₃ order₃ waits₃) where
      all_lowered : (j : ℕ) → j < n
          → get_or waits₃ j 0 ≡ get_or waits j 0 - links_from_first m befores afters order₃ (suc h) j
      all_lowered j l =
          omega (
            arith,
            P.lowered j l,
            F.passed.lowered j l,
            first_kept m befores afters order₂ order₃ (suc h) j (λ q o. P.kept q (omega arith)),
            first_next m befores afters order₂ h j new,
          )

      all_earned : (q : ℕ) → t ≤ q → q < r₃
          → get_or waits (get_or order₃ q 0) 0 ≤ links_from_first m befores afters order₃ q (get_or order₃ q 0)
      all_earned q l k = by_test (ltb q r)
          (λ e. let o : q < r = ltb-true q r e in
          let same = first_kept m befores afters order₂ order₃ q (get_or order₃ q 0) (λ p i. P.kept p (omega arith)) in
          rw (same, P.kept q o) (F.earned q l o))
          (λ e. omega (
            arith,
            ltb-false q r e,
            all_lowered (get_or order₃ q 0) (P.queue.inside q k),
            P.queue.idle q k,
            first_more m befores afters order₃ (suc h) q (get_or order₃ q 0) (omega (arith, ltb-false q r e)),
          ))

      pub first_on : First (suc h) r₃ order₃ waits₃
      first_on = record {
        within = omega (arith, P.more);
        passed = record {
          queue = P.queue;
          more = omega (arith, P.more, F.passed.more);
          kept = λ q l. P.kept q (omega (arith, F.passed.more)) ∙ F.passed.kept q l;
          lowered = all_lowered;
        };
        earned = all_earned;
      }
