-- A piece is ready at a moment exactly if it waits for no unfinished piece and its ready moment has come; and what a
-- piece waits for changes by one piece's links when one piece is finished.
use Prim.Native.Nat.{ℕ, ◌+◌, ◌≤◌, ◌<◌, max}
use mathlib.Core.Bool.{true, false, not, ◌&&◌}
use mathlib.Core.List.Memᴰ.{head as here}
use mathlib.Core.List.Memᴰ.{tail as there}
use mathlib.Core.List.{List, [], ◌∷◌, Memᴰ as Mem}
use mathlib.Core.Path.{◌≡◌, refl}
use native.Mathlib.Omega.{arith}
use borrow.Author.Tests.{eqb-true, eqb-false, eq-eqb, ne_eqb}
use lib.Dec.{eqb}
use Rattle.rules.specs.Words.{when}
use Rattle.rules.specs.Job.{Job, piece}
use Rattle.rules.specs.Moments.{delay}
use Rattle.rules.specs.Urgency.{Progress, progress, is_ready}
use Rattle.rules.specs.declared.Link.{Link}
use Rattle.laws.proofs.Words.{by_test}
use Rattle.laws.proofs.Sound.{into_link, link_into}
use Rattle.laws.proofs.Slots.{ready_release, ready_before, ready_intro, handed_fact, fact_handed}
use Rattle.slots.specs.Standing.{done, waits_for, asks, ready_by, waits_of, ready_of, links_to, asked_by, links_at}

-- Something is left of a piece exactly if it is not done.
pub left_undone : (P : ℕ → Progress) (i : ℕ) → 0 < (P i).left → done P i ≡ false
left_undone P i h = ne_eqb (P i).left 0 (λ (z : (P i).left ≡ 0). omega arith)

pub undone_left : (P : ℕ → Progress) (i : ℕ) → done P i ≡ false → 0 < (P i).left
undone_left P i h = omega (arith, eqb-false (P i).left 0 h)

-- Every link into piece i comes from a finished piece and has been handed over by moment t.
abbrev Settled : Job → (ℕ → Progress) → ℕ → ℕ → List Link → Type 0
Settled J P i t ls =
    (l : Link) → Mem l ls → l.after ≡ i → ((P l.before).left ≡ 0) × ((P l.before).finish + delay J l ≤ t)

module _ (J : Job) (P : ℕ → Progress) (i : ℕ) where
  settled_waits : (t : ℕ) (ls : List Link) → Settled J P i t ls → waits_for P i ls ≡ 0
  unfolding waits_for
  settled_waits t [] s = refl
  settled_waits t (l ∷ ls) s =
      let ih : waits_for P i ls ≡ 0 = settled_waits t ls (λ k m. s k (there m)) in
      by_test (eqb l.after i)
      (λ e. rw (e, eq-eqb _ 0 (s l (here refl) (eqb-true l.after i e)).0, when) (omega arith))
      (λ e. rw (e, when) (omega arith))

  settled_ready : (t first : ℕ) (ls : List Link) → first ≤ t → Settled J P i t ls → ready_by J P i first ls ≤ t
  unfolding ready_by asks
  settled_ready t first [] h s = h
  settled_ready t first (l ∷ ls) h s =
      let ih : ready_by J P i first ls ≤ t = settled_ready t first ls h (λ k m. s k (there m)) in
      by_test (eqb l.after i)
      (λ e. let w = s l (here refl) (eqb-true l.after i e) in rw (e, eq-eqb _ 0 w.0, when) (omega (arith, w.1)))
      (λ e. rw (e, when) (omega arith))

  first_in : (first : ℕ) (ls : List Link) → first ≤ ready_by J P i first ls
  unfolding ready_by
  first_in first [] = omega arith
  first_in first (l ∷ ls) = let ih : first ≤ ready_by J P i first ls = first_in first ls in omega arith

  -- What one link into piece i says of the counts it is a part of.
  link_settled : (t : ℕ) (l : Link) → l.after ≡ i
      → ◌≡◌ {A = ℕ} (when (eqb l.after i && not (done P l.before)) 1 0) 0
      → asks J P i l ≤ t → ((P l.before).left ≡ 0) × ((P l.before).finish + delay J l ≤ t)
  unfolding asks when
  link_settled t l e w r =
      let own : eqb l.after i ≡ true = eq-eqb l.after i e in
      by_test (done P l.before)
      (λ d. (eqb-true _ 0 d, rw (own, d, when) at r))
      (λ d. let z : ◌≡◌ {A = ℕ} 1 0 = rw (own, d, when) at w in absurd (omega arith))

  waits_settled : (t first : ℕ) (ls : List Link) → waits_for P i ls ≡ 0 → ready_by J P i first ls ≤ t → Settled J P i t ls
  unfolding waits_for ready_by
  waits_settled t first [] w r k never e = elim never [ ]
  waits_settled t first (l ∷ ls) w r k (here q) e =
      rw q (link_settled t l (rw q at e) (omega arith) (omega arith))
  waits_settled t first (l ∷ ls) w r k (there m) e = waits_settled t first ls (omega arith) (omega arith) k m e

-- A piece is ready exactly if it waits for no piece and its ready moment has come.
module _ (J : Job) (W : List Progress) (t i : ℕ) where
  pub ready_waits : is_ready J W t i ≡ true → (waits_of J (progress W) i ≡ 0) × (ready_of J (progress W) i ≤ t)
  unfolding waits_of ready_of
  ready_waits h =
      let s : Settled J (progress W) i t J.links =
      λ l m e. handed_fact J W t l (ready_before J W t i h l (link_into J i l m e)) in (
        settled_waits J (progress W) i t J.links s,
        settled_ready J (progress W) i t (piece J i).release J.links (ready_release J W t i h) s,
      )

  pub waits_ready : waits_of J (progress W) i ≡ 0 → ready_of J (progress W) i ≤ t → is_ready J W t i ≡ true
  unfolding waits_of ready_of
  waits_ready w r =
      ready_intro J W t i (omega (arith, first_in J (progress W) i (piece J i).release J.links))
      (λ l m. let k = into_link J i l m in
      let f = waits_settled J (progress W) i t (piece J i).release J.links w r l k.0 k.1 in
      fact_handed J W t l f.0 f.1)

-- Two states of the plan in which the same pieces are finished, at the same moments, ask the same of every piece.
module _ (J : Job) (P Q : ℕ → Progress) (i : ℕ) where
  pub alike_waits : (ls : List Link) → ((l : Link) → Mem l ls → done P l.before ≡ done Q l.before)
      → waits_for P i ls ≡ waits_for Q i ls
  unfolding waits_for
  alike_waits [] h = refl
  alike_waits (l ∷ ls) h = rw (h l (here refl), alike_waits ls (λ k m. h k (there m)))

  asks_alike : (l : Link) → done P l.before ≡ done Q l.before
      → ((P l.before).left ≡ 0 → (P l.before).finish ≡ (Q l.before).finish) → asks J P i l ≡ asks J Q i l
  unfolding asks
  asks_alike l h f = by_test (done P l.before)
      (λ e. rw (← h, e, f (eqb-true _ 0 e)))
      (λ e. by_test (eqb l.after i) (λ a. rw (← h, e, a, when)) (λ a. rw (a, when)))

  pub alike_ready : (first : ℕ) (ls : List Link) → ((l : Link) → Mem l ls → done P l.before ≡ done Q l.before)
      → ((l : Link) → Mem l ls → (P l.before).left ≡ 0 → (P l.before).finish ≡ (Q l.before).finish)
      → ready_by J P i first ls ≡ ready_by J Q i first ls
  unfolding ready_by
  alike_ready first [] h f = refl
  alike_ready first (l ∷ ls) h f =
      rw (
        asks_alike l (h l (here refl)) (f l (here refl)),
        alike_ready first ls (λ k m. h k (there m))
            (λ k m. f k (there m)),
      )

-- Piece p, unfinished in P, is finished at moment c in Q, and no other piece differs.
module _ (J : Job) (P Q : ℕ → Progress) (p c : ℕ) (was : done P p ≡ false) (is : (Q p).left ≡ 0) (at : (Q p).finish ≡ c)
    (others : (j : ℕ) → (j ≡ p → ⊥) → P j ≡ Q j) (i : ℕ) where
  one_waits : (l : Link) → when (eqb l.after i && not (done P l.before)) 1 0
      ≡ when (eqb l.after i && not (done Q l.before)) 1 0 + when (eqb l.before p && eqb l.after i) 1 0
  unfolding when
  one_waits l = by_test (eqb l.before p)
      (λ b. let e : l.before ≡ p = eqb-true _ p b in
      by_test (eqb l.after i)
      (λ a. rw (b, a, e, was, eq-eqb _ 0 is, when))
      (λ a. rw (b, a, when)))
      (λ b. let e : P l.before ≡ Q l.before = others l.before (eqb-false _ p b) in
      rw (b, e, when) (omega arith))

  one_asks : (l : Link)
      → asks J Q i l ≡ max (asks J P i l) (when (eqb l.before p && eqb l.after i) (c + delay J l) 0)
  unfolding asks when
  one_asks l = by_test (eqb l.before p)
      (λ b. let e : l.before ≡ p = eqb-true _ p b in
      by_test (eqb l.after i)
      (λ a. rw (b, a, e, was, eq-eqb _ 0 is, at, when) (omega arith))
      (λ a. rw (b, a, when)))
      (λ b. let e : P l.before ≡ Q l.before = others l.before (eqb-false _ p b) in
      rw (b, e, when) (omega arith))

  pub finished_waits : (ls : List Link) → waits_for P i ls ≡ waits_for Q i ls + links_to p i ls
  unfolding waits_for links_to
  finished_waits [] = refl
  finished_waits (l ∷ ls) =
      let ih : waits_for P i ls ≡ waits_for Q i ls + links_to p i ls = finished_waits ls in omega (arith, one_waits l)

  pub finished_ready : (first : ℕ) (ls : List Link)
      → ready_by J Q i first ls ≡ max (ready_by J P i first ls) (asked_by J p c i ls)
  unfolding ready_by asked_by
  finished_ready first [] = omega arith
  finished_ready first (l ∷ ls) =
      let ih : ready_by J Q i first ls ≡ max (ready_by J P i first ls) (asked_by J p c i ls) = finished_ready first ls in
      omega (arith, one_asks l)

-- No piece is finished yet: a piece waits for all links into it, and only its release holds it back.
module _ (J : Job) (P : ℕ → Progress) (i : ℕ) where
  pub fresh_waits : (ls : List Link) → ((l : Link) → Mem l ls → done P l.before ≡ false)
      → waits_for P i ls ≡ links_at i ls
  unfolding waits_for links_at
  fresh_waits [] h = refl
  fresh_waits (l ∷ ls) h =
      rw (h l (here refl), fresh_waits ls (λ k m. h k (there m)))
      (by_test (eqb l.after i) (λ a. rw a) (λ a. rw a))

  pub fresh_ready : (first : ℕ) (ls : List Link) → ((l : Link) → Mem l ls → done P l.before ≡ false)
      → ready_by J P i first ls ≡ first
  unfolding ready_by asks
  fresh_ready first [] h = refl
  fresh_ready first (l ∷ ls) h =
      rw (h l (here refl), fresh_ready first ls (λ k m. h k (there m)))
      (by_test (eqb l.after i) (λ a. rw (a, when) (omega arith)) (λ a. rw (a, when) (omega arith)))
