-- A finished piece's links, followed along their chain: from one link of the piece to the next nothing else changes.
use Prim.Native.Nat.{ℕ, suc, ◌+◌, ◌-◌, ◌≤◌, ◌<◌, max}
use mathlib.Core.List.{List}
use mathlib.Core.Path.{◌≡◌, refl, sym, ap, ◌∙◌}
use native.Mathlib.Numerals.{add-one}
use native.Mathlib.Omega.{arith}
use borrow.Author.Tests.{eq-eqb, ne_eqb}
use lib.Dec.{eqb}
use lib.ListN.{get_or, set}
use lib.Seq.{map-set_same}
use Rattle.std.proofs.lemmas.List.{map-set}
use Rattle.rules.specs.Job.{no_piece}
use Rattle.rules.specs.Tables.{no_link, befores_of, afters_of, handovers_of}
use Rattle.rules.specs.Words.{when}
use Rattle.rules.specs.declared.Link.{Link}
use Rattle.laws.proofs.Columns.{get_or-desks, get_or-befores, get_or-afters, get_or-handovers}
use Rattle.laws.proofs.Words.{when_true, when_false}
use Rattle.links.specs.Chains.{last_with}
use Rattle.links.proofs.ChainLaws.{chain_key, chain_skip}
use Rattle.steps.specs.States.{ready_of, no_state}
use Rattle.steps.specs.declared.State.{State}
use Rattle.steps.proofs.States.{get_or-ready}
use Rattle.handing.specs.Open.{tied, OnlyReady}
use Rattle.handing.specs.declared.job.Job.{Job}
use Rattle.steps.specs.Handover.{Ties, Waiting, waiting, delay_of, passed, pass_from, hand_on, hand_to}

-- The last link of a piece among the first n is one of these, and the piece's own; what is passed on from there on
-- back is all that is passed on. 0 says that there is none, and then nothing is.
module _ (l : Ties) (p c : ℕ) where
  pub record Onward (s : Waiting) (n k : ℕ) : Type 0 where
    pub below : k < n
    pub own : get_or l.befores k 0 ≡ p
    pub rest : pass_from l p c n s ≡ pass_from l p c k (passed l c k s)

  to_last : (s : Waiting) (n : ℕ) → pass_from l p c n s ≡ pass_from l p c (last_with l.befores p n) s
  unfolding pass_from
  to_last s n = sym (chain_skip l.befores p (λ k. pass_from l p c k s) n
      (λ k h ne. ap (pass_from l p c k) (when_false _ _ _ (ne_eqb _ p ne))))

  pub last_found : (s : Waiting) (n k : ℕ) → last_with l.befores p n ≡ suc k → Onward s n k
  unfolding pass_from
  last_found s n k e =
      let w = chain_key l.befores p n k e in
      record {
        below = w.0;
        own = w.1;
        rest = to_last s n ∙ ap (λ j. pass_from l p c j s) e
            ∙ ap (pass_from l p c k) (when_true _ _ _ (eq-eqb _ p w.1));
      }

  pub last_nothing : (s : Waiting) (n : ℕ) → last_with l.befores p n ≡ 0 → pass_from l p c n s ≡ s
  unfolding pass_from
  last_nothing s n e = to_last s n ∙ ap (λ j. pass_from l p c j s) e

-- One link looked at, with what the code computed for it: the pieces before and after it, its delay, what the piece after
-- waits for and when it is ready.
module _ (j : Job) (k c : ℕ) (waits : List ℕ) (xs : List State) where
  abbrev link : Link
  link = get_or j.links.now k no_link

  abbrev readied : ℕ → ℕ → List State
  readied a r = set xs a (record { left = (get_or xs a no_state).left; ready = r })

  delay_is : (a b h d : ℕ) → a ≡ get_or (afters_of j.links.now) k 0 → b ≡ link.before → h ≡ link.handover
      → d ≡ when (eqb (get_or j.pieces.now b no_piece).desk (get_or j.pieces.now a no_piece).desk) 0 h
      → d ≡ delay_of (tied j) k
  unfolding delay_of
  delay_is a b h d ea eb eh e =
      let before : b ≡ get_or (befores_of j.links.now) k 0 = eb ∙ sym (get_or-befores j.links.now k) in
      let time : h ≡ get_or (handovers_of j.links.now) k 0 = eh ∙ sym (get_or-handovers j.links.now k) in
      e ∙ rw (time, ← (get_or-desks j.pieces.now b), ← (get_or-desks j.pieces.now a), before, ea)

  pub link_passed : (a b h d w r : ℕ) → a ≡ link.after → b ≡ link.before → h ≡ link.handover
      → d ≡ when (eqb (get_or j.pieces.now b no_piece).desk (get_or j.pieces.now a no_piece).desk) 0 h
      → w ≡ get_or waits a 0 - 1 → r ≡ max (get_or xs a no_state).ready (c + d)
      → waiting (set waits a w) (ready_of (readied a r)) ≡ passed (tied j) c k (waiting waits (ready_of xs))
  link_passed a b h d w r ea eb eh e ew er =
      let after : a ≡ get_or (afters_of j.links.now) k 0 = ea ∙ sym (get_or-afters j.links.now k) in
      let ready : ready_of (readied a r) ≡ set (ready_of xs) a r = map-set (λ x. x.ready) xs a _ in
      let later : r ≡ max (get_or (ready_of xs) a 0) (c + delay_of (tied j) k) =
      er ∙ rw (get_or-ready xs a, delay_is a b h d after eb eh e) in
      rw (ready, ew, later, after)

  pub ready_alone : (a r : ℕ) → OnlyReady xs (readied a r)
  ready_alone a r = record { left_stays = map-set_same (λ x. x.left) xs a _ no_state refl }

pub ready_same : (xs : List State) → OnlyReady xs xs
ready_same xs = record { left_stays = refl }

pub ready_then : (xs ys zs : List State) → OnlyReady xs ys → OnlyReady ys zs → OnlyReady xs zs
ready_then xs ys zs a b = record { left_stays = b.left_stays ∙ a.left_stays }

-- A piece that was worked on, by the ways the code takes, and one desk more.
module _ (l : Ties) (m c : ℕ) (left : List ℕ) where
  pub unfinished_hands : (i : ℕ) (s : Waiting) → 0 < get_or left i 0 → s ≡ hand_on l m c left i s
  unfolding hand_on
  unfinished_hands i s u =
      sym (when_false _ _ _ (ne_eqb (get_or left i 0) 0 (λ (z : get_or left i 0 ≡ 0). omega arith)))

  pub finished_hands : (i : ℕ) (s r : Waiting) → get_or left i 0 ≤ 0 → r ≡ pass_from l i c m s → r ≡ hand_on l m c left i s
  unfolding hand_on
  finished_hands i s r u e = e ∙ sym (when_true _ _ _ (eq-eqb (get_or left i 0) 0 (omega arith)))

  pub hand_more : (chosen busy : List ℕ) (d : ℕ) (s q r : Waiting) → q ≡ hand_to l m c left chosen busy d s
      → r ≡ hand_on l m c left (get_or chosen (get_or busy d 0) 0) q → r ≡ hand_to l m c left chosen busy (d + 1) s
  unfolding hand_to
  hand_more chosen busy d s q r a b = rw (add-one d, ← a) b
