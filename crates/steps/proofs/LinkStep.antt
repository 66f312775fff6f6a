-- The links over the tables: what is passed on along the links of the pieces that were finished leaves the tables saying
-- what every piece waits for at the next moment.
use Prim.Native.Nat.{ℕ, zero, suc, ◌+◌, ◌-◌, ◌≤◌, ◌<◌, max}
use mathlib.Core.Bool.{Bool, false}
use mathlib.Core.List.{List, map, Memᴰ as Mem}
use mathlib.Core.Option.{some}
use mathlib.Core.Path.{◌≡◌, refl, sym, ap, ◌∙◌}
use native.Mathlib.Omega.{arith}
use borrow.Author.Tests.{eqb-true, eqb-false}
use lib.Dec.{eqb}
use lib.ListN.{length, get_or}
use Rattle.rules.specs.Words.{when, below}
use Rattle.rules.specs.Job.{Job, piece_count, piece, desk}
use Rattle.rules.specs.Tables.{Sound, link_in}
use Rattle.rules.specs.Urgency.{Progress, worked}
use Rattle.rules.specs.declared.Link.{Link}
use Rattle.laws.proofs.Slots.{worked_chosen, some_inj}
use Rattle.laws.proofs.Sound.{link_fit}
use Rattle.laws.proofs.Words.{by_test}
use Rattle.slots.specs.Standing.{done, waits_for, ready_by, waits_of, ready_of, links_to, asked_by}
use Rattle.slots.specs.Stretch.{at, Stretch}
use Rattle.slots.proofs.Standing.{left_undone, alike_waits, alike_ready, finished_waits, finished_ready}
use Rattle.steps.specs.Handover.{Ties, Waiting, pass_from, hand_on, hand_to}
use Rattle.steps.proofs.Moved.{also, moment_of, moment_early, standing, all_moved, unmoved, moved_from, moved_to, moved_on, moved_by, Desks}
use Rattle.steps.proofs.Passing.{pass_sized, pass_waits, pass_ready}

-- The tables of n pieces say what they wait for.
pub record WaitHeld (J : Job) (n : ℕ) (P : ℕ → Progress) (s : Waiting) : Type 0 where
  pub waits_sized : length s.waits ≡ 256
  pub ready_sized : length s.ready ≡ 256
  pub waits_is : (i : ℕ) → i < n → get_or s.waits i 0 ≡ waits_of J P i
  pub ready_is : (i : ℕ) → i < n → get_or s.ready i 0 ≡ ready_of J P i

-- The links of the job as the tables have them.
module _ (J : Job) (sound : Sound J) (n m : ℕ) (l : Ties) (count : piece_count J ≡ n) (few : n ≤ 256)
    (desk_is : (i : ℕ) → i < n → desk J i ≡ get_or l.desks i 0)
    (links_are : J.links ≡ map (link_in l.befores l.afters l.handovers) (below m)) where
  -- The same pieces are finished, at the same moments.
  wait_alike : (P Q : ℕ → Progress) (s : Waiting) → ((i : ℕ) → i < n → done P i ≡ done Q i)
      → ((i : ℕ) → i < n → (P i).left ≡ 0 → (P i).finish ≡ (Q i).finish) → WaitHeld J n P s → WaitHeld J n Q s
  unfolding waits_of ready_of
  wait_alike P Q s d f h =
      let inside : (k : Link) → Mem k J.links → k.before < n =
      λ k q. rw count at (link_fit J sound k q).before_one in
      record {
        waits_sized = h.waits_sized;
        ready_sized = h.ready_sized;
        waits_is = λ i b. h.waits_is i b ∙ alike_waits J P Q i J.links (λ k q. d k.before (inside k q));
        ready_is = λ i b. h.ready_is i b ∙ alike_ready J P Q i (piece J i).release J.links
            (λ k q. d k.before (inside k q)) (λ k q. f k.before (inside k q));
      }

  -- Piece p is finished at moment c, and no other piece moves.
  wait_passed : (P Q : ℕ → Progress) (p c : ℕ) → 0 < (P p).left → (Q p).left ≡ 0 → (Q p).finish ≡ c
      → ((j : ℕ) → (j ≡ p → ⊥) → P j ≡ Q j) → (s : Waiting) → WaitHeld J n P s → WaitHeld J n Q (pass_from l p c m s)
  unfolding waits_of ready_of
  wait_passed P Q p c was is at_c others s h =
      let z = pass_sized J sound n m l count few desk_is links_are p c m s in
      record {
        waits_sized = z.0 ∙ h.waits_sized;
        ready_sized = z.1 ∙ h.ready_sized;
        waits_is = λ i b.
            let g : get_or (pass_from l p c m s).waits i 0 ≡ get_or s.waits i 0 - links_to p i J.links =
            pass_waits J sound n m l count few desk_is links_are p c m i s (omega arith) (omega (arith, h.waits_sized))
            ∙ ap (λ ls. get_or s.waits i 0 - links_to p i ls) (sym links_are) in
            let w : waits_for P i J.links ≡ waits_for Q i J.links + links_to p i J.links =
            finished_waits J P Q p c (left_undone P p was) is at_c others i J.links in
            omega (arith, h.waits_is i b);
        ready_is = λ i b.
            let g : get_or (pass_from l p c m s).ready i 0 ≡ max (get_or s.ready i 0) (asked_by J p c i J.links) =
            pass_ready J sound n m l count few desk_is links_are p c m i s (omega arith) (omega (arith, h.ready_sized))
            ∙ ap (λ ls. max (get_or s.ready i 0) (asked_by J p c i ls)) (sym links_are) in
            let w : ready_by J Q i (piece J i).release J.links
            ≡ max (ready_by J P i (piece J i).release J.links) (asked_by J p c i J.links) =
            finished_ready J P Q p c (left_undone P p was) is at_c others i (piece J i).release J.links in
            omega (arith, h.ready_is i b);
      }

  module _ (t u k : ℕ) (e : t + k ≡ u) (p : 0 < k) (st : Stretch J t k) (left : List ℕ)
      (left_is : (i : ℕ) → i < n → get_or left i 0 ≡ (at J u i).left) where
    abbrev then_at : (ℕ → Bool) → ℕ → Progress
    then_at M = standing J (moment_of t u M)

    -- Desk d moved on, which works on piece i.
    module _ (M : ℕ → Bool) (d : ℕ) (new : M d ≡ false) (i : ℕ) (q : worked J d t ≡ some i) (s : Waiting)
        (h : WaitHeld J n (then_at M) s) where
      inside : i < n
      inside = rw count at (worked_chosen J d t i q).waits.inside

      unfinished : 0 < (then_at M i).left
      unfinished = rw (moved_from J sound t u k e st M d new i q) (worked_chosen J d t i q).waits.unfinished

      others : (j : ℕ) → (j ≡ i → ⊥) → then_at M j ≡ then_at (also M d) j
      others j ne = sym (unmoved J sound t u k e st M d new j (λ z. ne (some_inj (sym z ∙ q))))

      -- It is finished, or it is not yet.
      finished_here : get_or left i 0 ≡ 0 → WaitHeld J n (then_at (also M d)) (pass_from l i u m s)
      finished_here f =
          let to : then_at (also M d) i ≡ at J u i = moved_to J sound t u k e st M d new i q in
          wait_passed (then_at M) (then_at (also M d)) i u unfinished
          (ap (λ r. r.left) to ∙ sym (left_is i inside) ∙ f)
          (ap (λ r. r.finish) (to ∙ moved_on J sound t u k e st M d new i q p) ∙ e)
          others s h

      not_finished_yet : 0 < get_or left i 0 → WaitHeld J n (then_at (also M d)) s
      not_finished_yet f =
          let to : then_at (also M d) i ≡ at J u i = moved_to J sound t u k e st M d new i q in
          let g : 0 < (then_at (also M d) i).left = rw (to, ← left_is i inside) f in
          wait_alike (then_at M) (then_at (also M d)) s
          (λ j b. by_test (eqb j i)
          (λ z. rw (eqb-true j i z) (left_undone (then_at M) i unfinished ∙ sym (left_undone (then_at (also M d)) i g)))
          (λ z. rw (others j (eqb-false j i z))))
          (λ j b r. by_test (eqb j i)
          (λ z. absurd (omega (arith, unfinished, rw (eqb-true j i z) at r)))
          (λ z. ap (λ y. y.finish) (others j (eqb-false j i z))))
          h

      hand_desk : WaitHeld J n (then_at (also M d)) (hand_on l m u left i s)
      unfolding hand_on
      hand_desk = by_test (eqb (get_or left i 0) 0)
          (λ y. rw (y, when) (finished_here (eqb-true _ 0 y)))
          (λ y. rw (y, when) (not_finished_yet (omega (arith, eqb-false (get_or left i 0) 0 y))))

    -- The first c of the desks that work moved on.
    module _ (all : ℕ) (chosen busy : List ℕ) (D : Desks J t all chosen busy) where
      hand_desks : (c : ℕ) → c ≤ all → (s : Waiting) → WaitHeld J n (then_at (moved_by busy 0)) s
          → WaitHeld J n (then_at (moved_by busy c)) (hand_to l m u left chosen busy c s)
      unfolding hand_to moved_by
      hand_desks zero b s h = h
      hand_desks (suc c) b s h =
          hand_desk (moved_by busy c) (get_or busy c 0) (D.new c b) (get_or chosen (get_or busy c 0) 0) (D.works c b)
          (hand_to l m u left chosen busy c s) (hand_desks c (omega arith) s h)

      -- All of them: the tables say what every piece waits for at moment u.
      pub hand_step : ((i : ℕ) → i < n → desk J i < 32) → (s : Waiting) → WaitHeld J n (at J t) s
          → WaitHeld J n (at J u) (hand_to l m u left chosen busy all s)
      unfolding moved_by
      hand_step few_desks s h =
          let early : (i : ℕ) → at J t i ≡ then_at (moved_by busy 0) i = λ i. ap (λ x. at J x i)
          (sym (moment_early t u (moved_by busy 0) (desk J i) refl)) in
          let late : (i : ℕ) → i < n → then_at (moved_by busy all) i ≡ at J u i =
          λ i b. all_moved J sound t u k e st (moved_by busy all) i (D.rest (desk J i) (few_desks i b)) in
          wait_alike (then_at (moved_by busy all)) (at J u) (hand_to l m u left chosen busy all s)
          (λ i b. rw (late i b)) (λ i b r. ap (λ y. y.finish) (late i b))
          (hand_desks all (omega arith) s
          (wait_alike (at J t) (then_at (moved_by busy 0)) s (λ i b. rw (early i)) (λ i b r. ap (λ y. y.finish) (early i))
          h))
