-- k slots at once are k single slots: over a stretch in which nothing is decided every desk keeps its choice, the pieces
-- worked on are k slots further at its end, and the others are where they were.
use Prim.Native.Nat.{ℕ, zero, suc, ◌+◌, ◌-◌, ◌≤◌, ◌<◌}
use mathlib.Core.Bool.{false}
use mathlib.Core.Option.{some}
use mathlib.Core.Path.{◌≡◌, sym, ap, ◌∙◌}
use native.Mathlib.Omega.{arith}
use borrow.Author.Tests.{ne_eqb, ltb-true, ltb-false}
use lib.Dec.{ltb, eqb}
use Rattle.rules.specs.Job.{Job, piece_count, piece, desk, duration}
use Rattle.rules.specs.Urgency.{worked_on, work_at, worked, choice}
use Rattle.rules.specs.Tables.{Sound}
use Rattle.laws.proofs.Words.{by_test}
use Rattle.laws.proofs.Hours.{always_open}
use Rattle.laws.proofs.Progress.{left_whole, finished_for_good}
use Rattle.laws.proofs.Sound.{link_fit}
use Rattle.laws.proofs.Slots.{Waits, by_choice, choice-some, choice-none, chosen_choice, resting_choice, work_on_lem, work_off, by_work}
use Rattle.slots.specs.Standing.{done, waits_of, ready_of}
use Rattle.slots.specs.Stretch.{at, Stretch, worked_for}
use Rattle.slots.proofs.Standing.{left_undone, undone_left, ready_waits, waits_ready, alike_waits, alike_ready}

module _ (J : Job) where
  -- Who is worked on in a stretch is unfinished to its end.
  module _ (sound : Sound J) (t k : ℕ) (s : Stretch J t k) where
    -- How far the pieces are j slots on.
    record Far (j : ℕ) : Type 0 where
      idle : (i : ℕ) → i < piece_count J → (worked J (desk J i) t ≡ some i → ⊥) → at J (t + j) i ≡ at J t i
      busy : (i : ℕ) → i < piece_count J → worked J (desk J i) t ≡ some i → 0 < j
          → at J (t + j) i ≡ worked_for (duration J i) t j (at J t i)

    none_done : (j : ℕ) → j < k → Far j → (i : ℕ) → i < piece_count J → done (at J t) i ≡ done (at J (t + j)) i
    none_done zero l f i h = let z : t + 0 ≡ t = omega arith in rw z
    none_done (suc j) l f i h = by_work J t i
        (λ e. let b : k ≤ (at J t i).left = s.works i h e in
        let g : (at J (t + suc j) i).left ≡ (at J t i).left - suc j = ap (λ q. q.left) (f.busy i h e (omega arith)) in
        left_undone (at J t) i (omega arith) ∙ sym (left_undone (at J (t + suc j)) i (omega arith)))
        (λ e. rw (f.idle i h e))

    module _ (j : ℕ) (l : j < k) (f : Far j) where
      waits_same : (i : ℕ) → waits_of J (at J t) i ≡ waits_of J (at J (t + j)) i
      unfolding waits_of
      waits_same i =
          alike_waits J (at J t) (at J (t + j)) i J.links
          (λ m q. none_done j l f m.before (link_fit J sound m q).before_one)

      ready_same : (i : ℕ) → ready_of J (at J t) i ≡ ready_of J (at J (t + j)) i
      unfolding ready_of
      ready_same i =
          alike_ready J (at J t) (at J (t + j)) i (piece J i).release J.links
          (λ m q. none_done j l f m.before (link_fit J sound m q).before_one)
          (λ m q e. ap (λ p. p.finish) (sym (finished_for_good J j t m.before (link_fit J sound m q).before_one e)))

      left_alive : (i : ℕ) → i < piece_count J → 0 < (at J (t + j) i).left → 0 < (at J t i).left
      left_alive i h a = undone_left (at J t) i (none_done j l f i h ∙ left_undone (at J (t + j)) i a)

      alive_left : (i : ℕ) → i < piece_count J → 0 < (at J t i).left → 0 < (at J (t + j) i).left
      alive_left i h a = undone_left (at J (t + j)) i (sym (none_done j l f i h) ∙ left_undone (at J t) i a)

      -- The same pieces wait on a desk as at the beginning.
      waits_still : (d i : ℕ) → Waits J (work_at J t) d t i → Waits J (work_at J (t + j)) d (t + j) i
      waits_still d i w =
          let r = ready_waits J (work_at J t) t i w.ready_then in
          record {
            inside = w.inside;
            at_desk = w.at_desk;
            unfinished = alive_left i w.inside w.unfinished;
            ready_then = waits_ready J (work_at J (t + j)) (t + j) i
                (sym (waits_same i) ∙ r.0) (omega (arith, r.1, ready_same i));
          }

      waits_before : (d i : ℕ) → Waits J (work_at J (t + j)) d (t + j) i → Waits J (work_at J t) d t i
      waits_before d i w =
          let r = ready_waits J (work_at J (t + j)) (t + j) i w.ready_then in
          let a : 0 < (at J t i).left = left_alive i w.inside w.unfinished in
          let n : waits_of J (at J t) i ≡ 0 = waits_same i ∙ r.0 in
          record {
            inside = w.inside;
            at_desk = w.at_desk;
            unfinished = a;
            ready_then = waits_ready J (work_at J t) t i n
                (by_test (ltb t (ready_of J (at J t) i))
                (λ e. absurd (omega (arith, r.1, ready_same i, s.quiet i w.inside a n (ltb-true _ _ e))))
                (λ e. ltb-false _ _ e));
          }

      same_choice : (d : ℕ) → worked J d (t + j) ≡ worked J d t
      unfolding worked
      same_choice d = by_choice (choice J (work_at J t) d t)
          (λ e. resting_choice J (work_at J (t + j)) d (t + j)
          (λ i w. choice-none J (work_at J t) d t (always_open J d t) e i (waits_before d i w)) ∙ sym e)
          (λ i e. let c = choice-some J (work_at J t) d t i e in
          chosen_choice J (work_at J (t + j)) d (t + j) i
          (record {
            opened = always_open J d (t + j);
            waits = waits_still d i c.waits;
            first = λ x w ne. c.first x (waits_before d x w) ne;
          }) ∙ sym e)

    one_more : (j i : ℕ) → j < k → i < piece_count J → Far j → worked J (desk J i) t ≡ some i
        → worked_on (duration J i) (t + j) (at J (t + j) i) ≡ worked_for (duration J i) t (suc j) (at J t i)
    unfolding worked_on
    one_more zero i l h f e = let z : t + 0 ≡ t = omega arith in rw z
    one_more (suc j) i l h f e =
        let b : k ≤ (at J t i).left = s.works i h e in
        let m : (at J t i).left ≤ duration J i = left_whole J t i h in
        let ne : eqb ((at J t i).left - suc j) (duration J i) ≡ false =
        ne_eqb _ _ (λ (z : (at J t i).left - suc j ≡ duration J i). omega arith) in
        let a : (at J t i).left - suc j - 1 ≡ (at J t i).left - suc (suc j) = omega arith in
        let c : t + suc j + 1 ≡ t + suc (suc j) = omega arith in
        rw (f.busy i h e (omega arith), ne, a, c)

    far : (j : ℕ) → j ≤ k → Far j
    far zero l =
        let z : t + 0 ≡ t = omega arith in
        record { idle = λ i h e. rw z; busy = λ i h e (p : 0 < 0). absurd (omega arith) }
    far (suc j) l =
        let f : Far j = far j (omega arith) in
        let z : t + suc j ≡ suc (t + j) = omega arith in
        let same : (d : ℕ) → worked J d (t + j) ≡ worked J d t = same_choice j l f in
        record {
          idle = λ i h e.
              ap (λ x. at J x i) z ∙ work_off J (t + j) i h (λ w. e (sym (same (desk J i)) ∙ w)) ∙ f.idle i h e;
          busy = λ i h e p.
              ap (λ x. at J x i) z ∙ work_on_lem J (t + j) i h (same (desk J i) ∙ e) ∙ one_more j i l h f e;
        }

    -- Every desk keeps its choice.
    pub keeps_choice : (j : ℕ) → j < k → (d : ℕ) → worked J d (t + j) ≡ worked J d t
    keeps_choice j l = same_choice j l (far j (omega arith))

    -- At the end of the stretch.
    pub not-worked : (i : ℕ) → i < piece_count J → (worked J (desk J i) t ≡ some i → ⊥) → at J (t + k) i ≡ at J t i
    not-worked = (far k (omega arith)).idle

    pub worked_through : 0 < k → (i : ℕ) → i < piece_count J → worked J (desk J i) t ≡ some i
        → at J (t + k) i ≡ worked_for (duration J i) t k (at J t i)
    worked_through p i h e = (far k (omega arith)).busy i h e p

    -- What is unfinished at its beginning is so until its last slot.
    pub unfinished_through : (j : ℕ) → j < k → (i : ℕ) → i < piece_count J → 0 < (at J t i).left → 0 < (at J (t + j) i).left
    unfinished_through j l = alive_left j l (far j (omega arith))
