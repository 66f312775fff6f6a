-- Start is the first slot worked, finish one past the last, and each piece gets exactly its duration. And the reason why
-- this planner exists: no check ever starts on half a text.
use Prim.Native.Nat.{ℕ, zero, suc, ◌+◌, ◌≤◌, ◌<◌}
use mathlib.Core.List.{List, Memᴰ as Mem}
use mathlib.Core.Option.{none, some}
use mathlib.Core.Path.{◌≡◌, refl, ap, ◌∙◌}
use native.Mathlib.Omega.{arith}
use borrow.Author.Tests.{eqb-true, eqb-false}
use lib.Dec.{eqb}
use Rattle.rules.specs.Words.{is_it}
use Rattle.rules.specs.Job.{Job, piece_count, desk, duration}
use Rattle.rules.specs.Moments.{delay}
use Rattle.rules.specs.Rings.{ring_piece}
use Rattle.rules.specs.Tables.{Sound}
use Rattle.rules.specs.Urgency.{progress, worked_on, work_at, worked, horizon, start, finish}
use Rattle.rules.specs.declared.Link.{Link}
use Rattle.laws.proofs.Words.{by_test, when_true, when_false}
use Rattle.laws.proofs.Sound.{fits, link_fit, link_into}
use Rattle.laws.proofs.Slots.{it_is, work_on_lem, work_off, by_work, worked_chosen, work_start, ready_before, handed_fact}
use Rattle.laws.proofs.Progress.{left_at, left_whole}
use Rattle.laws.proofs.Finishing.{all_finished}
use Rattle.theory.proofs.Count.{cnt_zero, cnt_hit, cnt_mono}
use Rattle.demands.specs.Accepted.{AcceptedAs}
use Rattle.demands.specs.EverySlot.{had, FinishedAt}
use Rattle.demands.proofs.Accepting.{accepted_sound, accepted_free}
use Rattle.demands.proofs.Finishes.{left_and_had, finish_settled, finished_at_finish, finish_most, had_all, none_left, finished_by}

-- Slot s is the first in which piece i is worked on.
pub record FirstSlot (J : Job) (i s : ℕ) : Type 0 where
  pub works : worked J (desk J i) s ≡ some i
  pub none_before : (u : ℕ) → u < s → worked J (desk J i) u ≡ some i → ⊥

-- Moment c is one past the last slot in which piece i is worked on.
pub record PastLastSlot (J : Job) (i c : ℕ) : Type 0 where
  pub works : (s : ℕ) × (c ≡ suc s) × (worked J (desk J i) s ≡ some i)
  pub none_after : (u : ℕ) → c ≤ u → worked J (desk J i) u ≡ some i → ⊥

module _ (J : Job) where
  -- A slot worked is had.
  had_slot : (u t i : ℕ) → u < t → worked J (desk J i) u ≡ some i → 1 ≤ had J i t
  had_slot u t i l e =
      omega (
        arith,
        cnt_hit (λ s. is_it (worked J (desk J i) s) i) u (it_is _ i e),
        cnt_mono (λ s. is_it (worked J (desk J i) s) i) (suc u) t l,
      )

  abbrev start_at : ℕ → ℕ → ℕ
  start_at t i = (progress (work_at J t) i).start

  first_slot : (t i : ℕ) → i < piece_count J → left_at J t i < duration J i → FirstSlot J i (start_at t i)
  unfolding worked_on
  first_slot zero i h l =
      let q : left_at J 0 i ≡ duration J i = ap (λ p. p.left) (work_start J i) in absurd (omega arith)
  first_slot (suc t) i h l = by_work J t i
      (λ e. by_test (eqb (left_at J t i) (duration J i))
      (λ q. let s : start_at (suc t) i ≡ t = ap (λ p. p.start) (work_on_lem J t i h e) ∙ when_true _ _ _ q in
      rw s (record {
        works = e;
        none_before = λ u b k. omega (arith, had_slot u t i b k, left_and_had J t i h, eqb-true (left_at J t i) (duration J i) q);
      }))
      (λ q. let s : start_at (suc t) i ≡ start_at t i = ap (λ p. p.start) (work_on_lem J t i h e) ∙ when_false _ _ _ q in
      let ne : left_at J t i ≡ duration J i → ⊥ = eqb-false _ _ q in
      rw s (first_slot t i h (omega (arith, left_whole J t i h)))))
      (λ e. let p : progress (work_at J (suc t)) i ≡ progress (work_at J t) i = work_off J t i h e in
      let s : start_at (suc t) i ≡ start_at t i = ap (λ p. p.start) p in
      let q : left_at J (suc t) i ≡ left_at J t i = ap (λ p. p.left) p in
      rw s (first_slot t i h (omega arith)))

  module _ (sound : Sound J) (free : ring_piece J ≡ none) where
    start_first : (i : ℕ) → i < piece_count J → FirstSlot J i (start J i)
    unfolding start
    start_first i h =
        first_slot (horizon J) i h (omega (arith, all_finished J sound free i h, (fits J sound i h).duration_least))

    last_slot : (i : ℕ) → i < piece_count J → PastLastSlot J i (finish J i)
    last_slot i h = go (finish J i) refl
      where
        f : FinishedAt J i (finish J i)
        f = finished_at_finish J sound free i h

        after : (c u : ℕ) → finish J i ≡ c → c ≤ u → worked J (desk J i) u ≡ some i → ⊥
        after c u e k w =
            omega (arith, (worked_chosen J (desk J i) u i w).waits.unfinished, finished_by J sound free u i h (omega arith))

        go : (c : ℕ) → finish J i ≡ c → PastLastSlot J i c
        go zero e =
            let z : had J i 0 ≡ duration J i = rw e at f.whole in
            absurd (omega (arith, cnt_zero (λ s. is_it (worked J (desk J i) s) i), (fits J sound i h).duration_least))
        go (suc s) e = record {
          works = (
            s,
            refl,
            by_work J s i (λ w. w)
                (λ w. absurd (omega (arith, e, f.first s (same w)))),
          );
          none_after = λ u k. after (suc s) u e k;
        }
          where
            same : (worked J (desk J i) s ≡ some i → ⊥) → had J i s ≡ duration J i
            same w =
                let q : left_at J (suc s) i ≡ left_at J s i = ap (λ p. p.left) (work_off J s i h w) in
                let z : left_at J (suc s) i ≡ 0 = had_all J (suc s) i h (rw e at f.whole) in
                none_left J s i h (omega arith)

module _ (file : List ℕ) (J : Job) (accept : AcceptedAs file J) where
  -- Start is the first slot worked; finish is one past the last.
  pub start_is_the_first_slot : (i : ℕ) → i < piece_count J → FirstSlot J i (start J i)
  start_is_the_first_slot = start_first J (accepted_sound file J accept) (accepted_free file J accept)

  pub finish_is_past_the_last_slot : (i : ℕ) → i < piece_count J → PastLastSlot J i (finish J i)
  finish_is_past_the_last_slot = last_slot J (accepted_sound file J accept) (accepted_free file J accept)

  -- Every piece is finished at its finish, and not before; by then and ever after it has had exactly its duration.
  pub every_piece_is_finished : (i : ℕ) → i < piece_count J → FinishedAt J i (finish J i)
  every_piece_is_finished = finished_at_finish J (accepted_sound file J accept) (accepted_free file J accept)

  pub exactly_its_duration : (i t : ℕ) → i < piece_count J → finish J i ≤ t → had J i t ≡ duration J i
  exactly_its_duration i t h k =
      none_left J t i h (finished_by J (accepted_sound file J accept) (accepted_free file J accept) t i h k)

  pub finishes_at_most_408160 : (i : ℕ) → i < piece_count J → finish J i ≤ 408160
  finishes_at_most_408160 = finish_most J (accepted_sound file J accept) (accepted_free file J accept)

  -- NO CHECK EVER STARTS ON HALF A TEXT: for every link the piece after starts no earlier than the finish of the piece
  -- before plus the delay, and by then the piece before has had its full duration.
  pub no_check_starts_on_half_a_text : (l : Link) → Mem l J.links
      → (finish J l.before + delay J l ≤ start J l.after) × (had J l.before (start J l.after) ≡ duration J l.before)
  no_check_starts_on_half_a_text l m =
      let sound = accepted_sound file J accept in
      let free = accepted_free file J accept in
      let b = (link_fit J sound l m).before_one in
      let s = start J l.after in
      let first = start_is_the_first_slot l.after (link_fit J sound l m).after_one in
      let c = worked_chosen J (desk J l.after) s l.after first.works in
      let w = handed_fact J (work_at J s) s l
      (ready_before J (work_at J s) s l.after c.waits.ready_then l (link_into J l.after l m refl)) in
      (omega (arith, w.1, finish_settled J sound free s l.before b w.0), none_left J s l.before b w.0)
