-- Finishing: a piece is finished at a moment exactly when it has had its full duration by then; the plan's finish is the
-- first such moment, its start the first slot worked; every piece of an accepted file is finished, at the latest at
-- 408,160.
use Prim.Native.Nat.{ℕ, zero, suc, ◌+◌, ◌-◌, ◌≤◌, ◌<◌}
use mathlib.Core.Option.{none}
use mathlib.Core.Path.{◌≡◌, sym, ap, ◌∙◌}
use native.Mathlib.Omega.{arith}
use borrow.Author.Tests.{leb-true, leb-false}
use lib.Dec.{leb}
use Rattle.rules.specs.Words.{when, is_it}
use Rattle.rules.specs.Job.{Job, piece_count, desk, duration}
use Rattle.rules.specs.Rings.{ring_piece}
use Rattle.rules.specs.Tables.{Sound}
use Rattle.rules.specs.Urgency.{progress, work_at, worked, horizon, start, finish}
use Rattle.laws.proofs.Words.{by_test}
use Rattle.laws.proofs.Slots.{it_is, not_it, work_start, work_off, by_work}
use Rattle.laws.proofs.Progress.{left_at, finish_at, left_worked, left_least, finish-worked, finished_for_good, finish_past}
use Rattle.laws.proofs.Finishing.{all_finished, horizon_most}
use Rattle.theory.proofs.Count.{cnt_zero, cnt_hit, cnt_miss}
use Rattle.demands.specs.EverySlot.{had, FinishedAt}

module _ (J : Job) where
  -- What is left and what was had make the duration.
  pub left_and_had : (t i : ℕ) → i < piece_count J → left_at J t i + had J i t ≡ duration J i
  left_and_had zero i h =
      let q : left_at J 0 i ≡ duration J i = ap (λ p. p.left) (work_start J i) in
      omega (arith, cnt_zero (λ s. is_it (worked J (desk J i) s) i))
  left_and_had (suc t) i h =
      let ih : left_at J t i + had J i t ≡ duration J i = left_and_had t i h in
      by_work J t i
      (λ e. omega (arith, left_worked J t i h e, cnt_hit (λ s. is_it (worked J (desk J i) s) i) t (it_is _ i e)))
      (λ e. let q : left_at J (suc t) i ≡ left_at J t i = ap (λ p. p.left) (work_off J t i h e) in
      omega (arith, cnt_miss (λ s. is_it (worked J (desk J i) s) i) t (not_it _ i e)))

  -- Nothing is left at moment t: the piece has had its full duration.
  pub none_left : (t i : ℕ) → i < piece_count J → left_at J t i ≡ 0 → had J i t ≡ duration J i
  none_left t i h z = omega (arith, left_and_had t i h)

  pub had_all : (t i : ℕ) → i < piece_count J → had J i t ≡ duration J i → left_at J t i ≡ 0
  had_all t i h z = omega (arith, left_and_had t i h)

  -- Behind the last slot worked nothing is worked: what was left there is left now.
  pub left_at_finish : (t i : ℕ) → i < piece_count J → left_at J (finish_at J t i) i ≡ left_at J t i
  left_at_finish zero i h =
      let q : finish_at J 0 i ≡ 0 = ap (λ p. p.finish) (work_start J i) in ap (λ u. left_at J u i) q
  left_at_finish (suc t) i h = by_work J t i
      (λ e. let q : finish_at J (suc t) i ≡ suc t = finish-worked J t i h e ∙ omega arith in ap (λ u. left_at J u i) q)
      (λ e. let p : progress (work_at J (suc t)) i ≡ progress (work_at J t) i = work_off J t i h e in
      let q : finish_at J (suc t) i ≡ finish_at J t i = ap (λ p. p.finish) p in
      ap (λ u. left_at J u i) q ∙ left_at_finish t i h ∙ sym (ap (λ p. p.left) p))

  -- A piece finished at two moments is as far at the one as at the other.
  pub finished_alike : (s t i : ℕ) → i < piece_count J → left_at J s i ≡ 0 → left_at J t i ≡ 0
      → progress (work_at J s) i ≡ progress (work_at J t) i
  finished_alike s t i h a b = by_test (leb s t)
      (λ e. let q : s + (t - s) ≡ t = omega (arith, leb-true s t e) in
      sym (ap (λ u. progress (work_at J u) i) (sym q) ∙ finished_for_good J (t - s) s i h a))
      (λ e. let q : t + (s - t) ≡ s = omega (arith, leb-false s t e) in
      ap (λ u. progress (work_at J u) i) (sym q) ∙ finished_for_good J (s - t) t i h b)

  module _ (sound : Sound J) (free : ring_piece J ≡ none) where
    -- Once a piece is finished, its finish is that of the finished plan.
    pub finish_settled : (t i : ℕ) → i < piece_count J → left_at J t i ≡ 0 → finish_at J t i ≡ finish J i
    unfolding finish
    finish_settled t i h z =
        ap (λ p. p.finish) (finished_alike t (horizon J) i h z (all_finished J sound free i h))

    -- The plan's finish is the moment at which the piece is finished.
    pub finished_at_finish : (i : ℕ) → i < piece_count J → FinishedAt J i (finish J i)
    unfolding finish
    finished_at_finish i h =
        let z : left_at J (horizon J) i ≡ 0 = all_finished J sound free i h in
        record {
          whole = none_left (finish J i) i h (left_at_finish (horizon J) i h ∙ z);
          first = λ u k. omega (arith, finish_settled u i h (had_all u i h k), finish_past J u i h);
        }

    -- There is one such moment.
    pub finished_once : (i c : ℕ) → i < piece_count J → FinishedAt J i c → c ≡ finish J i
    finished_once i c h f =
        let g = finished_at_finish i h in
        omega (arith, f.first (finish J i) g.whole, g.first c f.whole)

    -- Finished at moment t in the plan, if and only if its finish has come.
    pub finished_by : (t i : ℕ) → i < piece_count J → finish J i ≤ t → left_at J t i ≡ 0
    finished_by t i h k =
        let q : finish J i + (t - finish J i) ≡ t = omega arith in
        let z : left_at J (finish J i) i ≡ 0 = had_all (finish J i) i h (finished_at_finish i h).whole in
        let w : left_at J (finish J i + (t - finish J i)) i ≤ left_at J (finish J i) i = left_least J (t - finish J i) (finish J i) i h in
        let w2 : left_at J t i ≤ left_at J (finish J i) i = rw q at w in
        omega arith

    pub finish_most : (i : ℕ) → i < piece_count J → finish J i ≤ 408160
    unfolding finish
    finish_most i h = omega (arith, finish_past J (horizon J) i h, horizon_most J sound free)
