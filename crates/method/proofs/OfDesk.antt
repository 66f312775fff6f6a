-- One desk of a sound job without a ring, as the block method plans it: its slots end by the horizon, and it works on each
-- of its own pieces and on no other. The code rests on this for the length of its board and the lateness of every piece;
-- it comes by the agreement with the plan (demand 3), of which the plan's own finishes tell it.
use Prim.Native.Nat.{ℕ, ◌+◌, ◌-◌, ◌≤◌, ◌<◌}
use mathlib.Core.List.{Memᴰ as Mem}
use mathlib.Core.Option.{none, some}
use mathlib.Core.Path.{◌≡◌, sym, ◌∙◌}
use native.Mathlib.Omega.{arith}
use Rattle.rules.specs.Words.{is_it}
use Rattle.rules.specs.Job.{Job, piece_count, desk_pieces}
use Rattle.rules.specs.Rings.{ring_piece}
use Rattle.rules.specs.Tables.{Sound}
use Rattle.rules.specs.Urgency.{worked, horizon}
use Rattle.rules.specs.Blocks.{block_worked}
use Rattle.laws.proofs.Sound.{fits}
use Rattle.laws.proofs.Slots.{worked_chosen, mem_desk_pieces, desk_pieces_mem, is_it-true}
use Rattle.laws.proofs.Progress.{left_at, left_least}
use Rattle.laws.proofs.Finishing.{all_finished}
use Rattle.theory.proofs.Cases.{by_le}
use Rattle.theory.proofs.Count.{cnt_zero, cnt_find}
use Rattle.demands.proofs.OneDesk.{had_here}
use Rattle.demands.proofs.Agreement.{agrees}

module _ (J : Job) (sound : Sound J) (free : ring_piece J ≡ none) (d : ℕ) where
  -- A desk is at rest from the horizon on.
  pub works_early : (t i : ℕ) → block_worked J d t ≡ some i → t < horizon J
  works_early t i e =
      let c = (worked_chosen J d t i (sym (agrees J sound free d t) ∙ e)).waits in
      by_le (horizon J) t
      (λ h.
      let q : horizon J + (t - horizon J) ≡ t = omega arith in
      let l : left_at J (horizon J + (t - horizon J)) i ≤ left_at J (horizon J) i =
      left_least J (t - horizon J) (horizon J) i c.inside in
      let k : left_at J t i ≤ left_at J (horizon J) i = rw q at l in
      absurd (omega (arith, c.unfinished, all_finished J sound free i c.inside)))
      (λ h. h)

  -- It works on its own pieces.
  pub works_own : (t i : ℕ) → block_worked J d t ≡ some i → Mem i (desk_pieces J d)
  works_own t i e =
      let c = (worked_chosen J d t i (sym (agrees J sound free d t) ∙ e)).waits in
      desk_pieces_mem J d i c.inside c.at_desk

  -- And on each of them.
  pub works_each : (i : ℕ) → Mem i (desk_pieces J d) → (t : ℕ) × (t < horizon J) × (block_worked J d t ≡ some i)
  works_each i m =
      let n : i < piece_count J = (mem_desk_pieces J d i m).0 in
      let k = cnt_find (λ s. is_it (worked J d s) i) 0 (horizon J)
      (omega (
        arith,
        cnt_zero (λ s. is_it (worked J d s) i),
        had_here J sound free d (horizon J) i m,
        all_finished J sound free i n,
        (fits J sound i n).duration_least,
      )) in
      (k.0, k.2, agrees J sound free d k.0 ∙ is_it-true (worked J d k.0) i k.3)
