-- The order of judgement behind the records and the bytes left: 11, then 13 (block sheet only), then 12. The first that
-- holds is the refusal.
use Rattle.std.specs.Prelude.{ℕ, ◌*◌, List, ltb}
use Rattle.std.proofs.Math.Option.{none, some}
use Rattle.rules.specs.Words.{when}
use Rattle.rules.specs.Job.{Job, Outcome, refused, accepted, piece_count}
use Rattle.rules.specs.Reading.{read_job}
use Rattle.rules.specs.Rings.{ring_piece}

abbrev pub refuse : ℕ → ℕ → Outcome
refuse n p = refused (record { number = n; place = p })

-- A further judgement, for a job that no judgement has refused so far.
unfoldable pub then_judge : Outcome → (Job → Outcome) → Outcome
then_judge (refused r) further = refused r
then_judge (accepted J) further = further J

-- 11: some piece leads by links back to itself; the lowest number of such a piece.
unfoldable pub unless_ring : Job → Outcome
unfolding ring_piece
unless_ring J = elim (ring_piece J) [ none ↦ accepted J | some i ↦ refuse 11 i ]

-- 13: desk asked for above 31.
unfoldable pub unless_no_desk : ℕ → Job → Outcome
unfolding when
unless_no_desk d J = when (ltb 31 d) (refuse 13 0) (accepted J)

-- 12: lent plan buffer shorter than 48 bytes times the pieces.
unfoldable pub unless_short : ℕ → Job → Outcome
unfolding when
unless_short room J = when (ltb room (48 * piece_count J)) (refuse 12 0) (accepted J)

-- A job file judged for itself: 1 to 11.
unfoldable pub file_outcome : List ℕ → Outcome
unfolding then_judge read_job unless_ring
file_outcome s = then_judge (read_job s) unless_ring

-- A job file judged for the plan and for the block sheet of desk d, with so many bytes lent.
unfoldable pub plan_outcome : List ℕ → ℕ → Outcome
unfolding then_judge file_outcome unless_short
plan_outcome s room = then_judge (file_outcome s) (unless_short room)

unfoldable pub block_outcome : List ℕ → ℕ → ℕ → Outcome
unfolding then_judge file_outcome unless_no_desk unless_short
block_outcome s d room = then_judge (then_judge (file_outcome s) (unless_no_desk d)) (unless_short room)
