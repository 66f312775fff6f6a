-- The public call of the block sheet: the buffer gets a record for each block of the first cutting, by time, then the run
-- records of this method by time. Bytes after them stay.
use Rattle.std.specs.Prelude.{ℕ, List, map, ◌++◌, eqb, ℤ, pos, ◌-ℤ◌, length}
use Rattle.std.proofs.Math.Option.{none}
use Rattle.rules.specs.Words.{joined, greatest, keep, worst_of}
use Rattle.rules.specs.Job.{Job, Outcome, refused, accepted}
use Rattle.rules.specs.Hours.{next_open, open_end}
use Rattle.rules.specs.Urgency.{horizon}
use Rattle.rules.specs.Runs.{Run, runs_from, turns}
use Rattle.rules.specs.Bytes.{run_record, block_record}
use Rattle.rules.specs.Judgement.{block_outcome}
use Rattle.rules.specs.Plan.{at_front}
use Rattle.rules.specs.Entries.{Entry, entries}
use Rattle.rules.specs.Blocks.{Block, block_end, cut, block_worked}
use Rattle.rules.specs.Answers.{BlockAnswer}

-- The blocks of the first cutting.
unfoldable pub blocks : Job → ℕ → List Block
unfolding cut entries open_end
blocks J d = cut (open_end J d) (entries J d)

-- The runs of the block method on desk d.
unfoldable pub block_runs : Job → ℕ → List Run
unfolding runs_from turns block_worked horizon
block_runs J d = runs_from none (turns J d (block_worked J d) (horizon J))

-- The record of a block: the count of its pieces, its first slot, and its end.
unfoldable pub block_record_of : Job → ℕ → Block → List ℕ
unfolding block_record block_end next_open open_end
block_record_of J d B =
    block_record d (length B.members) (next_open J d B.from) (block_end (open_end J d) B)

unfoldable pub sheet_bytes : Job → ℕ → List ℕ
unfolding joined blocks block_record_of block_runs run_record
sheet_bytes J d = joined (map (block_record_of J d) (blocks J d) ++ map (run_record d) (block_runs J d))

-- The lateness of an entry by this method: one past its last slot, less its latest moment.
unfoldable pub block_lateness : Job → ℕ → Entry → ℤ
unfolding block_runs greatest keep
block_lateness J d e =
    pos (greatest 0 (map (λ r. r.until) (keep (λ r. eqb r.piece e.number) (block_runs J d)))) -ℤ e.latest

-- Answer: blocks, runs, worst lateness on the desk; all zero for a desk without pieces.
unfoldable pub block_numbers : Job → ℕ → BlockAnswer
unfolding blocks block_runs worst_of block_lateness entries
block_numbers J d = record {
  number = 0;
  place = 0;
  blocks = length (blocks J d);
  runs = length (block_runs J d);
  worst = worst_of (map (block_lateness J d) (entries J d));
}

unfoldable pub block_answer_of : Outcome → ℕ → BlockAnswer
unfolding block_numbers
block_answer_of (refused r) d =
    record { number = r.number; place = r.place; blocks = 0; runs = 0; worst = pos 0 }
block_answer_of (accepted J) d = block_numbers J d

unfoldable pub block_buffer_of : Outcome → ℕ → List ℕ → List ℕ
unfolding at_front sheet_bytes
block_buffer_of (refused r) d buffer = buffer
block_buffer_of (accepted J) d buffer = at_front (sheet_bytes J d) buffer

-- THE BLOCK SHEET: a job file, a desk and a lent buffer give this answer, and leave this in the buffer.
unfoldable pub block_answer : List ℕ → ℕ → List ℕ → BlockAnswer
unfolding block_answer_of block_outcome
block_answer file d buffer = block_answer_of (block_outcome file d (length buffer)) d

unfoldable pub block_buffer : List ℕ → ℕ → List ℕ → List ℕ
unfolding block_buffer_of block_outcome
block_buffer file d buffer = block_buffer_of (block_outcome file d (length buffer)) d buffer
