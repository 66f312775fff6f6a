-- The public call of the plan: its answer, and the final content of the lent buffer. The plan buffer gets one result
-- record for each piece by number, then run records by desk and then by start. Bytes after them stay.
use Rattle.std.specs.Prelude.{ℕ, List, map, ◌++◌, ℤ, pos, ◌-ℤ◌, length, drop}
use Rattle.rules.specs.Words.{below, joined, greatest, worst_of}
use Rattle.rules.specs.Job.{Job, Outcome, refused, accepted, piece_count}
use Rattle.rules.specs.Moments.{latest}
use Rattle.rules.specs.Urgency.{finish}
use Rattle.rules.specs.Runs.{runs}
use Rattle.rules.specs.Bytes.{result_record, run_record}
use Rattle.rules.specs.Judgement.{plan_outcome}
use Rattle.rules.specs.Answers.{PlanAnswer}

-- Lateness is finish less latest moment: below zero early, zero just in time, above zero late.
unfoldable pub lateness : Job → ℕ → ℤ
unfolding finish latest
lateness J i = pos (finish J i) -ℤ latest J i

-- The run records of desk d, by start.
unfoldable pub desk_run_records : Job → ℕ → List (List ℕ)
unfolding runs run_record
desk_run_records J d = map (run_record d) (runs J d)

-- All run records, by desk.
unfoldable pub run_records : Job → List (List ℕ)
unfolding joined desk_run_records below
run_records J = joined (map (desk_run_records J) (below 32))

-- All result records, by number.
unfoldable pub result_records : Job → List (List ℕ)
unfolding result_record below
result_records J = map (result_record J) (below (piece_count J))

-- The bytes that a plan writes.
unfoldable pub plan_bytes : Job → List ℕ
unfolding joined result_records run_records
plan_bytes J = joined (result_records J ++ run_records J)

-- Records at the front of a lent buffer; bytes after them stay.
unfoldable pub at_front : List ℕ → List ℕ → List ℕ
at_front written buffer = written ++ drop (length written) buffer

-- Answer: pieces, runs, end (largest finish), worst (greatest) lateness; with no pieces all are zero.
unfoldable pub plan_numbers : Job → PlanAnswer
unfolding run_records greatest worst_of below finish lateness
plan_numbers J = record {
  number = 0;
  place = 0;
  pieces = piece_count J;
  runs = length (run_records J);
  end = greatest 0 (map (finish J) (below (piece_count J)));
  worst = worst_of (map (lateness J) (below (piece_count J)));
}

-- A refusal returns its number and place, every other number of the answer zero.
unfoldable pub plan_answer_of : Outcome → PlanAnswer
unfolding plan_numbers
plan_answer_of (refused r) =
    record { number = r.number; place = r.place; pieces = 0; runs = 0; end = 0; worst = pos 0 }
plan_answer_of (accepted J) = plan_numbers J

-- No byte of the plan buffer is touched by a refusal.
unfoldable pub plan_buffer_of : Outcome → List ℕ → List ℕ
unfolding at_front plan_bytes
plan_buffer_of (refused r) buffer = buffer
plan_buffer_of (accepted J) buffer = at_front (plan_bytes J) buffer

-- THE PLAN: a job file and a lent buffer give this answer, and leave this in the buffer.
unfoldable pub plan_answer : List ℕ → List ℕ → PlanAnswer
unfolding plan_answer_of plan_outcome
plan_answer file buffer = plan_answer_of (plan_outcome file (length buffer))

unfoldable pub plan_buffer : List ℕ → List ℕ → List ℕ
unfolding plan_buffer_of plan_outcome
plan_buffer file buffer = plan_buffer_of (plan_outcome file (length buffer)) buffer
