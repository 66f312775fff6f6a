-- The exported calls: the same answer and the same buffer as the planner's own calls, with the answer's numbers in a row.
use Rattle.std.specs.Prelude.{ℕ, List, [], ◌∷◌, ◌≡◌, ℤ, pos}
use Rattle.rules.specs.Plan.{plan_answer, plan_buffer}
use Rattle.rules.specs.BlockSheet.{block_answer, block_buffer}
use Rattle.rules.specs.DeskRuns.{stretch_from, stretch_end}
use Rattle.rules.specs.Form.{write_answer, write_buffer}
use Rattle.rules.specs.Answers.{PlanAnswer, BlockAnswer, WriteAnswer}
use Rattle.deskplan_text.specs.Promise.{listed_count, listed_text}

-- number, place, pieces, runs, end, worst
abbrev pub plan_row : PlanAnswer → List ℤ
plan_row a =
    pos a.number ∷ pos a.place ∷ pos a.pieces ∷ pos a.runs ∷ pos a.end ∷ a.worst ∷ []

pub record PlanCall (file buffer after : List ℕ) (row : List ℤ) : Type 0 where
  pub answered : row ≡ plan_row (plan_answer file buffer)
  pub left_there : after ≡ plan_buffer file buffer

-- number, place, blocks, runs, worst
abbrev pub sheet_row : BlockAnswer → List ℤ
sheet_row a = pos a.number ∷ pos a.place ∷ pos a.blocks ∷ pos a.runs ∷ a.worst ∷ []

pub record SheetCall (file : List ℕ) (desk : ℕ) (buffer after : List ℕ) (row : List ℤ) : Type 0 where
  pub answered : row ≡ sheet_row (block_answer file desk buffer)
  pub left_there : after ≡ block_buffer file desk buffer

-- first byte, byte after the last
pub record RunsCall (records : List ℕ) (desk : ℕ) (row : List ℕ) : Type 0 where
  pub answered : row ≡ stretch_from records desk ∷ stretch_end records desk ∷ []

-- how many bytes the listing has
pub record ListingCall (file text after : List ℕ) (row : List ℕ) : Type 0 where
  pub answered : row ≡ listed_count file text ∷ []
  pub left_there : after ≡ listed_text file text

-- number, place, bytes
abbrev pub write_row : WriteAnswer → List ℤ
write_row a = pos a.number ∷ pos a.place ∷ pos a.bytes ∷ []

pub record WriteCall (pieces links buffer after : List ℕ) (row : List ℤ) : Type 0 where
  pub answered : row ≡ write_row (write_answer pieces links buffer)
  pub left_there : after ≡ write_buffer pieces links buffer
