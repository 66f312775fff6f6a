-- What each public call promises: one answer and one final content of the lent buffer, for every file, desk and buffer.
use Rattle.std.specs.Prelude.{ℕ, List, ◌≡◌}
use Rattle.rules.specs.Plan.{plan_answer, plan_buffer}
use Rattle.rules.specs.BlockSheet.{block_answer, block_buffer}
use Rattle.rules.specs.DeskRuns.{stretch_from, stretch}
use Rattle.rules.specs.Form.{write_answer, write_buffer}
use Rattle.rules.specs.Answers.{PlanAnswer, BlockAnswer, WriteAnswer}

-- The plan.
pub record PlanPromise (file buffer : List ℕ) (answer : PlanAnswer) (after : List ℕ) : Type 0 where
  pub answered : answer ≡ plan_answer file buffer
  pub left_there : after ≡ plan_buffer file buffer

-- The block sheet of a desk.
pub record BlockPromise (file : List ℕ) (desk : ℕ) (buffer : List ℕ) (answer : BlockAnswer) (after : List ℕ) : Type 0 where
  pub answered : answer ≡ block_answer file desk buffer
  pub left_there : after ≡ block_buffer file desk buffer

-- The runs of one desk: the bytes handed back, and where they begin in the caller's own records.
pub record RunsPromise (records : List ℕ) (desk : ℕ) (part : List ℕ) (place : ℕ) : Type 0 where
  pub bytes : part ≡ stretch records desk
  pub begins : place ≡ stretch_from records desk

-- The writer: the rows of pieces and of links that were typed into a form.
pub record WritePromise (pieces links buffer : List ℕ) (answer : WriteAnswer) (after : List ℕ) : Type 0 where
  pub answered : answer ≡ write_answer pieces links buffer
  pub left_there : after ≡ write_buffer pieces links buffer
