-- The answers of the reader and of the public calls as the page has them: rows of numbers, each with its number of the
-- refusal list and its place first. The code answers with types of its own; `Told` says which answer of the page each of
-- those is.
use Rattle.std.specs.Prelude.{ℕ, ℤ}
use Rattle.rules.specs.declared.Piece.{Piece}
use Rattle.rules.specs.declared.Link.{Link}

-- A refusal: its number on the page's list, and its place.
pub record Refusal : Type 0 where
  pub number : ℕ
  pub place : ℕ

-- One record of a job file as the reader gives it.
pub data Item : Type 0 where
  Work : Piece → Item
  Tie : Link → Item
  Stop : Refusal → Item
  Done : Item

-- The answer of the plan.
pub record PlanAnswer : Type 0 where
  pub number : ℕ
  pub place : ℕ
  pub pieces : ℕ
  pub runs : ℕ
  pub end : ℕ
  pub worst : ℤ

-- The answer of the block sheet of one desk.
pub record BlockAnswer : Type 0 where
  pub number : ℕ
  pub place : ℕ
  pub blocks : ℕ
  pub runs : ℕ
  pub worst : ℤ

-- The answer of the writer of job files.
pub record WriteAnswer : Type 0 where
  pub number : ℕ
  pub place : ℕ
  pub bytes : ℕ
