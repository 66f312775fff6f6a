-- Blocks and lateness: a row for each block of the first cutting, and the lateness of each run.
use Rattle.std.specs.Prelude.{ℕ, ◌≤◌, ◌<◌, List, ℤ, pos, ◌-ℤ◌, nat_abs, length, get_or}
use Rattle.rules.specs.Blocks.{Block, block_end}
use Rattle.rules.specs.Tables.{no_run}
use Rattle.rules.specs.declared.Run.{Run}
use Rattle.method.specs.declared.BlockRow.{BlockRow}
use Rattle.method.specs.Hours.{desk_end}

-- A block as the code has it: its end is counted from its first slot.
abbrev pub row_of : Block → BlockRow
row_of B = record { count = length B.members; from = B.from; end = block_end desk_end B }

-- The lateness of a run: its until less its piece's latest moment.
abbrev pub late_in : List ℤ → Run → ℤ
late_in latests r = pos r.until -ℤ get_or latests r.piece (pos 0)

-- Runs of known pieces, with moments near enough for a lateness to fit.
pub record Dated (latests : List ℤ) (runs : List Run) : Type 0 where
  pub known : (j : ℕ) → j < length runs → (get_or runs j no_run).piece < 256
  pub early : (j : ℕ) → j < length runs → (get_or runs j no_run).until ≤ 100000000
  pub near : (j : ℕ) → j < length runs → nat_abs (get_or latests (get_or runs j no_run).piece (pos 0)) ≤ 100000000
