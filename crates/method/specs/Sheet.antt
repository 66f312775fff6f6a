-- The block sheet of one desk: a row for each block of the first cutting, the runs of the block method, and the worst
-- lateness.
use Rattle.std.specs.Prelude.{ℕ, ◌*◌, ◌≤◌, List, map, ◌≡◌, ℤ, length}
use Rattle.rules.specs.Job.{Job, desk_pieces}
use Rattle.rules.specs.Hours.{next_open, open_end}
use Rattle.rules.specs.Blocks.{Block, block_end}
use Rattle.rules.specs.BlockSheet.{blocks, block_runs, block_numbers}
use Rattle.rules.specs.declared.Run.{Run}
use Rattle.method.specs.declared.BlockRow.{BlockRow}
use Rattle.method.specs.Board.{run_of}

-- What the sheet of desk d says of a block: the count of its pieces, its first slot, its end.
unfoldable pub sheet_row : Job → ℕ → Block → BlockRow
unfolding block_end
sheet_row J d B =
    record { count = length B.members; from = next_open J d B.from; end = block_end (open_end J d) B }

-- THE SHEET of desk d: its blocks by time, its runs by time, and the worst lateness.
pub record SheetOf (J : Job) (d : ℕ) (rows : List BlockRow) (runs : List Run) (worst : ℤ) : Type 0 where
  pub blocks_are : rows ≡ map (sheet_row J d) (blocks J d)
  pub runs_are : map run_of runs ≡ block_runs J d
  pub worst_is : worst ≡ (block_numbers J d).worst
  -- No more blocks than pieces, and no more than two runs for each.
  pub few_blocks : length rows ≤ length (desk_pieces J d)
  pub few_runs : length runs ≤ 2 * length (desk_pieces J d)
