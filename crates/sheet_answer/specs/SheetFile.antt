-- The file is accepted, the lists have the block sheet of its job and desk d, and there is such a desk and room for the
-- records.
use Rattle.std.specs.Prelude.{ℕ, ◌*◌, ◌≤◌, List, ◌≡◌, ℤ}
use Rattle.rules.specs.Job.{Job, accepted, piece_count}
use Rattle.rules.specs.Judgement.{file_outcome}
use Rattle.rules.specs.declared.Run.{Run}
use Rattle.method.specs.declared.BlockRow.{BlockRow}
use Rattle.method.specs.Sheet.{SheetOf}

pub record SheetFile (file : List ℕ) (d : ℕ) (rows : List BlockRow) (runs : List Run) (worst : ℤ) (room : ℕ) : Type 0 where
  pub job : Job
  pub says : file_outcome file ≡ accepted job
  pub few : piece_count job ≤ 256
  pub sheet : SheetOf job d rows runs worst
  pub there : d ≤ 31
  pub enough : 48 * piece_count job ≤ room
