-- The records of a list of blocks or of runs of one desk: a number of two bytes and two moments each.
use Rattle.std.specs.Prelude.{ℕ, List, [], ◌∷◌, map}
use Rattle.rules.specs.Words.{joined}
use Rattle.rules.specs.declared.Run.{Run}
use Rattle.method.specs.declared.BlockRow.{BlockRow}
use Rattle.records.specs.Laid.{row_bytes}
use Rattle.records.specs.declared.put.Kind.TheVariants.{Block, Run as OfRun}
use Rattle.records.specs.declared.put.Row.{Row}

abbrev pub block_row : ℕ → BlockRow → Row
block_row d b = record { kind = Block; desk = d; number = b.count; words = b.from ∷ b.end ∷ 0 ∷ [] }

abbrev pub run_row : ℕ → Run → Row
run_row d r = record { kind = OfRun; desk = d; number = r.piece; words = r.from ∷ r.until ∷ 0 ∷ [] }

unfoldable pub rows_bytes : {A : Type 0} → (A → Row) → List A → List ℕ
unfolding joined
rows_bytes row items = joined (map (λ x. row_bytes (row x)) items)
