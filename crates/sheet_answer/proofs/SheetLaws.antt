-- The records of the blocks and of the runs of a block sheet are the page's bytes, they have room, and its figures are the
-- page's answer.
use Rattle.std.specs.Prelude.{ℕ, ◌*◌, ◌≤◌, List, map, ◌++◌, ◌≡◌, ℤ, length}
use Rattle.std.proofs.Common.{sym, ap, ◌∙◌, arith, length-append}
use Rattle.std.proofs.lemmas.List.{length-map}
use Rattle.rules.specs.Words.{joined}
use Rattle.rules.specs.Job.{Job, piece_count}
use Rattle.rules.specs.Bytes.{block_record, run_record, last_word}
use Rattle.rules.specs.BlockSheet.{blocks, block_runs, block_record_of, block_numbers, sheet_bytes}
use Rattle.rules.specs.declared.Run.{Run}
use Rattle.laws.proofs.Joined.{map_twice, joined_append}
use Rattle.demands.proofs.Sheets.{desk_few}
use Rattle.method.specs.declared.BlockRow.{BlockRow}
use Rattle.method.specs.Board.{run_of}
use Rattle.method.specs.Sheet.{sheet_row, SheetOf}
use Rattle.records.specs.Laid.{row_bytes}
use Rattle.sheet_answer.specs.Listed.{block_row, run_row, rows_bytes}
use Rattle.sheet_answer.proofs.RecordLaws.{rows_length}

module _ {J : Job} {d : ℕ} {rows : List BlockRow} {runs : List Run} {worst : ℤ} (sheet : SheetOf J d rows runs worst) where
  pub rows_few : length rows ≤ piece_count J
  rows_few = omega (arith, sheet.few_blocks, desk_few J d)

  pub runs_few : length runs ≤ 2 * piece_count J
  runs_few = omega (arith, sheet.few_runs, desk_few J d)

  blocks_here : map (λ b. row_bytes (block_row d b)) rows ≡ map (block_record_of J d) (blocks J d)
  unfolding block_record_of sheet_row block_record
  blocks_here =
      ap (map (λ b. row_bytes (block_row d b))) sheet.blocks_are
      ∙ map_twice (sheet_row J d) (λ b. row_bytes (block_row d b)) (blocks J d)

  runs_here : map (λ r. row_bytes (run_row d r)) runs ≡ map (run_record d) (block_runs J d)
  unfolding run_record last_word
  runs_here = sym (map_twice run_of (run_record d) runs) ∙ ap (map (run_record d)) sheet.runs_are

  pub bytes_here : rows_bytes (block_row d) rows ++ rows_bytes (run_row d) runs ≡ sheet_bytes J d
  unfolding rows_bytes sheet_bytes
  bytes_here =
      (λ i. joined (blocks_here i) ++ joined (runs_here i))
      ∙ sym (joined_append (map (block_record_of J d) (blocks J d)) (map (run_record d) (block_runs J d)))

  -- The records have room where 48 bytes for each piece are lent.
  pub bytes_few : (room : ℕ) → 48 * piece_count J ≤ room
      → length (rows_bytes (block_row d) rows ++ rows_bytes (run_row d) runs) ≤ room
  bytes_few room enough = omega (
    arith,
    enough,
    rows_few,
    runs_few,
    rows_length (block_row d) rows,
    rows_length (run_row d) runs,
    length-append (rows_bytes (block_row d) rows) (rows_bytes (run_row d) runs),
  )

  -- The whole answer.
  pub answer_here : (w : ℤ) → w ≡ worst
      → record { number = 0; place = 0; blocks = length rows; runs = length runs; worst = w } ≡ block_numbers J d
  unfolding block_numbers
  answer_here w e = λ i. record {
    number = 0;
    place = 0;
    blocks = (ap (λ l. length l) sheet.blocks_are ∙ length-map (blocks J d) (sheet_row J d)) i;
    runs = (sym (length-map runs run_of) ∙ ap (λ l. length l) sheet.runs_are) i;
    worst = (e ∙ sheet.worst_is) i;
  }
