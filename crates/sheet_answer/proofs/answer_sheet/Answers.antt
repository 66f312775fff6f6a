-- `answer_sheet` meets its contract: the sheet has room in the lent buffer, and what is written and answered is the page's.
use Rattle.std.proofs.Common.{◌*◌, refl, sym, ◌∙◌, arith, w32, length}
use mir.ValLaws.{to_z-of_z}
use Rattle.records.proofs.PutLaws.{puts_on, front_is, room_left}
use Rattle.sheet_answer.specs.Listed.{block_row}
use Rattle.sheet_answer.proofs.RecordLaws.{rows_length}
use Rattle.sheet_answer.proofs.SheetLaws.{rows_few, runs_few, bytes_few, answer_here}
use Rattle.sheet_answer.proofs.Promised.{sheet_kept}
use Rattle.sheet_answer.proofs.answer_sheet.Goals as goal

pub put_rows-requires : goal.put_rows-requires
put_rows-requires c =
    let F = c.requires.1 in omega (arith, rows_few F.sheet, F.enough)

pub put_rows-requires-2 : goal.put_rows-requires-2
put_rows-requires-2 c =
    let F = c.requires.1 in
    room_left (16 * length c.args.runs.now) c.put_rows.ensures
    (omega (arith, rows_length (block_row c.args.desk) c.args.rows.now, rows_few F.sheet, runs_few F.sheet, F.enough))

pub overflow_cast-result : goal.overflow_cast-result
overflow_cast-result c = let F = c.requires.1 in omega (arith, rows_few F.sheet, runs_few F.sheet, F.few)

pub overflow_cast-result-2 : goal.overflow_cast-result-2
overflow_cast-result-2 c = let F = c.requires.1 in omega (arith, runs_few F.sheet, F.few)

pub returns : goal.returns
returns c file F =
    let a = c.args in
    let whole = puts_on c.put_rows.ensures c.put_rows-2.ensures in
    let few = bytes_few F.sheet (length a.buffer.now) F.enough in
    sheet_kept a.buffer.now F _ _ (answer_here F.sheet _ (to_z-of_z w32 a.worst c.ranges.worst))
    (c.buffer-1.given.1.1 (sym whole.same) ∙ front_is refl few whole)
