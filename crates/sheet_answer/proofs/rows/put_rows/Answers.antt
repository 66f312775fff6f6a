-- `put_rows` meets its contract: each record is put right after the ones before it.
use Rattle.std.proofs.Common.{◌++◌, sym, ap, ◌∙◌, arith, take}
use Rattle.std.proofs.lemmas.List.{length-take-le}
use Rattle.records.specs.Laid.{row_bytes}
use Rattle.records.proofs.PutLaws.{nothing_put, puts_on, puts_as, room_left}
use Rattle.sheet_answer.specs.Listed.{rows_bytes}
use Rattle.sheet_answer.proofs.RecordLaws.{no_rows, rows_length, rows_more}
use Rattle.sheet_answer.proofs.rows.put_rows.Goals as goal

pub loop-item-init : goal.loop-item-init
loop-item-init g c = puts_as (nothing_put c.args.buffer.now) (sym (no_rows (g.T.OnDesk.row_on c.args.desk)))

pub put-requires : goal.put-requires
put-requires g c =
    let k = c.loop-item.item-index in
    let first = take k c.args.items.now in
    room_left 16 c.loop-item.invariant
    (omega (
      arith,
      rows_length (g.T.OnDesk.row_on c.args.desk) first,
      length-take-le k c.args.items.now (omega (arith, c.loop-item-test.true)),
      c.requires,
      c.loop-item-test.true,
    ))

pub loop-item-preserved : goal.loop-item-preserved
loop-item-preserved g c =
    let k = c.loop-item.item-index in
    puts_as (puts_on c.loop-item.invariant c.put.ensures)
    (ap (λ r. rows_bytes (g.T.OnDesk.row_on c.args.desk) (take k c.args.items.now) ++ row_bytes r) c.row.ensures
    ∙ sym (rows_more (g.T.OnDesk.row_on c.args.desk) c.args.items.now k c.item-item.result c.loop-item-test.true
    c.item-item.is))
