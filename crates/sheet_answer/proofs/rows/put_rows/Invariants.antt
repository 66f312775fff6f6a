-- `put_rows` meets its contract: each record is put right after the ones before it.
use Rattle.std.proofs.Common.{take}
use Rattle.records.specs.Puts.{Puts}
use Rattle.sheet_answer.specs.Listed.{rows_bytes}
use Rattle.sheet_answer.proofs.rows.put_rows.Given as goal

abbrev pub invariant-loop-item : goal.invariant-loop-item
invariant-loop-item g l = Puts l.initial.buffer (rows_bytes (g.T.OnDesk.row_on l.desk) (take l.item-index l.items)) l.buffer
