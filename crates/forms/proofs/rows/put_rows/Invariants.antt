-- `put_rows` meets its contract: each record is put right after the ones before it.
use Rattle.records.specs.Puts.{Puts}
use Rattle.forms.specs.Written.{rows_bytes}
use Rattle.forms.proofs.rows.put_rows.Given as goal

abbrev pub invariant-loop-row : goal.invariant-loop-row
invariant-loop-row g l =
    Puts l.initial.lent (rows_bytes (λ i. g.R.Typed.bytes (g.R.Typed.row_of l.rows i)) l.row-index) l.lent
