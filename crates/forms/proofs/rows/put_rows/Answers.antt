-- `put_rows` meets its contract: each record is put right after the ones before it.
use Rattle.std.proofs.Common.{arith, ap, ◌∙◌, ◌++◌, ℕ, List}
use Rattle.records.proofs.PutLaws.{nothing_put, puts_on, puts_as, room_left}
use Rattle.forms.specs.Written.{rows_bytes}
use Rattle.forms.proofs.Chunks.{at_row}
use Rattle.forms.proofs.RowsPut.{no_rows, rows_more, rows_long}
use Rattle.forms.proofs.rows.put_rows.Goals as goal

pub as_chunks-requires : goal.as_chunks-requires
as_chunks-requires g c = let w = g.met.R.Typed.width in (omega (arith, w), w.0)

pub loop-row-init : goal.loop-row-init
loop-row-init g c = puts_as (nothing_put c.args.lent.now) (no_rows _)

pub record-requires : goal.record-requires
record-requires g c =
    let w = g.met.R.Typed.width in
    let rows = c.args.rows.now in
    let i = c.loop-row.row-index in
    let here = g.met.R.Typed.placed _ rows i
    (at_row g.row.N _ rows _ i _ c.as_chunks.ensures.front (omega arith) c.row-item.is) in
    (omega (arith, w), rw here (c.requires.held i (omega arith)))

pub put-requires : goal.put-requires
put-requires g c =
    let R = g.R.Typed in
    let rows = c.args.rows.now in
    let made : ℕ → List ℕ = λ k. R.bytes (R.row_of rows k) in
    let long = rows_long made (λ k. g.met.R.Typed.sized (R.row_of rows k)) c.loop-row.row-index in
    room_left 16 c.loop-row.invariant (omega (arith, long, c.requires.room))

pub loop-row-preserved : goal.loop-row-preserved
loop-row-preserved g c =
    let R = g.R.Typed in
    let rows = c.args.rows.now in
    let i = c.loop-row.row-index in
    let here = g.met.R.Typed.placed _ rows i
    (at_row g.row.N _ rows _ i _ c.as_chunks.ensures.front (omega arith) c.row-item.is) in
    let made : ℕ → List ℕ = λ k. R.bytes (R.row_of rows k) in
    puts_as (puts_on c.loop-row.invariant c.put.ensures)
    (ap (λ bytes. rows_bytes made i ++ bytes) (c.record.ensures ∙ ap R.bytes here) ∙ rows_more made i)

pub returns : goal.returns
returns g c =
    let R = g.R.Typed in
    puts_as c.loop-row.invariant (ap (rows_bytes (λ k. R.bytes (R.row_of c.args.rows.now k))) (omega arith))
