-- `judge_rows` meets its contract: what is left to judge gives the whole answer.
use Rattle.std.proofs.Common.{arith}
use Rattle.forms.proofs.InTurn.{rows_count, judge_start, judge_on, judge_stops, judge_ends}
use Rattle.forms.proofs.Chunks.{at_row}
use Rattle.forms.proofs.rows.judge_rows.Goals as goal

pub as_chunks-requires : goal.as_chunks-requires
as_chunks-requires g c = let w = g.met.R.Typed.width in (omega (arith, w), w.0)

pub loop-i-init : goal.loop-i-init
loop-i-init g c J xs n m = judge_start g.R.Entry.item (g.R.Typed.row_of c.args.rows.now) J _ _ xs g.met.R.Typed.adds

pub returns-in-Err : goal.returns-in-Err
returns-in-Err g c J xs n m =
    let R = g.R.Typed in
    let rows = c.args.rows.now in
    let i = c.loop-i.i in
    let count = rows_count (R.row_of rows) i in
    let found = c.in-Err.ensures _ (c.counts.ensures.pieces J _ n count) (c.counts.ensures.links J _ m count) in
    let here = g.met.R.Typed.placed _ rows i
    (at_row g.row.N _ rows _ i _ c.as_chunks.ensures.front (omega arith) c.index-whole-i.is) in
    judge_stops g.R.Entry.item (R.row_of rows) J _ _ xs g.met.R.Typed.adds i (omega arith) (c.loop-i.invariant J xs n m)
    _ here c.in-Err.fault found

pub loop-i-preserved : goal.loop-i-preserved
loop-i-preserved g c J xs n m =
    let R = g.R.Typed in
    let rows = c.args.rows.now in
    let i = c.loop-i.i in
    let count = rows_count (R.row_of rows) i in
    let fine = c.in_default.ensures _ (c.counts.ensures.pieces J _ n count) (c.counts.ensures.links J _ m count) in
    let here = g.met.R.Typed.placed _ rows i
    (at_row g.row.N _ rows _ i _ c.as_chunks.ensures.front (omega arith) c.index-whole-i.is) in
    judge_on g.R.Entry.item (R.row_of rows) J _ _ xs g.met.R.Typed.adds i (omega arith) (c.loop-i.invariant J xs n m)
    _ here fine

pub returns : goal.returns
returns g c J xs n m =
    judge_ends g.R.Entry.item (g.R.Typed.row_of c.args.rows.now) J _ _ xs g.met.R.Typed.adds c.loop-i.i (omega arith)
    (c.loop-i.invariant J xs n m)
