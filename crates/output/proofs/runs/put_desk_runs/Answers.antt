-- `put_desk_runs` meets its contract: along the desk's chain, each record right behind the ones before.
use Rattle.std.proofs.Common.{refl, ap, ◌∙◌, arith, length}
use Rattle.rules.specs.Tables.{desks_of, run_pieces, run_froms, run_untils}
use Rattle.laws.proofs.Columns.{get_or-run_pieces, get_or-run_froms, get_or-run_untils}
use Rattle.records.proofs.PutLaws.{room_left, puts_as}
use Rattle.output.specs.Chained.{code_of}
use Rattle.output.proofs.AlongLaws.{Here, along_start, along_here, along_on, along_end, along_less}
use Rattle.output.proofs.runs.put_desk_runs.Goals.{In-Some}
use Rattle.output.proofs.runs.put_desk_runs.Goals as goal

pub loop-next-init : goal.loop-next-init
loop-next-init c =
    let a = c.args in
    along_start (length a.runs.now) (desks_of a.pieces.now) (run_pieces a.runs.now) (run_froms a.runs.now)
    (run_untils a.runs.now) a.desk a.buffer.now _
    (c.first-next.ensures ∙ c.requires.chained.begins a.desk c.ranges.desk.fits)

-- The run that the chain has come to.
here : (c : In-Some) → let a = c.args in Here (length a.runs.now) (desks_of a.pieces.now) (run_pieces a.runs.now)
    (run_froms a.runs.now) (run_untils a.runs.now) a.desk a.buffer.now c.loop-next.buffer c.in-Some.k
here c = along_here c.in-Some.k c.loop-next.invariant (ap code_of c.in-Some.is)

pub bounds-runs-k : goal.bounds-runs-k
bounds-runs-k c = (here (goal.at.bounds-runs-k c).In-Some).place

pub put-requires : goal.put-requires
put-requires c =
    let h = here (goal.at.put-requires c).In-Some in
    room_left 16 h.logged (omega (arith, h.room, c.requires.room))

pub next-next-requires : goal.next-next-requires
next-next-requires c =
    omega (arith, (here (goal.at.next-next-requires c).In-Some).place, c.requires.log_fits.few)

pub loop-next-smaller : goal.loop-next-smaller
loop-next-smaller c =
    let turn = (goal.at.loop-next-smaller c).In-Some in
    rw c.next-next.ensures
    (along_less c.requires.chained (here turn) (code_of c.loop-next.next) (ap code_of c.in-Some.is))

pub loop-next-preserved : goal.loop-next-preserved
loop-next-preserved c =
    let turn = (goal.at.loop-next-preserved c).In-Some in
    let rs = c.args.runs.now in
    let k = c.in-Some.k in
    rw c.next-next.ensures
    (along_on c.requires.chained (here turn)
    (puts_as c.put.ensures (rw (get_or-run_pieces rs k, get_or-run_froms rs k, get_or-run_untils rs k) refl)))

pub returns : goal.returns
returns c = along_end c.loop-next.invariant (ap code_of c.in_default.is)

pub offset_bounds-runs-k : goal.offset_bounds-runs-k
offset_bounds-runs-k c =
    let h = here (goal.at.offset_bounds-runs-k c).In-Some in omega (arith, h.place, c.requires.log_fits.few)
