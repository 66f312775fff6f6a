-- `put_runs` meets its contract: desk by desk, each desk's records right behind those before.
use Rattle.std.proofs.Common.{arith, length}
use Rattle.rules.specs.Tables.{desks_of, run_pieces, run_froms, run_untils}
use Rattle.records.proofs.PutLaws.{room_left}
use Rattle.output.proofs.DeskByDesk.{no_desk_yet, one_desk_more, desk_room}
use Rattle.output.proofs.runs.put_runs.Goals as goal

pub loop-desk-init : goal.loop-desk-init
loop-desk-init c =
    let a = c.args in
    no_desk_yet (length a.runs.now) (desks_of a.pieces.now) (run_pieces a.runs.now) (run_froms a.runs.now)
    (run_untils a.runs.now) a.buffer.now

pub put_desk_runs-requires-clause-room : goal.put_desk_runs-requires-clause-room
put_desk_runs-requires-clause-room c =
    let a = c.args in
    let own = desk_room (length a.runs.now) (desks_of a.pieces.now) (run_pieces a.runs.now) (run_froms a.runs.now)
    (run_untils a.runs.now) c.loop-desk.desk 32 c.loop-desk-test.true in
    room_left _ c.loop-desk.invariant (omega (arith, own, c.requires.room))

pub loop-desk-preserved : goal.loop-desk-preserved
loop-desk-preserved c =
    let a = c.args in
    one_desk_more (length a.runs.now) (desks_of a.pieces.now) (run_pieces a.runs.now) (run_froms a.runs.now)
    (run_untils a.runs.now) c.loop-desk.desk c.loop-desk.invariant c.put_desk_runs.ensures
