-- `put_run_lines` meets its contract: desk by desk, each desk's lines right behind those before.
use Rattle.std.proofs.Common.{arith, length}
use Rattle.rules.specs.Tables.{desks_of, run_pieces, run_froms, run_untils}
use Rattle.records.proofs.PutLaws.{room_left}
use Rattle.lines.specs.Lines.{desk_lines_in, run_lines_in}
use Rattle.listing.proofs.PageLaws.{no_desk_yet, desks_more, line_more, desk_room}
use Rattle.listing.proofs.pages.put_run_lines.Goals as goal

pub loop-desk-init : goal.loop-desk-init
loop-desk-init c =
    let a = c.args in
    no_desk_yet (desks_of a.pieces.now) (run_pieces a.runs.now) (run_froms a.runs.now) (run_untils a.runs.now)
    (length a.runs.now) a.text.now

pub put_desk_lines-requires-clause-room : goal.put_desk_lines-requires-clause-room
put_desk_lines-requires-clause-room c =
    let a = c.args in
    let own = desk_room (desks_of a.pieces.now) (run_pieces a.runs.now) (run_froms a.runs.now) (run_untils a.runs.now)
    (length a.runs.now) c.loop-desk.desk 32 c.loop-desk-test.true in
    room_left _ c.loop-desk.invariant (omega (arith, own, c.requires.room))

pub loop-desk-preserved : goal.loop-desk-preserved
loop-desk-preserved c =
    let a = c.args in
    line_more
    (λ d. run_lines_in d (length a.runs.now) (desks_of a.pieces.now) (run_pieces a.runs.now) (run_froms a.runs.now)
    (run_untils a.runs.now))
    (desk_lines_in (length a.runs.now) (desks_of a.pieces.now) (run_pieces a.runs.now) (run_froms a.runs.now)
    (run_untils a.runs.now))
    (desks_more (desks_of a.pieces.now) (run_pieces a.runs.now) (run_froms a.runs.now) (run_untils a.runs.now)
    (length a.runs.now))
    c.loop-desk.desk c.loop-desk.invariant c.put_desk_lines.ensures
