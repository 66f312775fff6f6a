-- `put_pages` meets its contract: piece lines, run lines and the total, each right behind the one before.
use Rattle.std.proofs.Common.{arith, length, length-append}
use Rattle.rules.specs.Tables.{desks_of, starts_of, finishes_of, run_pieces, run_froms, run_untils}
use Rattle.records.proofs.PutLaws.{puts_on, puts_as, room_left}
use Rattle.lines.specs.Lines.{piece_lines_in, run_lines_in}
use Rattle.listing.proofs.PageLaws.{pieces_most}
use Rattle.finished.proofs.FinishedLaws.{bounded_here}
use Rattle.deskplan_text.proofs.ListingLaws.{pages_room, pages_are}
use Rattle.deskplan_text.proofs.put_pages.Goals as goal

pub put_piece_lines-requires-clause-bounded : goal.put_piece_lines-requires-clause-bounded
put_piece_lines-requires-clause-bounded c = bounded_here c.requires.finished.1

pub put_run_lines-requires-clause-room : goal.put_run_lines-requires-clause-room
put_run_lines-requires-clause-room c =
    let a = c.args in
    let most = pieces_most (desks_of a.pieces.now) (starts_of a.plan.now.spans) (finishes_of a.plan.now.spans)
    a.plan.now.latests (length a.pieces.now) in
    rw c.deref.ensures.0
    (room_left _ c.put_piece_lines.ensures (omega (arith, most, pages_room c.requires.finished.1, c.requires.room)))

pub put_total_line-requires : goal.put_total_line-requires
put_total_line-requires c =
    let a = c.args in
    let most = pieces_most (desks_of a.pieces.now) (starts_of a.plan.now.spans) (finishes_of a.plan.now.spans)
    a.plan.now.latests (length a.pieces.now) in
    let both = puts_on c.put_piece_lines.ensures (rw c.deref.ensures.0 at c.put_run_lines.ensures) in
    room_left 141 both
    (omega (
      arith,
      most,
      pages_room c.requires.finished.1,
      c.requires.room,
      length-append (piece_lines_in (length a.pieces.now) (desks_of a.pieces.now) (starts_of a.plan.now.spans)
          (finishes_of a.plan.now.spans) a.plan.now.latests)
          (run_lines_in 32 (length a.plan.now.runs.items) (desks_of a.pieces.now) (run_pieces a.plan.now.runs.items)
          (run_froms a.plan.now.runs.items) (run_untils a.plan.now.runs.items)),
    ))

pub returns : goal.returns
returns c links F =
    let whole = puts_on (puts_on c.put_piece_lines.ensures (rw c.deref.ensures.0 at c.put_run_lines.ensures))
    c.put_total_line.ensures in
    puts_as whole (pages_are F c.figures.result (c.figures.ensures links F))
