-- `put_piece_lines` meets its contract: piece by piece, each line right behind the ones before.
use Rattle.records.specs.Puts.{Puts}
use Rattle.rules.specs.Tables.{desks_of, starts_of, finishes_of}
use Rattle.lines.specs.Lines.{piece_lines_in}
use Rattle.listing.proofs.pages.put_piece_lines.Given as goal

abbrev pub invariant-loop-i : goal.invariant-loop-i
invariant-loop-i l =
    Puts l.initial.text (piece_lines_in l.i (desks_of l.pieces) (starts_of l.spans) (finishes_of l.spans) l.latests) l.text
