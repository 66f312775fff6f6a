-- `put_desk_lines` meets its contract: run by run, each line right behind the ones before.
use Rattle.records.specs.Puts.{Puts}
use Rattle.rules.specs.Tables.{desks_of, run_pieces, run_froms, run_untils}
use Rattle.lines.specs.Lines.{desk_lines_in}
use Rattle.listing.proofs.pages.put_desk_lines.Given as goal

abbrev pub invariant-loop-run : goal.invariant-loop-run
invariant-loop-run l =
    Puts l.initial.text
    (desk_lines_in l.run-index (desks_of l.pieces) (run_pieces l.runs) (run_froms l.runs) (run_untils l.runs) l.desk) l.text
