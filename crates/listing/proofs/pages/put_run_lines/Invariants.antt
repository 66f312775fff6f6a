-- `put_run_lines` meets its contract: desk by desk, each desk's lines right behind those before.
use Rattle.std.proofs.Common.{length}
use Rattle.records.specs.Puts.{Puts}
use Rattle.rules.specs.Tables.{desks_of, run_pieces, run_froms, run_untils}
use Rattle.lines.specs.Lines.{run_lines_in}
use Rattle.listing.proofs.pages.put_run_lines.Given as goal

abbrev pub invariant-loop-desk : goal.invariant-loop-desk
invariant-loop-desk l =
    Puts l.initial.text
    (run_lines_in l.desk (length l.runs) (desks_of l.pieces) (run_pieces l.runs) (run_froms l.runs) (run_untils l.runs)) l.text
