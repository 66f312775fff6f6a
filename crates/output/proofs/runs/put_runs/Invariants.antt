-- `put_runs` meets its contract: desk by desk, each desk's records right behind those before.
use Rattle.std.proofs.Common.{length}
use Rattle.rules.specs.Tables.{desks_of, run_pieces, run_froms, run_untils}
use Rattle.output.specs.Written.{AllLogged}
use Rattle.output.proofs.runs.put_runs.Given as goal

abbrev pub invariant-loop-desk : goal.invariant-loop-desk
invariant-loop-desk l =
    AllLogged (length l.runs) (desks_of l.pieces) (run_pieces l.runs) (run_froms l.runs) (run_untils l.runs)
    l.initial.buffer l.desk l.buffer
