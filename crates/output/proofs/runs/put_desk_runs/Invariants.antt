-- `put_desk_runs` meets its contract: along the desk's chain, each record right behind the ones before.
use Rattle.std.proofs.Common.{length}
use Rattle.rules.specs.Tables.{desks_of, run_pieces, run_froms, run_untils}
use Rattle.output.specs.Chained.{code_of}
use Rattle.output.proofs.ChainedLaws.{ahead}
use Rattle.output.proofs.AlongLaws.{Along}
use Rattle.output.proofs.runs.put_desk_runs.Given as goal

abbrev pub invariant-loop-next : goal.invariant-loop-next
invariant-loop-next l =
    Along (length l.runs) (desks_of l.pieces) (run_pieces l.runs) (run_froms l.runs) (run_untils l.runs) l.desk
    l.initial.buffer l.buffer (code_of l.next)

abbrev pub decreases-loop-next : goal.decreases-loop-next
decreases-loop-next l = ahead (length l.runs) (code_of l.next)
