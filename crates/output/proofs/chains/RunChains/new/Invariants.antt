-- `new` meets its contract: each run is put at the front of its desk's chain, and the other chains stay.
use Rattle.std.proofs.Common.{length}
use Rattle.rules.specs.Tables.{desks_of, run_pieces}
use Rattle.output.specs.Chained.{RunsChained}
use Rattle.output.proofs.chains.RunChains.new.Given as goal

abbrev pub invariant-loop-k : goal.invariant-loop-k
invariant-loop-k l =
    RunsChained (desks_of l.pieces) (run_pieces l.runs) (length l.runs) l.k l.chains.first l.chains.later
