-- `worst_lateness` meets its contract: the worst of the first k runs and of the first one is known.
use Rattle.std.proofs.Common.{◌≡◌}
use Rattle.blockrows.specs.Rows.{late_in}
use Rattle.blockrows.proofs.Worst.{WorstTo}
use Rattle.blockrows.proofs.table.worst_lateness.Given as goal

abbrev pub invariant-loop-run : goal.invariant-loop-run
invariant-loop-run l = l.worst ≡ WorstTo (late_in l.latests) l.runs l.run-index
