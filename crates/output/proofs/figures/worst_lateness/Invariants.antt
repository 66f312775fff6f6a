-- `worst_lateness` meets its contract: with one piece more the worst is the greater of two.
use Rattle.std.proofs.Common.{◌≡◌, map}
use Rattle.rules.specs.Words.{worst_of, below}
use Rattle.rules.specs.Tables.{finishes_of}
use Rattle.output.specs.Late.{lateness_in}
use Rattle.output.proofs.figures.worst_lateness.Given as goal

abbrev pub invariant-loop-i : goal.invariant-loop-i
invariant-loop-i l = l.worst ≡ worst_of (map (lateness_in (finishes_of l.spans) l.latests) (below l.i))
