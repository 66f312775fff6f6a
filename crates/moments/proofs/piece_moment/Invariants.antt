-- `piece_moment` walks the chain of the links from the piece: the least so far is no less than its latest moment, and no
-- more than its due and than what the links behind leave.
use Rattle.links.specs.Chains.{code_of}
use Rattle.moments.proofs.TimedLaws.{Timing}
use Rattle.moments.proofs.piece_moment.Given as goal

abbrev pub invariant-loop-at : goal.invariant-loop-at
invariant-loop-at l = Timing l.i l.pieces l.links l.least (code_of l.at)

abbrev pub decreases-loop-at : goal.decreases-loop-at
decreases-loop-at l = code_of l.at
