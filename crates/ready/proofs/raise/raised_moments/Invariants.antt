-- `raised_moments` meets its contract: the pieces that had their turn have their raised ready moments.
use Rattle.ready.proofs.Raising.{Settled}
use Rattle.ready.proofs.raise.raised_moments.Given as goal

abbrev pub invariant-loop-piece : goal.invariant-loop-piece
invariant-loop-piece l = Settled l.pieces l.links l.walk.order l.table l.piece-index
