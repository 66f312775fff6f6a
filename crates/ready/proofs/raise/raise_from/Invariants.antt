-- `raise_from` walks the chain of the links from the piece: those that are behind are granted.
use Rattle.links.specs.Chains.{code_of}
use Rattle.ready.proofs.Raising.{Rising}
use Rattle.ready.proofs.raise.raise_from.Given as goal

abbrev pub invariant-loop-at : goal.invariant-loop-at
invariant-loop-at l = Rising l.i l.pieces l.links l.initial.table l.table (code_of l.at)

abbrev pub decreases-loop-at : goal.decreases-loop-at
decreases-loop-at l = code_of l.at
