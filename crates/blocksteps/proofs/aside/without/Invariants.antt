-- `without` meets its contract: of the first k those that are not the piece stand in front.
use Rattle.blocksteps.proofs.Chosen.{Keeping}
use Rattle.blocksteps.proofs.aside.without.Given as goal

abbrev pub invariant-loop-k : goal.invariant-loop-k
invariant-loop-k l = Keeping l.initial.entries l.entries l.number l.kept l.k
