-- `costs_less` meets its contract: the order of pairs, latest moment first.
use Rattle.std.proofs.Common.{arith}
use Rattle.std.proofs.lemmas.Bool.Decides.{nat_tests}
use Rattle.std.proofs.lemmas.Int.{ints}
use Rattle.laws.proofs.Order.{costs_less_is}
use Rattle.blocksteps.proofs.aside.costs_less.Goals as goal

pub returns : goal.returns
returns c = grind (arith, ints, nat_tests, costs_less_is)
