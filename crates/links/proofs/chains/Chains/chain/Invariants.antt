-- `Chains::chain` meets its contract: each link is put at the end of its chain, and the other chains stay.
use Rattle.rules.specs.Tables.{befores_of}
use Rattle.links.specs.Chains.{Chained}
use Rattle.links.proofs.chains.Chains.chain.Given as goal

abbrev pub invariant-loop-k : goal.invariant-loop-k
invariant-loop-k l = Chained (befores_of l.links) l.k l.self.last l.self.prior
