-- `Placing::pass_on` meets its contract: what the links further along the chain still take off makes the whole of it.
use Prim.Native.Nat.{◌<◌}
use lib.ListN.{length}
use Rattle.rules.specs.Tables.{befores_of, afters_of}
use Rattle.links.specs.Chains.{code_of}
use Rattle.links.specs.Queue.{IsQueue, Net}
use Rattle.links.proofs.PassingLaws.{Walking}
use Rattle.links.proofs.queue.Placing.pass_on.Given as goal

abbrev pub invariant-loop-at : goal.invariant-loop-at
invariant-loop-at l =
    (N : Net l.links l.chains) → l.i < N.pieces → IsQueue N.pieces l.initial.self
    → Walking N.pieces (length l.links) (befores_of l.links) (afters_of l.links) l.i l.initial.self.placed
    l.initial.self.order l.initial.self.waits (code_of l.at) l.self.placed l.self.order l.self.waits

abbrev pub decreases-loop-at : goal.decreases-loop-at
decreases-loop-at l = code_of l.at
