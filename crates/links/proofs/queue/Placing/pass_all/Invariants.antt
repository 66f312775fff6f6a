-- `Placing::pass_all` meets its contract: the links from the pieces at the head of the queue are passed, one piece more
-- each turn.
use Rattle.links.specs.Queue.{PassedAll}
use Rattle.links.proofs.queue.Placing.pass_all.Given as goal

abbrev pub invariant-loop-head : goal.invariant-loop-head
invariant-loop-head l = PassedAll l.links l.chains l.initial.self l.head l.self
