-- `count_into` meets its contract: so many of the links passed so far lead to each piece.
use Rattle.rules.specs.Tables.{afters_of}
use Rattle.links.specs.Queue.{CountedTo}
use Rattle.links.proofs.queue.count_into.Given as goal

abbrev pub invariant-loop-link : goal.invariant-loop-link
invariant-loop-link l = CountedTo l.link-index (afters_of l.links) l.waits
