-- `place_free` meets its contract: the pieces passed so far that wait for nothing are placed.
use Rattle.links.specs.Queue.{Queue}
use Rattle.links.proofs.queue.place_free.Given as goal

abbrev pub invariant-loop-i : goal.invariant-loop-i
invariant-loop-i l = Queue l.i l.placed l.order l.waits
