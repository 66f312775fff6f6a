-- `latest_moments` meets its contract: the pieces behind those in front, the first of the order, have their moments.
use mathlib.Core.Path.{◌≡◌}
use lib.ListN.{length}
use Rattle.moments.proofs.TimedLaws.{Done, InFront}
use Rattle.moments.proofs.latest_moments.Given as goal

abbrev pub invariant-loop-number : goal.invariant-loop-number
invariant-loop-number l =
    let front = l.number-iterator.iter.rest.now in record {
      sized : length l.moments ≡ 256;
      first : InFront l.walk.order front (length l.pieces);
      done : Done l.pieces l.links l.walk (length front) l.moments;
    }
