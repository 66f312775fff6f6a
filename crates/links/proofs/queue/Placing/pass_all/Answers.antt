-- `Placing::pass_all` meets its contract: the links from the pieces at the head of the queue are passed, one piece more
-- each turn.
use Prim.Native.Nat.{◌<◌}
use mathlib.Core.Path.{◌≡◌}
use native.Mathlib.Numerals.{add-one}
use native.Mathlib.Omega.{arith}
use Rattle.links.proofs.QueueLaws.{queue_most}
use Rattle.links.proofs.PassingLaws.{first_start, first_on}
use Rattle.links.proofs.queue.Placing.pass_all.Goals as goal

pub loop-head-init : goal.loop-head-init
loop-head-init c N Q = first_start _ _ _ _ _ _ _ Q

pub returns-then-head-self : goal.returns-then-head-self
returns-then-head-self c N Q = rw c.if-head-self.true at (c.loop-head.invariant N Q)

pub pass_on-requires : goal.pass_on-requires
pass_on-requires c =
    let p = c.requires in
    let f = c.loop-head.invariant p.net p.queue in
    record {
      net = p.net;
      one = rw c.from.ensures (f.passed.queue.inside c.loop-head.head (omega (arith, f.within)));
      queue = f.passed.queue;
    }

pub loop-head-preserved : goal.loop-head-preserved
loop-head-preserved c N Q =
    let f = c.loop-head.invariant N Q in
    let on : c.loop-head.head < c.loop-head.self.placed = omega (arith, f.within) in
    let one = f.passed.queue.inside c.loop-head.head on in
    rw add-one (first_on _ _ _ _ _ _ _ _ _ _ _ f on _ _ _
    (rw c.from.ensures at (c.pass_on.ensures N (rw c.from.ensures one) f.passed.queue)))

pub returns : goal.returns
returns c N Q =
    let f = c.loop-head.invariant N Q in
    let e : c.loop-head.head ≡ c.loop-head.self.placed =
    omega (arith, f.within, queue_most _ _ _ _ f.passed.queue, N.ties.few_pieces) in
    rw e at f
