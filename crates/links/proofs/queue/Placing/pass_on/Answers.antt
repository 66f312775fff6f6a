-- `Placing::pass_on` meets its contract: what the links further along the chain still take off makes the whole of it.
use mathlib.Core.Path.{◌≡◌, sym, ◌∙◌}
use lib.ListN.{get_or}
use Rattle.rules.specs.Tables.{afters_of}
use Rattle.laws.proofs.Columns.{get_or-afters}
use Rattle.links.proofs.PassingLaws.{walk_start, walk_place, walk_link, walk_falls, walk_on, walk_end}
use Rattle.links.proofs.queue.Placing.pass_on.Goals as goal

pub loop-at-init : goal.loop-at-init
loop-at-init c N one Q = walk_start N.ties N.chained _ _ _ _ _ c.first-at.ensures one Q

pub bounds-links-k : goal.bounds-links-k
bounds-links-k c =
    let p = c.requires in
    walk_place p.net.ties p.net.chained _ _ _ _ (rw c.in-Some.is at (c.loop-at.invariant p.net p.one p.queue))

pub pass_one-requires : goal.pass_one-requires
pass_one-requires c =
    let p = c.requires in
    let w = rw c.in-Some.is at (c.loop-at.invariant p.net p.one p.queue) in
    record {
      pieces = p.net.pieces;
      few = p.net.ties.few_pieces;
      one = rw (c.from.ensures, ← (get_or-afters c.args.links.now c.in-Some.k))
          (walk_link p.net.ties p.net.chained _ _ _ _ w);
      queue = w.queue;
    }

pub loop-at-smaller : goal.loop-at-smaller
loop-at-smaller c =
    let p = c.requires in
    let w = rw c.in-Some.is at (c.loop-at.invariant p.net p.one p.queue) in
    rw (c.in-Some.is, c.next-at.ensures) (walk_falls p.net.ties p.net.chained _ _ _ _ w)

pub loop-at-preserved : goal.loop-at-preserved
loop-at-preserved c N one Q =
    let w = rw c.in-Some.is at (c.loop-at.invariant N one Q) in
    let linked = walk_link N.ties N.chained _ _ _ _ w in
    let to : c.from.result ≡ get_or (afters_of c.args.links.now) c.in-Some.k 0 =
    c.from.ensures ∙ sym (get_or-afters c.args.links.now c.in-Some.k) in
    walk_on N.ties N.chained _ _ _ _ w _ c.next-at.ensures
    (rw to at (c.pass_one.ensures N.pieces N.ties.few_pieces (rw to linked) w.queue))

pub returns : goal.returns
returns c N one Q =
    walk_end N.ties N.chained _ _ _ _ (rw c.in_default.is at (c.loop-at.invariant N one Q))
