-- `pass_on` walks the chain of the piece's links: at each, what is passed on from there is all that is left.
use Rattle.std.specs.Prelude.{suc, ◌+◌, ◌<◌, length}
use Rattle.std.proofs.Common.{refl, sym, ap, ◌∙◌, arith}
use Rattle.rules.specs.Tables.{befores_of, afters_of}
use Rattle.links.proofs.ChainLaws.{OnChain, chain_start, on_link, on_falls, on_next}
use Rattle.steps.specs.Handover.{pass_from}
use Rattle.handing.specs.Open.{tied, waiting_in}
use Rattle.handing.proofs.Opened.{opens_none, opens_then, room_then}
use Rattle.handing.proofs.Passed.{last_found, last_nothing, ready_same, ready_then}
use Rattle.handing.proofs.open.Open.pass_on.Goals.{In-Some}
use Rattle.handing.proofs.open.Open.pass_on.Goals as goal

pub loop-at-init : goal.loop-at-init
loop-at-init c =
    let o = c.args.self.now in (
      length c.args.job.now.links.now,
      chain_start c.requires.linked.chained _ c.first-at.ensures c.requires.one.0,
      refl,
      ready_same c.args.states.now,
      opens_none _ _ o.count o.table o.place o.waits,
    )

-- The chain stands at link k.
stands : (c : In-Some)
    → OnChain (befores_of c.args.job.now.links.now) c.args.p (length c.args.job.now.links.now) (suc c.in-Some.k)
    c.loop-at.invariant.0
stands c = rw c.in-Some.is at c.loop-at.invariant.1

inside : (c : In-Some) → c.in-Some.k < length c.args.job.now.links.now
inside c = (on_link c.requires.linked.chained (stands c)).0

pub pass-requires : goal.pass-requires
pass-requires c =
    let turn = (goal.at.pass-requires c).In-Some in
    let o = c.args.self.now in
    let l = c.loop-at in record {
      linked = c.requires.linked;
      one = (inside turn, c.requires.one.1);
      room = room_then (length c.args.job.now.links.now) (c.in-Some.k + 1) (afters_of c.args.job.now.links.now) o.count
          l.self.count o.table o.place o.waits l.self.table l.self.place l.self.waits (omega (arith, inside turn))
          l.invariant.4 c.requires.room;
    }

pub next-at-requires : goal.next-at-requires
next-at-requires c =
    omega (arith, inside (goal.at.next-at-requires c).In-Some, c.requires.linked.between.few_links)

pub loop-at-smaller : goal.loop-at-smaller
loop-at-smaller c =
    rw (c.in-Some.is, c.next-at.ensures) (on_falls c.requires.linked.chained (stands (goal.at.loop-at-smaller c).In-Some))

pub loop-at-preserved : goal.loop-at-preserved
loop-at-preserved c =
    let turn = (goal.at.loop-at-preserved c).In-Some in
    let o = c.args.self.now in
    let l = c.loop-at in
    let j = c.args.job.now in
    let found = last_found (tied j) c.args.p c.args.c (waiting_in l.self l.states) l.invariant.0 c.in-Some.k
    (sym (stands turn).here_is) in (
      c.in-Some.k,
      on_next c.requires.linked.chained (stands turn) _ c.next-at.ensures,
      ap (pass_from (tied j) c.args.p c.args.c c.in-Some.k) c.pass.ensures.ready_after ∙ sym found.rest ∙ l.invariant.2,
      ready_then _ _ _ l.invariant.3 c.pass.ensures.only,
      opens_then (length j.links.now) (c.in-Some.k + 1) (afters_of j.links.now) o.count l.self.count _ o.table o.place o.waits
          l.self.table l.self.place l.self.waits _ _ _ (omega (arith, inside turn)) l.invariant.4 c.pass.ensures.opens,
    )

pub returns : goal.returns
returns c =
    let l = c.loop-at in
    let at_end = rw c.in_default.is at l.invariant.1 in
    let all = last_nothing (tied c.args.job.now) c.args.p c.args.c (waiting_in l.self l.states) l.invariant.0
    (sym at_end.here_is) in
    record { ready_after = sym all ∙ l.invariant.2; only = l.invariant.3; opens = l.invariant.4 }
