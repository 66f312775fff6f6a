-- `raise_from` walks the chain of the links from the piece: those that are behind are granted.
use Prim.Native.Nat.{suc, ◌<◌}
use mathlib.Core.Path.{◌∙◌}
use native.Mathlib.Omega.{arith}
use lib.ListN.{length, get_or}
use Rattle.rules.specs.Tables.{no_link}
use Rattle.ready.proofs.Raising.{Rising, early, code-asks}
use Rattle.ready.proofs.Raising.{rising_none, rising_place, rising_after, rising_falls, rising_more, rising_end}
use Rattle.ready.proofs.raise.raise_from.Goals.{In-Some}
use Rattle.ready.proofs.raise.raise_from.Goals as goal

pub loop-at-init : goal.loop-at-init
loop-at-init c =
    let p = c.requires in
    rising_none _ p.planned p.chained p.one _ _ c.first-at.ensures p.below

module _ (c : In-Some) where
  rising : Rising c.args.i c.args.pieces.now c.args.links.now c.args.table.now c.loop-at.table (suc c.in-Some.k)
  rising = rw c.in-Some.is at c.loop-at.invariant

  place : c.in-Some.k < length c.args.links.now
  place = rising_place _ c.requires.planned c.requires.chained c.requires.one rising

  after : (get_or c.args.links.now c.in-Some.k no_link).after < length c.args.pieces.now
  after = rising_after _ c.requires.planned c.requires.chained c.requires.one rising

  -- It stands inside all tables.
  near : (get_or c.args.links.now c.in-Some.k no_link).after < 256
  near = omega (arith, after, c.requires.planned.sound.few_pieces)

pub offset_bounds-links-k : goal.offset_bounds-links-k
offset_bounds-links-k c = omega (arith, place c, c.requires.planned.sound.few_links)

pub bounds-links-k : goal.bounds-links-k
bounds-links-k c = place c

pub offset_bounds-pieces-after : goal.offset_bounds-pieces-after
offset_bounds-pieces-after c = omega (arith, c.from-after.ensures, near (goal.at.offset_bounds-pieces-after c).In-Some)

pub bounds-pieces-after : goal.bounds-pieces-after
bounds-pieces-after c = rw c.from-after.ensures (after (goal.at.bounds-pieces-after c).In-Some)

pub leave-asked-requires : goal.leave-asked-requires
leave-asked-requires c =
    let e = early _ c.requires.planned c.loop-at.table c.args.i c.requires.one c.loop-at.invariant.low in
    record { moment_bound = e.0; ending_bound = e.1 }

pub offset_bounds-table-after : goal.offset_bounds-table-after
offset_bounds-table-after c = omega (arith, c.from-after.ensures, near (goal.at.offset_bounds-table-after c).In-Some)

pub bounds-table-after : goal.bounds-table-after
bounds-table-after c = rw c.from-after.ensures (near (goal.at.bounds-table-after c).In-Some)

pub offset_bounds-table-after-in-Some : goal.offset_bounds-table-after-in-Some
offset_bounds-table-after-in-Some c =
    omega (arith, c.from-after.ensures, near (goal.at.offset_bounds-table-after-in-Some c).In-Some)

pub bounds-table-after-in-Some : goal.bounds-table-after-in-Some
bounds-table-after-in-Some c =
    rw c.from-after.ensures (near (goal.at.bounds-table-after-in-Some c).In-Some)

pub next-at-requires : goal.next-at-requires
next-at-requires c =
    omega (arith, place (goal.at.next-at-requires c).In-Some, c.requires.planned.sound.few_links)

pub loop-at-smaller : goal.loop-at-smaller
loop-at-smaller c =
    let p = c.requires in
    rw (c.in-Some.is, c.next-at.ensures)
    (rising_falls _ p.planned p.chained p.one (rising (goal.at.loop-at-smaller c).In-Some))

pub loop-at-preserved : goal.loop-at-preserved
loop-at-preserved c =
    let p = c.requires in
    let r = rising (goal.at.loop-at-preserved c).In-Some in
    let asked = rw c.from-after.ensures at c.leave-asked.ensures ∙ code-asks _ p.planned p.chained p.one r in
    rw c.from-after.ensures
    (rising_more _ p.planned p.chained p.one r _ _ _ c.next-at.ensures asked (rw c.from-after.ensures at c.max.ensures))

pub returns : goal.returns
returns c =
    let p = c.requires in
    rising_end _ p.planned p.chained p.one (rw c.in_default.is at c.loop-at.invariant)
