-- `count_into` meets its contract: so many of the links passed so far lead to each piece.
use Prim.Native.Nat.{◌<◌}
use mathlib.Core.Path.{◌≡◌, sym, ◌∙◌}
use native.Mathlib.Omega.{arith}
use lib.ListN.{get_or}
use Rattle.rules.specs.Tables.{afters_of}
use Rattle.laws.proofs.Columns.{get_or-afters}
use Rattle.links.proofs.QueueLaws.{count_none, count_more, count_most}
use Rattle.links.proofs.queue.count_into.Goals.{After-from}
use Rattle.links.proofs.queue.count_into.Goals as goal

pub loop-link-init : goal.loop-link-init
loop-link-init c = count_none _ _ _ c.requires (omega arith)

module _ (c : After-from) where
  from : c.from.result ≡ get_or (afters_of c.args.links.now) c.loop-link.link-index 0
  from = c.from.ensures ∙ sym (get_or-afters c.args.links.now c.loop-link.link-index)

  small : c.from.result < 256
  small = omega (arith, from, c.requires.small c.loop-link.link-index c.loop-link-test.true)

pub bounds-waits-from : goal.bounds-waits-from
bounds-waits-from c = small (goal.at.bounds-waits-from c).After-from

pub bounds-waits-from-in-loop-link : goal.bounds-waits-from-in-loop-link
bounds-waits-from-in-loop-link c = small (goal.at.bounds-waits-from-in-loop-link c).After-from

pub overflow_add-waits : goal.overflow_add-waits
overflow_add-waits c =
    let l = c.loop-link in
    let few = small (goal.at.overflow_add-waits c).After-from in
    omega (arith, c.requires.few, c.loop-link-test.true, count_most _ _ _ _ l.invariant few)

pub loop-link-preserved : goal.loop-link-preserved
loop-link-preserved c =
    let l = c.loop-link in
    rw (from (goal.at.loop-link-preserved c).After-from)
    (count_more _ _ _ l.invariant (c.requires.small l.link-index c.loop-link-test.true))
