-- `mark_members` meets its contract: the first k of the slice are marked, and no other.
use Rattle.blocksteps.proofs.Marked.{members_none, members_more}
use Rattle.blocksteps.proofs.aside.mark_members.Goals as goal

pub loop-entry-init : goal.loop-entry-init
loop-entry-init c = members_none _ c.args.entries.now c.requires.clear

pub loop-entry-preserved : goal.loop-entry-preserved
loop-entry-preserved c =
    let k = c.loop-entry.entry-index in
    rw c.from.ensures
    (members_more _ c.args.entries.now k c.loop-entry-test.true (c.requires.known k c.loop-entry-test.true)
    c.loop-entry.invariant)
