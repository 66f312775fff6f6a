-- `set_aside` meets its contract: the marks of the members, of the led ones, and the cheapest of the others.
use Rattle.rules.specs.Rings.{linked_by}
use Rattle.blocksteps.proofs.Marked.{marks_clear}
use Rattle.blocksteps.proofs.aside.set_aside.Goals as goal

pub mark_members-requires-clause-clear : goal.mark_members-requires-clause-clear
mark_members-requires-clause-clear c = marks_clear

pub returns : goal.returns
returns c =
    c.cheapest.ensures (linked_by c.args.links.now) (c.mark_led.ensures c.args.entries.now c.mark_members.ensures)
