-- `mark_members` meets its contract: the first k of the slice are marked, and no other.
use Rattle.std.proofs.Common.{take}
use Rattle.blocksteps.specs.Aside.{Marks, member_mark}
use Rattle.blocksteps.proofs.aside.mark_members.Given as goal

abbrev pub invariant-loop-entry : goal.invariant-loop-entry
invariant-loop-entry l = Marks l.marks (member_mark (take l.entry-index l.entries))
