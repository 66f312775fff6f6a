-- Cutting a set and solving a block meet their contracts together: the count of pieces falls. What is left to cut from
-- here gives the board of the whole set (`CutTo`).
use Rattle.std.proofs.Common.{length, ◌-◌, ◌+◌, ◌*◌}
use Rattle.rules.specs.Rings.{linked_by}
use Rattle.method.specs.Board.{whom}
use Rattle.solve.proofs.Cutting.{CutTo}
use Rattle.solve.proofs.sets.+cut_set_solve_block.Given as goal

abbrev pub decreases-cut_set : goal.decreases-cut_set
decreases-cut_set l = 2 * length l.entries.now + 1

abbrev pub decreases-solve_block : goal.decreases-solve_block
decreases-solve_block l = 2 * length l.entries.now

abbrev pub invariant-cut_set-loop-at : goal.invariant-cut_set-loop-at
invariant-cut_set-loop-at l =
    CutTo (linked_by l.links) (whom l.aside) l.from l.end l.initial.entries l.initial.runs.items l.entries l.runs.items
    l.t l.at

abbrev pub decreases-cut_set-loop-at : goal.decreases-cut_set-loop-at
decreases-cut_set-loop-at l = length l.initial.entries - l.at
