-- `first_blocks` meets its contract: what is left to cut gives the other rows.
use Rattle.std.proofs.Common.{length}
use Rattle.blockrows.proofs.Recording.{Recording}
use Rattle.blockrows.proofs.table.first_blocks.Given as goal

abbrev pub invariant-loop-first : goal.invariant-loop-first
invariant-loop-first l = Recording l.entries l.rest l.rows.items

abbrev pub decreases-loop-first : goal.decreases-loop-first
decreases-loop-first l = length l.rest
