-- `largest_finish` meets its contract: with one piece more the largest is the greater of two.
use Rattle.std.proofs.Common.{◌≡◌, map, get_or}
use Rattle.rules.specs.Words.{greatest, below}
use Rattle.rules.specs.Tables.{finishes_of}
use Rattle.output.proofs.figures.largest_finish.Given as goal

abbrev pub invariant-loop-i : goal.invariant-loop-i
invariant-loop-i l = l.end ≡ greatest 0 (map (λ k. get_or (finishes_of l.spans) k 0) (below l.i))
