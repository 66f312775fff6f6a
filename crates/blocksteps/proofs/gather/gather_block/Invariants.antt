-- `gather_block` meets its contract: what is left to gather gives the blocks of the whole set, and no sum wraps.
use Rattle.std.proofs.Common.{◌*◌, ◌≤◌, ◌≡◌}
use Rattle.method.specs.Hours.{desk_end}
use Rattle.blocksteps.proofs.Gathering.{Gathering}
use Rattle.blocksteps.proofs.gather.gather_block.Given as goal

abbrev pub invariant-loop-k : goal.invariant-loop-k
invariant-loop-k l =
    Gathering l.entries l.work l.k × (l.end ≡ desk_end l.from l.work) × (l.work ≤ 65535 * l.k)
