-- `gather_block` meets its contract: what is left to gather gives the blocks of the whole set, and no sum wraps.
use Rattle.std.proofs.Common.{arith}
use Rattle.blocksteps.proofs.Gathering.{gathering_one, gathering_more, gathering_stop, gathering_end}
use Rattle.blocksteps.proofs.gather.gather_block.Goals as goal

pub loop-k-init : goal.loop-k-init
loop-k-init c = (rw c.from-work.ensures (gathering_one _ c.requires.some_one), c.open_end-end.ensures, omega arith)

pub returns-then-end-entries : goal.returns-then-end-entries
returns-then-end-entries c = gathering_stop _ _ _ c.loop-k.invariant.0 _ c.loop-k.invariant.1 (omega arith) (omega arith)

pub loop-k-preserved : goal.loop-k-preserved
loop-k-preserved c = (
  rw c.from-work-in-loop-k.ensures
      (gathering_more _ _ _ c.loop-k.invariant.0 (omega arith) (omega (arith, c.loop-k.invariant.1))),
  c.open_end-end-in-loop-k.ensures,
  omega arith,
)

pub returns : goal.returns
returns c = gathering_end _ _ _ c.loop-k.invariant.0 _ c.loop-k.invariant.1 (omega arith)
