-- `without` meets its contract: of the first k those that are not the piece stand in front.
use Rattle.std.proofs.Common.{◌<◌, length, arith}
use Rattle.blocksteps.proofs.Chosen.{keeping_none, keeping_skip, keeping_more}
use Rattle.blocksteps.proofs.aside.without.Goals as goal
use Rattle.blocksteps.proofs.aside.without.Goals.{then-entries-k, else-entries-k}

pub loop-k-init : goal.loop-k-init
loop-k-init c = keeping_none c.args.entries.now c.args.number

-- what is kept after the turn
pub loop-k-preserved : goal.loop-k-preserved
loop-k-preserved c =
    let s = c.loop-k in
    let here : s.k < length s.entries = omega arith in
    elim c.if-entries-k.branch [
      | then-entries-k w ↦
          rw (w.entries-is, w.kept-is, w.put_entry.ensures, w.take_entry-entry.ensures)
          (keeping_more c.args.entries.now s.entries _ s.kept s.k s.invariant here w.if-entries-k.true)
      | else-entries-k w ↦
          rw (w.entries-is, w.kept-is)
          (keeping_skip c.args.entries.now s.entries _ s.kept s.k s.invariant here w.if-entries-k.false)
    ]
