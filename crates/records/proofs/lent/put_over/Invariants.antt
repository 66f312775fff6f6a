-- `put_over` meets its contract: the bytes in front are put.
use Rattle.std.proofs.Common.{◌≡◌}
use Rattle.std.proofs.Math.Seq.{paste}
use Rattle.records.proofs.lent.put_over.Given as goal

abbrev pub invariant-loop-k : goal.invariant-loop-k
invariant-loop-k l = l.part ≡ paste l.initial.part 0 l.more l.k
