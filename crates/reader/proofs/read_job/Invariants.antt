-- Each turn takes in one piece or one link, for which the job has room.
use Rattle.std.proofs.Common.{◌+◌, ◌-◌, length}
use Rattle.reader.proofs.Taken.{Taken}
use Rattle.reader.proofs.read_job.Given as goal

abbrev pub invariant-loop-record : goal.invariant-loop-record
invariant-loop-record l = Taken l.file l.job.pieces.items l.job.links.items

abbrev pub decreases-loop-record : goal.decreases-loop-record
decreases-loop-record l = 1281 - (length l.job.pieces.items + length l.job.links.items)
