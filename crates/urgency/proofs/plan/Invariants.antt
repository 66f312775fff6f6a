-- `plan` goes from decision moment to decision moment. The loop's invariant: the tables hold the plan at moment t, and one
-- has the open pieces; a turn brings t nearer to the horizon.
use Rattle.std.specs.Prelude.{◌-◌}
use Rattle.rules.specs.Tables.{job_of}
use Rattle.rules.specs.Urgency.{horizon}
use Rattle.urgency.proofs.Planned.{StandsAt}
use Rattle.urgency.proofs.plan.Given as goal

abbrev pub invariant-loop-next : goal.invariant-loop-next
invariant-loop-next l =
    StandsAt l.pieces l.links l.keys l.t l.standing l.spans l.runs.items

abbrev pub decreases-loop-next : goal.decreases-loop-next
decreases-loop-next l = horizon (job_of l.pieces l.links) - l.t
