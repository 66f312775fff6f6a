-- `begin` goes over the pieces. The loop's invariant: the first i places of the tables are as before the first slot.
use Rattle.rules.specs.Tables.{durations_of, releases_of, starts_of, finishes_of}
use Rattle.steps.specs.Keys.{Keyed}
use Rattle.steps.specs.States.{left_of, ready_of}
use Rattle.urgency.specs.Plan.{Begun}
use Rattle.urgency.proofs.begin.Given as goal

abbrev pub invariant-loop-i : goal.invariant-loop-i
invariant-loop-i l =
    Begun l.i (durations_of l.pieces) (releases_of l.pieces) (left_of l.states) (ready_of l.states) (starts_of l.spans)
    (finishes_of l.spans)
    × Keyed l.i l.latests l.keys
