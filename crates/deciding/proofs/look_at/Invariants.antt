-- `look_at` looks at the open pieces one after the other. The loop's invariant: the least keys, the desks that work and the
-- next moment are those of the pieces in the first places.
use Rattle.std.specs.Prelude.{List, ℕ}
use Rattle.rules.specs.Tables.{desks_of}
use Rattle.steps.specs.Choice.{view}
use Rattle.steps.specs.Opening.{Among}
use Rattle.steps.specs.States.{ready_of}
use Rattle.deciding.specs.Look.{Looked}
use Rattle.deciding.proofs.look_at.Given as goal

abbrev pub invariant-loop-i : goal.invariant-loop-i
invariant-loop-i l =
    (left : List ℕ) → Looked (view l.t (desks_of l.pieces) l.keys left (ready_of l.states))
    (Among l.opened l.i-index) l.count l.best l.busy l.next
