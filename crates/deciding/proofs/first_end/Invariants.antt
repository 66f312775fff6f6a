-- `first_end` goes over the desks that work. The loop's invariant: the first q of them have their pieces, and so many slots
-- from the moment on is the least moment over these.
use Rattle.std.specs.Prelude.{◌+◌, ◌≡◌}
use Rattle.steps.specs.Choice.{whom, end_next}
use Rattle.steps.specs.States.{left_of}
use Rattle.deciding.specs.Look.{piece_of, named}
use Rattle.deciding.proofs.first_end.Given as goal

abbrev pub invariant-loop-q : goal.invariant-loop-q
invariant-loop-q l =
    (l.chosen ≡ named l.best l.busy l.q l.initial.chosen)
    × (l.t + l.slots ≡ end_next l.t (left_of l.states) (λ k. piece_of (whom l.best l.busy k)) l.q l.next)
