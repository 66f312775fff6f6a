-- `first_end` goes over the desks that work: the first q of them have their pieces, and so many slots from the moment on is
-- the least moment over these.
use Rattle.std.specs.Prelude.{◌+◌, ◌%◌, ◌<◌, min, ◌≡◌, get_or}
use Rattle.std.proofs.Common.{refl, arith}
use Rattle.steps.specs.Choice.{whom, end_next}
use Rattle.steps.specs.Keys.{no_key}
use Rattle.steps.specs.States.{left_of}
use Rattle.steps.proofs.Earliest.{end_most}
use Rattle.steps.proofs.States.{get_or-left}
use Rattle.deciding.specs.Look.{piece_of, named}
use Rattle.deciding.proofs.Desks.{busy_few}
use Rattle.deciding.proofs.Ends.{end_more}
use Rattle.deciding.proofs.Naming.{named_more}
use Rattle.deciding.proofs.first_end.Goals.{In-loop-q}
use Rattle.deciding.proofs.first_end.Goals as goal

pub loop-q-init : goal.loop-q-init
unfolding end_next named
loop-q-init c = (refl, omega arith)

-- The place looked at is inside the table.
place_in : (c : In-loop-q) → c.loop-q.q < 33
place_in c =
    omega (arith, c.loop-q-test.true, busy_few no_key c.args.count c.args.best.now c.args.busy.now c.requires.asked)

pub offset_bounds-busy-q : goal.offset_bounds-busy-q
offset_bounds-busy-q c = omega (arith, place_in (goal.at.offset_bounds-busy-q c).In-loop-q)

pub bounds-busy-q : goal.bounds-busy-q
bounds-busy-q c = place_in (goal.at.bounds-busy-q c).In-loop-q

pub loop-q-preserved : goal.loop-q-preserved
loop-q-preserved c =
    let a = c.args in
    let l = c.loop-q in
    let i = get_or a.best.now (get_or a.busy.now l.q 0) 0 % 256 in
    let least : a.t + c.min-slots.result ≡ min (a.t + l.slots) (a.t + get_or (left_of a.states.now) i 0) =
    omega (arith, get_or-left a.states.now i, rw c.from-d.ensures at c.min-slots.ensures) in (
      named_more a.best.now a.busy.now l.q a.chosen.now _ (rw (c.from-d.ensures, l.invariant.0)),
      end_more a.t (left_of a.states.now) (λ k. piece_of (whom a.best.now a.busy.now k)) l.q a.next (a.t + l.slots) _
          l.invariant.1 least,
    )

pub overflow_add-result : goal.overflow_add-result
overflow_add-result c =
    let a = c.args in
    omega (
      arith,
      c.loop-q.invariant.1,
      end_most a.t (left_of a.states.now) (λ k. piece_of (whom a.best.now a.busy.now k)) c.loop-q.q a.next,
    )
