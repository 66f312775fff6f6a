-- `give_slots` meets its contract: four ways, each with what the board is after it.
use Rattle.std.proofs.Common.{◌∙◌, ◌-◌, length, refl, sym, ap, arith}
use Rattle.std.proofs.lemmas.List.{length-set}
use Rattle.method.specs.Board.{board_of, give}
use Rattle.blocksteps.proofs.Stored.{touching_some, no_slots, longer, behind, written_through}
use Rattle.blocksteps.proofs.board.give_slots.Goals as goal

pub returns-in_default-clause-given : goal.returns-in_default-clause-given
unfolding give
returns-in_default-clause-given c = rw c.in_default.is

pub returns-then-until-from-clause-given : goal.returns-then-until-from-clause-given
returns-then-until-from-clause-given c =
    rw c.in-Some.is (no_slots c.in-Some.piece _ _ _ c.if-until-from.true)

pub overflow_sub-last : goal.overflow_sub-last
overflow_sub-last c =
    let some_one = touching_some c.in-Some.piece c.args.from c.deref.result.now (sym c.if-touches.ensures) in
    omega (arith, some_one, ap length c.deref.ensures.0)

pub bounds-deref_mut-last : goal.bounds-deref_mut-last
bounds-deref_mut-last c =
    let some_one = touching_some c.in-Some.piece c.args.from c.deref.result.now (sym c.if-touches.ensures) in
    omega (arith, some_one, ap length c.deref.ensures.0, ap length c.deref_mut.ensures.value)

pub returns-then-touches-clause-given : goal.returns-then-touches-clause-given
returns-then-touches-clause-given c =
    let runs = c.args.runs.now.items in
    rw (c.in-Some.is, c.deref_mut.ensures.value, c.len-last.ensures.value)
    (ap board_of (written_through (length runs) runs _ refl (length-set runs (length runs - 1) _))
    ∙ longer c.in-Some.piece c.args.from c.args.until runs (omega (arith, c.if-until-from.false))
    (rw c.deref.ensures.0 at (sym c.if-touches.ensures)))

pub returns-clause-given : goal.returns-clause-given
returns-clause-given c =
    let runs = c.args.runs.now.items in
    rw (c.in-Some.is, c.push.ensures.items)
    (behind c.in-Some.piece c.args.from c.args.until runs (omega (arith, c.if-until-from.false))
    (rw c.deref.ensures.0 at (sym c.if-touches.ensures)))
