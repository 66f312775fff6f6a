-- `Placing::pass_one` meets its contract: the piece waits for nothing, waits on for others, or waited for this link last.
use native.Mathlib.Numerals.{add-one}
use native.Mathlib.Omega.{arith}
use Rattle.links.proofs.QueueLaws.{passed_idle, passed-waiting, passed_last, room_for_one}
use Rattle.links.proofs.queue.Placing.pass_one.Goals as goal

pub returns-then-w-eq0 : goal.returns-then-w-eq0
returns-then-w-eq0 c = λ n few one Q. passed_idle n _ _ _ _ Q c.if-w-eq0.true

pub offset_bounds-self-self : goal.offset_bounds-self-self
offset_bounds-self-self c = omega (arith, room_for_one _ _ c.requires c.if-w-eq1.true)

pub bounds-self-self : goal.bounds-self-self
bounds-self-self c = room_for_one _ _ c.requires c.if-w-eq1.true

pub overflow_add-self : goal.overflow_add-self
overflow_add-self c = omega (arith, room_for_one _ _ c.requires c.if-w-eq1.true)

pub returns-then-w-eq1 : goal.returns-then-w-eq1
returns-then-w-eq1 c = λ n few one Q. rw add-one (passed_last n _ _ _ _ Q one few c.if-w-eq1.true)

pub returns-else-w-eq1 : goal.returns-else-w-eq1
returns-else-w-eq1 c = λ n few one Q. passed-waiting n _ _ _ _ Q one few (omega arith)
