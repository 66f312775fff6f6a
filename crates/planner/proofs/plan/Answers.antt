-- `plan` meets its promise: a refused file is answered as refused, an accepted one with its plan.
use Rattle.std.proofs.Common.{rules, ◌≡◌, Err}
use Rattle.finished.proofs.FinishedLaws.{planned_file}
use Rattle.plan_answer.proofs.Promised.{plan_refused}
use Rattle.planner.proofs.plan.Goals as goal

pub returns-in_err-plan_file : goal.returns-in_err-plan_file
returns-in_err-plan_file c =
    let told : c.from_residual.result ≡ Err c.in_err-plan_file.field-0.0 = search rules in
    rw told (plan_refused c.args.file.now c.args.buffer.now _ c.in_err-plan_file.ensures.outcome)

pub answer_plan-requires : goal.answer_plan-requires
answer_plan-requires c =
    let told = c.in_ok-plan_file.ensures in
    (c.args.file.now, rw c.deref.ensures.0 (planned_file told.outcome told.finished))

pub returns : goal.returns
returns c =
    let told = c.in_ok-plan_file.ensures in
    c.answer_plan.ensures c.args.file.now (rw c.deref.ensures.0 (planned_file told.outcome told.finished))
