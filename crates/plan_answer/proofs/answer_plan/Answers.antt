-- `answer_plan` meets its contract: refused where the buffer is too short, and else the records and figures are made of
-- the finished plan.
use Rattle.std.proofs.Common.{arith, rules, refl}
use Rattle.plan_answer.proofs.Promised.{runs_fit, plan_short, plan_kept}
use Rattle.plan_answer.proofs.answer_plan.Goals as goal

pub returns-then-buffer-pieces : goal.returns-then-buffer-pieces
returns-then-buffer-pieces c file P = plan_short P c.args.buffer.now c.if-buffer-pieces.true

pub put_runs-requires-clause-room : goal.put_runs-requires-clause-room
put_runs-requires-clause-room c =
    rw c.deref.ensures.0 (runs_fit c.requires.1 c.put_results.ensures (omega arith))

pub returns : goal.returns
returns c file P =
    plan_kept P c.args.buffer.now c.if-buffer-pieces.false refl refl c.put_results.ensures
    (rw c.deref.ensures.0 at c.put_runs.ensures) (search rules) (c.figures.ensures P.links P.finished)
