-- `judge_file` meets its contract: each way out is one case of the judgement.
use Rattle.std.proofs.Common.{rules, ◌≡◌, Err}
use Rattle.planning.proofs.JudgedLaws.{read_refused, to_check, judged_outcome, judged_walkable}
use Rattle.planning.proofs.judged.judge_file.Goals as goal

pub returns-in_err-read_job-clause-outcome : goal.returns-in_err-read_job-clause-outcome
returns-in_err-read_job-clause-outcome c =
    let found : c.from_residual.result ≡ Err c.in_err-read_job.field-0.0 = search rules in
    rw found (read_refused c.args.file.now _ c.in_err-read_job.ensures.outcome)

pub ring_check-requires : goal.ring_check-requires
ring_check-requires c =
    rw (c.len.ensures.value, c.deref.ensures.0)
    (to_check c.args.file.now c.read_job.new.job c.in_ok-read_job.ensures.outcome c.requires)

pub returns-clause-outcome : goal.returns-clause-outcome
returns-clause-outcome c =
    judged_outcome c.args.file.now c.read_job.new.job c.in_ok-read_job.ensures.outcome c.ring_check.result
    (λ u e. search rules) (λ i e. search rules)
    (rw (c.len.ensures.value, c.deref.ensures.0) at c.ring_check.ensures.found)

pub returns-clause-walkable : goal.returns-clause-walkable
returns-clause-walkable c =
    judged_walkable c.args.file.now c.read_job.new.job c.in_ok-read_job.ensures.outcome c.ring_check.result
    (λ u e. search rules) (λ i e. search rules)
    (rw (c.len.ensures.value, c.deref.ensures.0) at c.ring_check.ensures.found)
    c.ring_check.new.walk (rw (c.len.ensures.value, c.deref.ensures.0) at c.ring_check.ensures.walkable)
