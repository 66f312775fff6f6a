-- What the answer of the reading says: the page's outcome, with the job that was read.
use Rattle.std.specs.Prelude.{Result, Ok, Err}
use Rattle.rules.specs.Job.{Outcome, refused, accepted}
use Rattle.rules.specs.Tables.{job_of}
use Rattle.rules.specs.Told.{refusal_of}
use Rattle.rules.specs.declared.fault.Refusal.{Refusal}
use Rattle.reader.specs.declared.Job.{Job}

abbrev pub outcome_told : Result Unit Refusal → Job → Outcome
outcome_told (Ok _) job = accepted (job_of job.pieces.items job.links.items)
outcome_told (Err r) job = refused (refusal_of r)
