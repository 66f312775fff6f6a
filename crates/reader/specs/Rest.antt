-- The reading of a job file in the midst of it: what is left to do from record k on, with J read before it. The loop
-- goes by one saying: the rest from here is the whole.
use Rattle.std.specs.Prelude.{ℕ, ◌-◌, List}
use Rattle.rules.specs.File.{whole_records}
use Rattle.rules.specs.Job.{Job, Outcome}
use Rattle.rules.specs.Reading.{read_from}

abbrev pub rest : List ℕ → ℕ → Job → Outcome
rest s k J = read_from s (whole_records s - k) k J
