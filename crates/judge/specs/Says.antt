-- The judgement of a record looks at what was read before it, and there at nothing but how many pieces and how many
-- links that was. So the code is handed the two counts, and its answer is the rule's for every job that has them.
use Rattle.std.specs.Prelude.{ℕ, ◌≡◌, length, Result, Ok, Err}
use Rattle.rules.specs.Job.{Job, piece_count}
use Rattle.rules.specs.Told.{number_of}
use Rattle.rules.specs.declared.fault.Fault.{Fault}
use Rattle.judge.specs.declared.Counts.{Counts}

abbrev pub Says : {A : Type 0} → Counts → A → (Job → A) → Type 0
Says before answer rule =
    (J : Job) → piece_count J ≡ before.pieces → length J.links ≡ before.links → answer ≡ rule J

-- A judgement that gives something where it finds no fault: 0 then.
abbrev pub fault_in : {A : Type 0} → Result A Fault → ℕ
fault_in (Ok _) = 0
fault_in (Err fault) = number_of fault
