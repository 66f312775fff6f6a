-- The judgement of one record, law by law: a fault ends it and no fault lets it pass, and a record is judged by its kind
-- where it stands in the file.
use Rattle.std.specs.Prelude.{ℕ, ◌<◌, ◌≤◌, List, ◌≡◌}
use Rattle.std.proofs.Common.{rules, ap, ◌∙◌}
use borrow.Author.Tests.{lt-ltb, le-ltb}
use Rattle.rules.specs.File.{byte_at, whole_records, record_at, Kind, kind_of}
use Rattle.rules.specs.Job.{Job}
use Rattle.rules.specs.Reading.{unless_fault, judged, at_end, item_at}
use Rattle.rules.specs.Told.{number_of}
use Rattle.rules.specs.Answers.{Item, Stop}
use Rattle.rules.specs.declared.fault.Fault.{Fault}
use Rattle.cursor.specs.JudgedAs.{judged_as}

-- A fault is the refusal of the record; without one the record says what it holds.
pub stops : (fault : Fault) (n k : ℕ) (item : Item) → number_of fault ≡ n
    → Stop (record { number = number_of fault; place = k }) ≡ unless_fault n k item
unfolding unless_fault
stops fault n k item e = search rules

pub passes : (n k : ℕ) (item i : Item) → 0 ≡ n → i ≡ item → i ≡ unless_fault n k item
unfolding unless_fault
passes n k item i e q = q ∙ ap (λ m. unless_fault m k item) e

-- A record is judged by its kind.
pub judged_as_lem : (kind : Kind) (J : Job) (k : ℕ) (r : List ℕ) → kind_of (byte_at r 0) ≡ kind →
    judged J k r ≡ judged_as kind k r J
unfolding judged
judged_as_lem kind J k r h = rw h

-- Record k is judged where it stands in the file; behind the last record comes the end.
pub item_record : (s : List ℕ) (k : ℕ) (J : Job) → k < whole_records s → item_at s k J ≡ judged J k (record_at s k)
unfolding item_at
item_record s k J h = rw (lt-ltb k (whole_records s) h)

pub item_end : (s : List ℕ) (k : ℕ) (J : Job) → whole_records s ≤ k → item_at s k J ≡ at_end s
unfolding item_at
item_end s k J h = rw (le-ltb k (whole_records s) h)
