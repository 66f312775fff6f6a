-- Record k judged as one of a kind: `judged` is this at the kind that the record's first byte names. And which item of
-- the page an answer for one record is.
use Rattle.std.specs.Prelude.{ℕ, List, Result, Ok, Err}
use Rattle.rules.specs.File.{Kind}
use Rattle.rules.specs.Job.{Job}
use Rattle.rules.specs.Reading.{unless_fault, record_fault, contents}
use Rattle.rules.specs.Told.{item_of_record, refusal_of}
use Rattle.rules.specs.Answers.{Item, Stop}
use Rattle.rules.specs.declared.Record.{Record}
use Rattle.rules.specs.declared.fault.Refusal.{Refusal}

abbrev pub judged_as : Kind → ℕ → List ℕ → Job → Item
judged_as kind k r J = unless_fault (record_fault kind J r) k (contents kind r)

abbrev pub item_told : Result Record Refusal → Item
item_told (Ok r) = item_of_record r
item_told (Err r) = Stop (refusal_of r)
