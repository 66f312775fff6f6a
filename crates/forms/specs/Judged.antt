-- What the judgement of a form tells of its rows: nothing is wrong with them, or the first refusal met.
use Rattle.std.specs.Prelude.{ℕ, ◌+◌, List, ◌++◌, map, ◌≡◌, length, Result, Ok, Err}
use Rattle.rules.specs.Words.{below}
use Rattle.rules.specs.Job.{Job, Outcome, refused, piece_count}
use Rattle.rules.specs.Form.{take_all}
use Rattle.rules.specs.Told.{refusal_of}
use Rattle.rules.specs.Answers.{Item}
use Rattle.rules.specs.declared.fault.Refusal.{Refusal}
use Rattle.judge.specs.declared.Counts.{Counts}

-- An outcome told in a judgement: this one where nothing is wrong, and else the refusal.
abbrev pub outcome_or : Result Unit Refusal → Outcome → Outcome
outcome_or (Ok _) fine = fine
outcome_or (Err r) fine = refused (refusal_of r)

-- n rows of one kind behind any job of so many pieces and links, whatever is offered behind them: they are all taken, or
-- this is the refusal.
abbrev pub RowsJudged : {E : Type 0} → (E → Item) → (List ℕ → ℕ → E) → (Job → List E → Job) → List ℕ → ℕ → Counts
    → Result Unit Refusal → Type 0
RowsJudged item row_of added rows n before result =
    (J : Job) (xs : List Item) → piece_count J ≡ before.pieces → length J.links ≡ before.links
    → take_all (map (λ i. item (row_of rows i)) (below n) ++ xs) (before.pieces + before.links) J
    ≡ outcome_or result (take_all xs (before.pieces + before.links + n) (added J (map (row_of rows) (below n))))
