-- What pieces and links have in common as rows of a form: how they are added to a job, and counted.
use Rattle.std.specs.Prelude.{ℕ, ◌+◌, List, [], ◌∷◌, ◌++◌, ◌≡◌, length}
use Rattle.rules.specs.Job.{Job, Outcome, piece_count}
use Rattle.rules.specs.Reading.{and_then}
use Rattle.rules.specs.Answers.{Item}
use Rattle.judge.specs.declared.Counts.{Counts}

-- Taken in one by one they are added one behind the other.
pub record AddsInTurn {E : Type 0} (item : E → Item) (added : Job → List E → Job) : Type 0 where
  pub none : (J : Job) → added J [] ≡ J
  pub one : (e : E) (J : Job) (onward : Job → Outcome) → and_then (item e) J onward ≡ onward (added J (e ∷ []))
  pub more : (J : Job) (xs ys : List E) → added (added J xs) ys ≡ added J (xs ++ ys)

-- The counts of a job with so many added.
pub record CountsOn {E : Type 0} (added : Job → List E → Job) (before : Counts) (rows : ℕ) (after : Counts)
    : Type 0 where
  pub pieces : (J : Job) (es : List E) → piece_count J ≡ before.pieces → length es ≡ rows
      → piece_count (added J es) ≡ after.pieces
  pub links : (J : Job) (es : List E) → length J.links ≡ before.links → length es ≡ rows
      → length (added J es).links ≡ after.links
  pub place : after.pieces + after.links ≡ before.pieces + before.links + rows
