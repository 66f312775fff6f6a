-- The records of rows one behind the other: none, one more, and how long they are. Told of rows of any kind.
use Rattle.std.specs.Prelude.{ℕ, ◌+◌, ◌*◌, List, [], ◌++◌, ◌≡◌, length}
use Rattle.std.proofs.Common.{refl, ap, ◌∙◌, add-one}
use Rattle.rules.specs.Words.{row, below, joined}
use Rattle.laws.proofs.Words.{length-below}
use Rattle.laws.proofs.Joined.{joined_more}
use Rattle.laws.proofs.Reread.{records_long}
use Rattle.forms.specs.Written.{rows_bytes}

module _ (made : ℕ → List ℕ) where
  pub no_rows : [] ≡ rows_bytes made 0
  unfolding rows_bytes below row joined
  no_rows = refl

  pub rows_more : (n : ℕ) → rows_bytes made n ++ made n ≡ rows_bytes made (n + 1)
  unfolding rows_bytes
  rows_more n = rw (add-one, joined_more made n) refl

  pub rows_long : ((i : ℕ) → length (made i) ≡ 16) → (n : ℕ) → length (rows_bytes made n) ≡ 16 * n
  unfolding rows_bytes
  rows_long sized n = records_long made sized (below n) ∙ ap (λ k. 16 * k) (length-below n)
