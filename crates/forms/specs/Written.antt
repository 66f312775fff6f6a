-- The records of the first rows one behind the other.
use Rattle.std.specs.Prelude.{ℕ, List, map}
use Rattle.rules.specs.Words.{below, joined}

unfoldable pub rows_bytes : (ℕ → List ℕ) → ℕ → List ℕ
unfolding joined below
rows_bytes made n = joined (map made (below n))
