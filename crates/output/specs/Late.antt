-- Lateness in terms of the tables of a finished plan.
use Rattle.std.specs.Prelude.{ℕ, ◌≤◌, List, ℤ, pos, ◌-ℤ◌, get_or}
use Rattle.std.specs.Int.Signed.{mag}

-- Finishes and latest moments are far from the ends of 32 bits.
pub record Bounded (finish : ℕ) (latest : ℤ) : Type 0 where
  pub early : finish ≤ 408160
  pub near : mag latest ≤ 500000

abbrev pub lateness_of : ℕ → ℤ → ℤ
lateness_of finish latest = pos finish -ℤ latest

abbrev pub lateness_in : List ℕ → List ℤ → ℕ → ℤ
lateness_in finishes latests i = lateness_of (get_or finishes i 0) (get_or latests i (pos 0))
