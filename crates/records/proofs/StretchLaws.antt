-- The stretch of a desk's runs, once its first record is found or there is none.
use Prim.Native.Nat.{ℕ, ◌-◌, ◌*◌, ◌≤◌, ◌<◌}
use mathlib.Core.Bool.{true, false}
use mathlib.Core.List.{List}
use mathlib.Core.Path.{◌≡◌}
use native.Mathlib.Omega.{arith}
use borrow.Author.Tests.{lt-ltb, le-ltb}
use Rattle.rules.specs.Words.{when}
use Rattle.rules.specs.File.{whole_records}
use Rattle.rules.specs.DeskRuns.{first_run, past_last_run, stretch_from, stretch_end}
use Rattle.records.specs.Handed.{FirstFrom}

-- What is looked for is what the page looks for.
pub first_is : (s : List ℕ) (d k : ℕ) → FirstFrom s d 0 true k → k ≡ first_run s d
unfolding first_run
first_is s d k F = let q : whole_records s - 0 ≡ whole_records s = omega arith in rw q at F.is

pub past_is : (s : List ℕ) (d k past : ℕ) → FirstFrom s d k false past → past ≡ past_last_run s d k
unfolding past_last_run
past_is s d k past F = F.is

module _ (s : List ℕ) (d k : ℕ) (found : k ≡ first_run s d) where
  module _ (h : k < whole_records s) where
    pub found_from : stretch_from s d ≡ 16 * k
    unfolding stretch_from when
    found_from = rw (← found) (rw (lt-ltb k (whole_records s) h, when))

    pub found_end : stretch_end s d ≡ 16 * past_last_run s d k
    unfolding stretch_end when
    found_end = rw (← found) (rw (lt-ltb k (whole_records s) h, when))

  module _ (h : whole_records s ≤ k) where
    pub nothing_from : stretch_from s d ≡ 0
    unfolding stretch_from when
    nothing_from = rw (← found) (rw (le-ltb k (whole_records s) h, when))

    pub nothing_end : stretch_end s d ≡ 0
    unfolding stretch_end when
    nothing_end = rw (← found) (rw (le-ltb k (whole_records s) h, when))
