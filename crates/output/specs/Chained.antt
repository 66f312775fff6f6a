-- The runs of the log chained desk by desk, as `RunChains::new` lays them: from each run to the next of the same desk.
use Prim.Native.Nat.{ℕ, zero, suc, ◌+◌, ◌-◌, ◌≤◌, ◌<◌}
use Rattle.std.specs.Prelude.{Option, None, Some, List, ◌≡◌, eqb, length, get_or}
use Rattle.rules.specs.Words.{when}

module _ (desks pieces : List ℕ) where
  -- The desk of the run at place k of the log.
  abbrev pub desk_at : ℕ → ℕ
  desk_at k = get_or desks (get_or pieces k 0) 0

  -- One more than the place of the first run of desk d among so many of the log from place k on; 0 where there is none.
  unfoldable pub next_run : ℕ → ℕ → ℕ → ℕ
  unfolding when
  next_run d zero k = 0
  next_run d (suc left) k = when (eqb (desk_at k) d) (k + 1) (next_run d left (k + 1))

  -- The chains of the runs from place k on, of so many in the log.
  pub record RunsChained (count k : ℕ) (first later : List ℕ) : Type 0 where
    pub first_sized : length first ≡ 256
    pub later_sized : length later ≡ 512
    pub begins : (d : ℕ) → d < 256 → get_or first d 0 ≡ next_run d (count - k) k
    pub goes_on : (j : ℕ) → k ≤ j → j < count → get_or later j 0 ≡ next_run (desk_at j) (count - (j + 1)) (j + 1)

-- The number that stands for a place of the log in a chain.
abbrev pub code_of : Option ℕ → ℕ
code_of None = 0
code_of (Some k) = k + 1
