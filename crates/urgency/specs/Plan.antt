-- The contract of the plan: what is known of the job when it is called, and what it leaves in spans and runs. The
-- definitions of the rules say what is right.
use Rattle.std.specs.Prelude.{ℕ, ◌+◌, ◌≤◌, ◌<◌, List, ◌≡◌, ℤ, pos, length, get_or}
use Rattle.std.proofs.Math.Option.{none}
use Rattle.rules.specs.Job.{Job}
use Rattle.rules.specs.Moments.{latest}
use Rattle.rules.specs.Rings.{ring_piece}
use Rattle.rules.specs.Runs.{runs}
use Rattle.rules.specs.Tables.{Sound}
use Rattle.rules.specs.Urgency.{start, finish}
use Rattle.steps.specs.Keys.{key_of}
use Rattle.steps.specs.Log.{Sized, logged_runs}

-- The job was read and judged, and its latest moments are known.
pub record Given (J : Job) (n : ℕ) (latests : List ℤ) : Type 0 where
  pub sound : Sound J
  pub free : ring_piece J ≡ none
  pub latest_is : (i : ℕ) → i < n → get_or latests i (pos 0) ≡ latest J i

-- The same with the keys made of them.
pub record Ranked (J : Job) (n : ℕ) (keys : List ℕ) : Type 0 where
  pub sound : Sound J
  pub free : ring_piece J ≡ none
  pub key_is : (i : ℕ) → i < n → get_or keys i 0 ≡ key_of (latest J i) i

-- The plan of the job: start and finish of every piece, and the log, whose first `count` places have the runs of
-- every desk in the order in which they begin. A run's desk is that of its piece.
pub record Planned (J : Job) (n : ℕ) (desks starts finishes pieces froms untils : List ℕ) (count : ℕ) : Type 0 where
  pub start_is : (i : ℕ) → i < n → get_or starts i 0 ≡ start J i
  pub finish_is : (i : ℕ) → i < n → get_or finishes i 0 ≡ finish J i
  pub runs_are : (d : ℕ) → d < 32 → logged_runs desks pieces froms untils count d ≡ runs J d
  pub inside : (k : ℕ) → k < count → get_or pieces k 0 < n
  pub few : count ≤ n + n
  pub sized : Sized starts finishes

-- The pieces' tables before the first slot.
pub record Begun (n : ℕ) (durations releases left ready starts finishes : List ℕ) : Type 0 where
  pub left_sized : length left ≡ 256
  pub ready_sized : length ready ≡ 256
  pub starts_sized : length starts ≡ 256
  pub finishes_sized : length finishes ≡ 256
  pub left_is : (i : ℕ) → i < n → get_or left i 0 ≡ get_or durations i 0
  pub ready_is : (i : ℕ) → i < n → get_or ready i 0 ≡ get_or releases i 0
  pub start_is : (i : ℕ) → i < n → get_or starts i 0 ≡ 0
  pub finish_is : (i : ℕ) → i < n → get_or finishes i 0 ≡ 0
