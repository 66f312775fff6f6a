-- The stretch of one desk's runs as the call hands it back: its bytes, and where it stands in the caller's own records.
-- So the empty stretch at the front is told from every other empty stretch.
use Rattle.std.specs.Prelude.{ℕ, ◌+◌, ◌-◌, ◌≤◌, Bool, true, false, not, List, ◌≡◌, length}
use Rattle.std.specs.Borrow.{Bor}
use Rattle.rules.specs.File.{whole_records}
use Rattle.rules.specs.DeskRuns.{is_run_of, first_from, stretch_from, stretch_end, stretch}

-- Record i is a run of the desk, or is none, as is wanted.
abbrev pub looked_for : List ℕ → ℕ → Bool → ℕ → Bool
looked_for records desk true i = is_run_of records desk i
looked_for records desk false i = not (is_run_of records desk i)

-- The first such record from a place on: it lies between that and the last whole record.
pub record FirstFrom (records : List ℕ) (desk from : ℕ) (wanted : Bool) (k : ℕ) : Type 0 where
  pub is : k ≡ first_from (looked_for records desk wanted) (whole_records records - from) from
  pub not_before : from ≤ k
  pub within : k ≤ whole_records records

-- Where the stretch begins and ends, within the records.
pub record Bounds (records : List ℕ) (desk from end : ℕ) : Type 0 where
  pub begins : from ≡ stretch_from records desk
  pub ends : end ≡ stretch_end records desk
  pub in_order : from ≤ end
  pub within : end ≤ length records

pub record Handed (records : Bor (List ℕ)) (desk : ℕ) (part : Bor (List ℕ)) : Type 0 where
  -- The bytes are the page's stretch.
  pub bytes : part.now ≡ stretch records.now desk
  -- They stand in the caller's records, and begin at the stretch's first byte.
  pub block : part.ref_ptr.0 ≡ records.ref_ptr.0
  pub place : part.ref_ptr.1 ≡ records.ref_ptr.1 + stretch_from records.now desk
