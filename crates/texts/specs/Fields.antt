-- A field of a line in a lent text: a word and a number behind it, at most 35 bytes.
use Rattle.std.specs.Prelude.{ℕ, ◌+◌, ◌≤◌, List, ◌≡◌, length}
use Rattle.records.specs.Puts.{Puts, Room}
use Rattle.records.specs.declared.lent.Lent.{Lent}

-- Room for a field: a word of at most 14 bytes, and a number of at most 20 digits with its sign.
pub record FieldFits (word : List ℕ) (text : Lent) : Type 0 where
  pub short : length word ≤ 14
  pub room : Room text 35

-- A field put, of at most 35 bytes: so far on, in a text that is as long as it was.
pub record PutsField (old : Lent) (bytes : List ℕ) (new : Lent) : Type 0 where
  pub put : Puts old bytes new
  pub few : length bytes ≤ 35
  pub near : new.at ≤ old.at + 35
  pub sized : length new.bytes.now ≡ length old.bytes.now
