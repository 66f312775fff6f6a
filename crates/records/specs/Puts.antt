-- What a put does to a lent buffer: the bytes stand from the place reached on, and that place is behind them. It is the
-- same loan before and after.
use Rattle.std.specs.Prelude.{ℕ, ◌+◌, ◌≤◌, List, ◌≡◌, length}
use Rattle.std.proofs.lemmas.List.Edits.{sets}
use Rattle.records.specs.declared.lent.Lent.{Lent}

-- So many bytes more have room.
abbrev pub Room : Lent → ℕ → Type 0
Room lent more = lent.at + more ≤ length lent.bytes.now

pub record Puts (old : Lent) (bytes : List ℕ) (new : Lent) : Type 0 where
  pub written : new.bytes.now ≡ sets old.bytes.now old.at bytes
  pub past : new.at ≡ old.at + length bytes
  pub same : new.bytes.ghost_name ≡ old.bytes.ghost_name
