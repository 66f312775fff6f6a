-- What the block sheet of one desk is made of: a finished plan, and its latest moments.
use Rattle.std.specs.Prelude.{ℕ, ◌<◌, List, ◌≡◌, ℤ, pos, length, get_or}
use Rattle.rules.specs.Moments.{latest}
use Rattle.rules.specs.Tables.{job_of}
use Rattle.rules.specs.declared.Piece.{Piece}
use Rattle.rules.specs.declared.Link.{Link}
use Rattle.ready.specs.Planned.{Planned}

pub record Laid (ps : List Piece) (ls : List Link) (finishes : List ℕ) (latests : List ℤ) : Type 0 where
  pub planned : Planned ps ls finishes
  pub latest_is : (i : ℕ) → i < length ps → get_or latests i (pos 0) ≡ latest (job_of ps ls) i
