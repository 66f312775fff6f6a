-- Values that have room in their fields of a record: a byte for the desk, two bytes for duration, numbers of pieces and
-- handover, four for release and due. And values cut down to the greatest that their field holds.
use Rattle.std.specs.Prelude.{ℕ, ◌<◌, ltb}
use mathlib.Core.List.{map, Memᴰ as Mem}
use Rattle.rules.specs.Words.{when}
use Rattle.rules.specs.Job.{Job}
use Rattle.rules.specs.declared.Piece.{Piece}
use Rattle.rules.specs.declared.Link.{Link}

pub record PieceHeld (p : Piece) : Type 0 where
  pub desk_held : p.desk < 256
  pub duration_held : p.duration < 65536
  pub release_held : p.release < 4294967296
  pub due_held : p.due < 4294967296

pub record LinkHeld (l : Link) : Type 0 where
  pub before_held : l.before < 65536
  pub after_held : l.after < 65536
  pub handover_held : l.handover < 65536

-- Every value of the job.
pub record Held (J : Job) : Type 0 where
  pub pieces_held : (p : Piece) → Mem p J.pieces → PieceHeld p
  pub links_held : (l : Link) → Mem l J.links → LinkHeld l

unfoldable pub cut_to : ℕ → ℕ → ℕ
unfolding when
cut_to most n = when (ltb most n) most n

abbrev pub cut_piece : Piece → Piece
cut_piece p = record {
  desk = cut_to 255 p.desk;
  duration = cut_to 65535 p.duration;
  release = cut_to 4294967295 p.release;
  due = cut_to 4294967295 p.due;
}

abbrev pub cut_link : Link → Link
cut_link l =
    record { before = cut_to 65535 l.before; after = cut_to 65535 l.after; handover = cut_to 65535 l.handover }

-- Every value of the job, cut down.
abbrev pub cut_down : Job → Job
cut_down J = record { pieces = map cut_piece J.pieces; links = map cut_link J.links }
