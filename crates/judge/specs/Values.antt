-- A piece and a link of these numbers, wide or not: what the judgement of values speaks of. And their value faults,
-- with a job read before them.
use Rattle.std.specs.Prelude.{ℕ}
use Rattle.rules.specs.Job.{Job, piece_count}
use Rattle.rules.specs.Reading.{piece_fault, link_fault}
use Rattle.rules.specs.declared.Piece.{Piece}
use Rattle.rules.specs.declared.Link.{Link}

abbrev pub piece_with : ℕ → ℕ → ℕ → ℕ → Piece
piece_with desk duration release due = record { desk = desk; duration = duration; release = release; due = due }

abbrev pub link_with : ℕ → ℕ → ℕ → Link
link_with before after handover = record { before = before; after = after; handover = handover }

abbrev pub piece_value_fault : Job → Piece → ℕ
piece_value_fault J p = piece_fault p

abbrev pub link_value_fault : Job → Link → ℕ
link_value_fault J l = link_fault (piece_count J) l
