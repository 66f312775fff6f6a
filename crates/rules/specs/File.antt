-- "The job file": records of 16 bytes, no header, numbers little-endian. What each byte of a piece and of a link means,
-- and which bytes must be zero.
use Rattle.std.specs.Prelude.{ℕ, zero, suc, ◌+◌, ◌*◌, ◌/◌, List, [], ◌∷◌, length, get_or, take, drop}
use Rattle.rules.specs.declared.Piece.{Piece}
use Rattle.rules.specs.declared.Link.{Link}

-- A byte, and the numbers in two and in four bytes.
abbrev pub byte_at : List ℕ → ℕ → ℕ
byte_at s i = get_or s i 0

abbrev pub half_at : List ℕ → ℕ → ℕ
half_at s i = byte_at s i + 256 * byte_at s (i + 1)

abbrev pub word_at : List ℕ → ℕ → ℕ
word_at s i = half_at s i + 65536 * half_at s (i + 2)

-- How many whole records a file has, and the k-th of them. Records count from 0.
abbrev pub whole_records : List ℕ → ℕ
whole_records s = length s / 16

abbrev pub record_at : List ℕ → ℕ → List ℕ
record_at s k = take 16 (drop (16 * k) s)

-- "Kind byte 0 and all from 3 to 255 are unknown."
pub data Kind : Type 0 where
  of_piece of_link unknown : Kind

unfoldable pub kind_of : ℕ → Kind
kind_of zero = unknown
kind_of (suc zero) = of_piece
kind_of (suc (suc zero)) = of_link
kind_of (suc (suc (suc n))) = unknown

-- The columns of the page's table: what a record says as a piece, and as a link.
unfoldable pub as_piece : List ℕ → Piece
as_piece r = record { desk = byte_at r 1; duration = half_at r 2; release = word_at r 4; due = word_at r 8 }

unfoldable pub as_link : List ℕ → Link
as_link r = record { before = half_at r 2; after = half_at r 4; handover = half_at r 6 }

-- The bytes that must be zero.
abbrev pub zero_places : Kind → List ℕ
zero_places of_piece = 12 ∷ 13 ∷ 14 ∷ 15 ∷ []
zero_places of_link = 1 ∷ 8 ∷ 9 ∷ 10 ∷ 11 ∷ 12 ∷ 13 ∷ 14 ∷ 15 ∷ []
zero_places unknown = []
