-- The contents of a job file: pieces, each fixed to a desk, and links between them. A piece's number is its place among
-- the pieces, from 0.
use Rattle.std.specs.Prelude.{ℕ, List, [], ◌∷◌, ◌++◌, eqb, length, get_or}
use Rattle.rules.specs.Words.{keep, below}
use Rattle.rules.specs.declared.Piece.{Piece}
use Rattle.rules.specs.declared.Link.{Link}
use Rattle.rules.specs.Answers.{Refusal}

pub record Job : Type 0 where
  pub pieces : List Piece
  pub links : List Link

-- A job file read and judged: a job, or the refusal.
pub data Outcome : Type 0 where
  refused : Refusal → Outcome
  accepted : Job → Outcome

abbrev pub empty_job : Job
empty_job = record { pieces = []; links = [] }

abbrev pub with_piece : Job → Piece → Job
with_piece J p = record { pieces = J.pieces ++ (p ∷ []); links = J.links }

abbrev pub with_link : Job → Link → Job
with_link J l = record { pieces = J.pieces; links = J.links ++ (l ∷ []) }

abbrev pub piece_count : Job → ℕ
piece_count J = length J.pieces

-- What stands for a piece where there is none of that number: no rule looks at it.
abbrev pub no_piece : Piece
no_piece = record { desk = 0; duration = 0; release = 0; due = 0 }

abbrev pub piece : Job → ℕ → Piece
piece J i = get_or J.pieces i no_piece

abbrev pub desk : Job → ℕ → ℕ
desk J i = (piece J i).desk

abbrev pub duration : Job → ℕ → ℕ
duration J i = (piece J i).duration

-- The numbers of a desk's pieces, rising.
unfoldable pub desk_pieces : Job → ℕ → List ℕ
unfolding keep below
desk_pieces J d = keep (λ i. eqb (desk J i) d) (below (piece_count J))

-- The links to the pieces before i, and to the pieces after i.
unfoldable pub links_into : Job → ℕ → List Link
unfolding keep
links_into J i = keep (λ l. eqb l.after i) J.links

unfoldable pub links_from : Job → ℕ → List Link
unfolding keep
links_from J i = keep (λ l. eqb l.before i) J.links
