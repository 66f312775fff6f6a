-- A finished plan: a job's pieces and links, with the moment at which each piece was finished. And the raised ready moments
-- made of it, link by link.
use Rattle.std.specs.Prelude.{ℕ, ◌+◌, ◌≤◌, ◌<◌, Bool, ◌≡◌, eqb, length, get_or}
use mathlib.Core.List.{List, Memᴰ as Mem}
use Rattle.std.proofs.Math.Option.{none}
use Rattle.rules.specs.Words.{when}
use Rattle.rules.specs.Job.{Job, piece_count, desk, duration}
use Rattle.rules.specs.Rings.{ring_piece}
use Rattle.rules.specs.Tables.{job_of, releases_of, Sound}
use Rattle.rules.specs.Urgency.{finish}
use Rattle.rules.specs.Entries.{raised}
use Rattle.rules.specs.declared.Link.{Link}
use Rattle.rules.specs.declared.Piece.{Piece}
use Rattle.method.specs.Hours.{desk_end}

-- The pieces and links make a sound job without a ring, and the table holds when each piece is finished.
pub record Planned (ps : List Piece) (ls : List Link) (finishes : List ℕ) : Type 0 where
  pub sound : Sound (job_of ps ls)
  pub free : ring_piece (job_of ps ls) ≡ none
  pub finished : (i : ℕ) → i < length ps → get_or finishes i 0 ≡ finish (job_of ps ls) i

-- The table holds the releases.
pub record Released (ps : List Piece) (table : List ℕ) : Type 0 where
  pub sized : length table ≡ 256
  pub each : (i : ℕ) → i < length ps → get_or table i 0 ≡ get_or (releases_of ps) i 0

-- What a piece leaves the piece after it: on one desk its own moment and its duration, else its finish and the handover.
unfoldable pub leaves : Bool → ℕ → ℕ → ℕ → ℕ → ℕ
unfolding when desk_end
leaves own moment lasting ending handing = when own (desk_end moment lasting) (ending + handing)

-- What a link asks of the piece after it, the moments as in the table.
unfoldable pub asks : Job → List ℕ → Link → ℕ
unfolding leaves
asks J table l =
    leaves (eqb (desk J l.before) (desk J l.after)) (get_or table l.before 0) (duration J l.before)
    (finish J l.before) l.handover

-- No moment is above the raised ready moment.
pub record Below (J : Job) (table : List ℕ) : Type 0 where
  pub sized : length table ≡ 256
  pub each : (i : ℕ) → i < piece_count J → get_or table i 0 ≤ raised J i

-- The links of piece i passed: no moment falls, and each is granted what it asks.
pub record Risen (J : Job) (i : ℕ) (start table : List ℕ) : Type 0 where
  pub low : Below J table
  pub grown : (j : ℕ) → j < piece_count J → get_or start j 0 ≤ get_or table j 0
  pub granted : (l : Link) → Mem l J.links → l.before ≡ i → asks J start l ≤ get_or table l.after 0

-- The table holds the raised ready moments.
pub record HoldsRaised (J : Job) (table : List ℕ) : Type 0 where
  pub sized : length table ≡ 256
  pub each : (i : ℕ) → i < piece_count J → get_or table i 0 ≡ raised J i
