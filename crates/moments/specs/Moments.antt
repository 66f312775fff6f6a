-- Latest moments in a table of signed numbers, piece by piece: the least of a piece's own due and of what the links
-- from it leave, where the moments of the pieces after it are known.
use Rattle.std.specs.Prelude.{ℕ, ◌≤◌, ◌<◌, ◌≡◌, ℤ, pos, ◌-ℤ◌, nat_abs, length, get_or}
use mathlib.Core.List.{List, Memᴰ as Mem}
use Rattle.std.proofs.Math.Option.{none}
use Rattle.rules.specs.Job.{Job}
use Rattle.rules.specs.Moments.{takes_off, latest}
use Rattle.rules.specs.Rings.{ring_piece}
use Rattle.rules.specs.Tables.{job_of, befores_of, afters_of, no_link, Sound}
use Rattle.rules.specs.declared.Link.{Link}
use Rattle.rules.specs.declared.Piece.{Piece}
use Rattle.links.specs.Chains.{Chained}
use Rattle.links.specs.Rings.{Walkable}
use Rattle.links.specs.declared.chains.Chains.{Chains}
use Rattle.links.specs.declared.rings.Walk.{Walk}

-- What a link leaves the piece before it, the moments as in the table.
unfoldable pub left_by : Job → List ℤ → Link → ℤ
left_by J moments l = get_or moments l.after (pos 0) -ℤ pos (takes_off J l)

-- Link k of the job can be looked at: the moment of the piece after it is no far one.
pub record ToLeave (J : Job) (moments : List ℤ) (k : ℕ) : Type 0 where
  pub sound : Sound J
  pub here : k < length J.links
  pub near : nat_abs (get_or moments (get_or J.links k no_link).after (pos 0)) ≤ 500000

-- Piece i has its turn: the pieces after it had theirs.
pub record ToTimeOne (i : ℕ) (ps : List Piece) (ls : List Link) (chains : Chains) (moments : List ℤ) : Type 0 where
  pub sound : Sound (job_of ps ls)
  pub free : ring_piece (job_of ps ls) ≡ none
  pub chained : Chained (befores_of ls) (length ls) chains.last chains.prior
  pub one : i < length ps
  pub followers : (l : Link) → Mem l ls → l.before ≡ i
      → get_or moments l.after (pos 0) ≡ latest (job_of ps ls) l.after

-- What is asked: a sound job without a ring, and its links as the ring check leaves them.
pub record ToTime (ps : List Piece) (ls : List Link) (walk : Walk) : Type 0 where
  pub sound : Sound (job_of ps ls)
  pub free : ring_piece (job_of ps ls) ≡ none
  pub walkable : Walkable (length ps) (length ls) (befores_of ls) (afters_of ls)
      walk.chains.last walk.chains.prior walk.order

-- What is answered: the latest moment of each piece.
pub record Timed (ps : List Piece) (ls : List Link) (moments : List ℤ) : Type 0 where
  pub sized : length moments ≡ 256
  pub latests : (i : ℕ) → i < length ps → get_or moments i (pos 0) ≡ latest (job_of ps ls) i
