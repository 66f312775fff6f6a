-- Refusal 11: some piece leads by links back to itself; a self-link is a ring. The place is the lowest number of a piece
-- on a ring. The rule is one over any direct links between numbered pieces, `follows i j`: one comes from i straight to j.
use Rattle.std.specs.Prelude.{ℕ, zero, suc, Bool, ◌&&◌, ◌||◌, eqb}
use mathlib.Core.List.{List, [], ◌∷◌}
use Rattle.std.proofs.Math.Option.{Option, none, some}
use Rattle.rules.specs.Words.{when, one_of, below}
use Rattle.rules.specs.Job.{Job, piece_count}
use Rattle.rules.specs.declared.Link.{Link}

module _ (follows : ℕ → ℕ → Bool) where
  -- From i one comes to j by links through pieces below k only.
  unfoldable pub via : ℕ → ℕ → ℕ → Bool
  via zero i j = follows i j
  via (suc k) i j = via k i j || (via k i k && via k k j)

  -- The first of a list that leads back to itself, among n pieces.
  unfoldable pub first_on_ring : ℕ → List ℕ → Option ℕ
  unfolding when via
  first_on_ring n [] = none
  first_on_ring n (i ∷ is) = when (via n i i) (some i) (first_on_ring n is)

  -- The lowest of n pieces that is on a ring, if there is one.
  unfoldable pub lowest_on_ring : ℕ → Option ℕ
  unfolding first_on_ring below
  lowest_on_ring n = first_on_ring n (below n)

-- There is a link from i to j in a list of links.
unfoldable pub linked_by : List Link → ℕ → ℕ → Bool
unfolding one_of
linked_by ls i j = one_of (λ l. eqb l.before i && eqb l.after j) ls

-- There is a link from i to j in the job.
unfoldable pub linked : Job → ℕ → ℕ → Bool
unfolding linked_by
linked J = linked_by J.links

-- Piece i leads by links to piece j.
unfoldable pub leads : Job → ℕ → ℕ → Bool
unfolding via linked
leads J i j = via (linked J) (piece_count J) i j

-- The lowest piece of the job on a ring, if there is one.
unfoldable pub ring_piece : Job → Option ℕ
unfolding lowest_on_ring linked
ring_piece J = lowest_on_ring (linked J) (piece_count J)
