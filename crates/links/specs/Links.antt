-- Links as plain tables: link k goes from the piece at place k of one table to the piece at place k of the other. What
-- the ring check is asked of them, and an order in which every piece stands after the pieces before it.
use Rattle.std.specs.Prelude.{ℕ, zero, suc, ◌+◌, ◌≤◌, ◌<◌, Bool, ◌&&◌, List, ◌≡◌, eqb, length, get_or}
use Rattle.rules.specs.Words.{when, one_of, below}

-- At most 256 pieces and 1,024 links, each link between two of the pieces.
pub record Ties (n m : ℕ) (befores afters : List ℕ) : Type 0 where
  pub few_pieces : n ≤ 256
  pub few_links : m ≤ 1024
  pub before_one : (k : ℕ) → k < m → get_or befores k 0 < n
  pub after_one : (k : ℕ) → k < m → get_or afters k 0 < n

-- One of the first m links goes from i straight to j.
unfoldable pub follows : ℕ → List ℕ → List ℕ → ℕ → ℕ → Bool
unfolding one_of below
follows m befores afters i j = one_of (λ k. eqb (get_or befores k 0) i && eqb (get_or afters k 0) j) (below m)

-- How many of the numbers below n pass.
unfoldable pub counted : (ℕ → Bool) → ℕ → ℕ
unfolding when
counted p zero = 0
counted p (suc k) = when (p k) 1 0 + counted p k

-- How many of the first m links lead to j, and how many of them lead there from i.
unfoldable pub links_to : ℕ → List ℕ → ℕ → ℕ
unfolding counted
links_to m afters j = counted (λ k. eqb (get_or afters k 0) j) m

unfoldable pub links_between : ℕ → List ℕ → List ℕ → ℕ → ℕ → ℕ
unfolding counted
links_between m befores afters i j = counted (λ k. eqb (get_or befores k 0) i && eqb (get_or afters k 0) j) m

-- The first n entries of the table are the numbers below n, each once, every piece after the pieces before it.
pub record InOrder (n m : ℕ) (befores afters order : List ℕ) : Type 0 where
  pub sized : length order ≡ 256
  pub inside : (p : ℕ) → p < n → get_or order p 0 < n
  pub everyone : (i : ℕ) → i < n → (p : ℕ) × (p < n) × (get_or order p 0 ≡ i)
  pub once : (p q : ℕ) → p < n → q < n → get_or order p 0 ≡ get_or order q 0 → p ≡ q
  pub rises : (k : ℕ) → k < m → (p q : ℕ) → p < n → q < n → get_or order p 0 ≡ get_or befores k 0
      → get_or order q 0 ≡ get_or afters k 0 → p < q
