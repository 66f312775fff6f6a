-- Pieces placed in a queue as soon as nothing is left that they wait for. The ring check lets a piece wait for each
-- link into it; the search for a ring lets it wait for one. Passing on is the same for both.
use Rattle.std.specs.Prelude.{ℕ, zero, suc, ◌-◌, ◌≤◌, ◌<◌, Bool, false, ◌&&◌, ◌||◌, List, ◌≡◌, eqb, length, get_or}
use Rattle.rules.specs.Tables.{befores_of, afters_of}
use Rattle.rules.specs.Words.{when}
use Rattle.rules.specs.declared.Link.{Link}
use Rattle.links.specs.Chains.{Chained}
use Rattle.links.specs.Links.{Ties, counted, links_to, links_between}
use Rattle.links.specs.declared.chains.Chains.{Chains}
use Rattle.links.specs.declared.queue.Placing.{Placing}

-- The first t entries of the queue are the pieces, of n, that wait for nothing, each once.
pub record Queue (n t : ℕ) (order waits : List ℕ) : Type 0 where
  pub order_sized : length order ≡ 256
  pub waits_sized : length waits ≡ 256
  pub as_many : counted (λ i. eqb (get_or waits i 0) 0) n ≡ t
  pub inside : (q : ℕ) → q < t → get_or order q 0 < n
  pub idle : (q : ℕ) → q < t → get_or waits (get_or order q 0) 0 ≡ 0
  pub once : (p q : ℕ) → p < t → q < t → get_or order p 0 ≡ get_or order q 0 → p ≡ q
  pub everyone : (i : ℕ) → i < n → get_or waits i 0 ≡ 0 → (q : ℕ) × (q < t) × (get_or order q 0 ≡ i)

-- From a queue of t to a queue of r: what was placed stays, and each piece waits for so many less, if for any.
pub record Passed (n t : ℕ) (less : ℕ → ℕ) (order waits : List ℕ) (r : ℕ) (order₂ waits₂ : List ℕ) : Type 0 where
  pub queue : Queue n r order₂ waits₂
  pub more : t ≤ r
  pub kept : (q : ℕ) → q < t → get_or order₂ q 0 ≡ get_or order q 0
  pub lowered : (j : ℕ) → j < n → get_or waits₂ j 0 ≡ get_or waits j 0 - less j

-- Piece x is among the first h of the queue.
unfoldable pub among : List ℕ → ℕ → ℕ → Bool
among order zero x = false
among order (suc h) x = eqb (get_or order h 0) x || among order h x

-- How many links lead to j from one of the first h of the queue.
unfoldable pub links_from_first : ℕ → List ℕ → List ℕ → List ℕ → ℕ → ℕ → ℕ
unfolding counted among
links_from_first m befores afters order h j =
    counted (λ k. eqb (get_or afters k 0) j && among order h (get_or befores k 0)) m

-- Links between so many pieces, and their chains.
pub record Net (ls : List Link) (chains : Chains) : Type 0 where
  pub pieces : ℕ
  pub ties : Ties pieces (length ls) (befores_of ls) (afters_of ls)
  pub chained : Chained (befores_of ls) (length ls) chains.last chains.prior

-- To count the links into each piece: a clear table.
pub record ToCount (m : ℕ) (afters waits : List ℕ) : Type 0 where
  pub few : m ≤ 1024
  pub small : (k : ℕ) → k < m → get_or afters k 0 < 256
  pub cleared : (j : ℕ) → j < 256 → get_or waits j 0 ≡ 0

pub record CountedTo (m : ℕ) (afters waits : List ℕ) : Type 0 where
  pub sized : length waits ≡ 256
  pub counts : (j : ℕ) → j < 256 → get_or waits j 0 ≡ links_to m afters j

-- The queue of n pieces, and what it has become.
abbrev pub IsQueue : ℕ → Placing → Type 0
IsQueue n q = Queue n q.placed q.order q.waits

abbrev pub PassedTo : ℕ → Placing → (ℕ → ℕ) → Placing → Type 0
PassedTo n q less r = Passed n q.placed less q.order q.waits r.placed r.order r.waits

-- To pass one link to piece j, whatever the number of pieces.
pub record ToPassOne (j : ℕ) (q : Placing) : Type 0 where
  pub pieces : ℕ
  pub few : pieces ≤ 256
  pub one : j < pieces
  pub queue : IsQueue pieces q

abbrev pub PassedOne : ℕ → Placing → Placing → Type 0
PassedOne j q r = (n : ℕ) → n ≤ 256 → j < n → IsQueue n q → PassedTo n q (λ x. when (eqb x j) 1 0) r

-- To pass every link from piece i, whatever the number of pieces.
pub record ToPass (i : ℕ) (ls : List Link) (chains : Chains) (q : Placing) : Type 0 where
  pub net : Net ls chains
  pub one : i < net.pieces
  pub queue : IsQueue net.pieces q

abbrev pub PassedOn : ℕ → List Link → Chains → Placing → Placing → Type 0
PassedOn i ls chains q r =
    (N : Net ls chains) → i < N.pieces → IsQueue N.pieces q
    → PassedTo N.pieces q (links_between (length ls) (befores_of ls) (afters_of ls) i) r

-- To pass every link from every piece in the queue, those placed on the way as well.
pub record ToPassAll (ls : List Link) (chains : Chains) (q : Placing) : Type 0 where
  pub net : Net ls chains
  pub queue : IsQueue net.pieces q

-- All links from the first h of the queue are passed; and what was placed on the way was placed for links from pieces
-- that stand earlier in the queue.
pub record FirstPassed (n m : ℕ) (befores afters : List ℕ) (t : ℕ) (order waits : List ℕ)
    (h r : ℕ) (order₂ waits₂ : List ℕ) : Type 0 where
  pub within : h ≤ r
  pub passed : Passed n t (links_from_first m befores afters order₂ h) order waits r order₂ waits₂
  pub earned : (q : ℕ) → t ≤ q → q < r
      → get_or waits (get_or order₂ q 0) 0 ≤ links_from_first m befores afters order₂ q (get_or order₂ q 0)

abbrev pub PassedAll : List Link → Chains → Placing → ℕ → Placing → Type 0
PassedAll ls chains q h r =
    (N : Net ls chains) → IsQueue N.pieces q
    → FirstPassed N.pieces (length ls) (befores_of ls) (afters_of ls) q.placed q.order q.waits h r.placed r.order r.waits
