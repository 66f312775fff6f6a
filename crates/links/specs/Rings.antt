-- What the ring check answers, and what its parts are asked.
use Rattle.std.specs.Prelude.{ℕ, ◌<◌, Bool, List, ◌≡◌, length, get_or, Result, Ok, Err, OnOk}
use Rattle.std.proofs.Math.Option.{Option, none, some}
use Rattle.rules.specs.Rings.{via, lowest_on_ring}
use Rattle.rules.specs.Tables.{befores_of, afters_of}
use Rattle.rules.specs.declared.Link.{Link}
use Rattle.links.specs.Chains.{Chained}
use Rattle.links.specs.Links.{Ties, follows, InOrder}
use Rattle.links.specs.Queue.{Net}
use Rattle.links.specs.declared.chains.Chains.{Chains}

-- The piece on a ring that the answer names.
abbrev pub ring_at : Result Unit ℕ → Option ℕ
ring_at (Ok _) = none
ring_at (Err i) = some i

-- What is checked: links between the pieces, with no chains of them yet.
pub record ToCheck (n m : ℕ) (befores afters last : List ℕ) : Type 0 where
  pub ties : Ties n m befores afters
  pub cleared : (i : ℕ) → i < 256 → get_or last i 0 ≡ 0

-- Links that can be walked, from each piece by its chain, and from piece to piece in an order.
pub record Walkable (n m : ℕ) (befores afters last prior order : List ℕ) : Type 0 where
  pub chained : Chained befores m last prior
  pub ordered : InOrder n m befores afters order

-- The answer names the lowest piece on a ring; where there is none, the links can be walked.
pub record RingChecked (n m : ℕ) (befores afters last prior order : List ℕ) (r : Result Unit ℕ) : Type 0 where
  pub found : ring_at r ≡ lowest_on_ring (follows m befores afters) n
  pub walkable : OnOk r (Walkable n m befores afters last prior order)

-- To look whether piece i leads to itself, whatever the number of pieces.
pub record ToLead (i : ℕ) (ls : List Link) (chains : Chains) : Type 0 where
  pub net : Net ls chains
  pub one : i < net.pieces

abbrev pub LeadsBack : ℕ → List Link → Chains → Bool → Type 0
LeadsBack i ls chains r =
    (N : Net ls chains) → i < N.pieces → r ≡ via (follows (length ls) (befores_of ls) (afters_of ls)) N.pieces i i
