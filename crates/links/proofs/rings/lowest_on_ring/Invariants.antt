-- `lowest_on_ring` meets its contract: no piece passed so far leads to itself.
use Prim.Native.Nat.{ℕ, ◌<◌}
use mathlib.Core.Bool.{false}
use mathlib.Core.Path.{◌≡◌}
use lib.ListN.{length}
use Rattle.rules.specs.Rings.{via}
use Rattle.rules.specs.Tables.{befores_of, afters_of}
use Rattle.links.specs.Links.{follows}
use Rattle.links.proofs.rings.lowest_on_ring.Given as goal

abbrev pub invariant-loop-i : goal.invariant-loop-i
invariant-loop-i l = (j : ℕ) → j < l.i
    → via (follows (length l.links) (befores_of l.links) (afters_of l.links)) l.pieces j j ≡ false
