-- `take_releases` meets its contract: the first i places hold the releases.
use Prim.Native.Nat.{ℕ, ◌<◌}
use mathlib.Core.Path.{◌≡◌}
use lib.ListN.{length, get_or}
use Rattle.rules.specs.Tables.{releases_of}
use Rattle.ready.proofs.raise.take_releases.Given as goal

abbrev pub invariant-loop-i : goal.invariant-loop-i
invariant-loop-i l =
    (length l.table ≡ 256) × ((j : ℕ) → j < l.i → get_or l.table j 0 ≡ get_or (releases_of l.pieces) j 0)
