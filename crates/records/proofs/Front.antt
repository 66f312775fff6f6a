-- Bytes stored from the front of a buffer on: what a call leaves in the buffer that it is lent.
use Prim.Native.Nat.{ℕ, ◌+◌, ◌≤◌}
use mathlib.Core.List.{List, ◌++◌}
use mathlib.Core.Path.{◌≡◌, ap, ◌∙◌}
use native.Mathlib.Omega.{arith}
use lib.ListN.{length, drop}
use lib.Seq.{sets, sets-eq}
use Rattle.rules.specs.Plan.{at_front}

pub stored_front : (b vs : List ℕ) → length vs ≤ length b → sets b 0 vs ≡ at_front vs b
unfolding at_front
stored_front b vs h =
    let z : 0 + length vs ≡ length vs = omega arith in
    sets-eq vs b 0 (omega arith) ∙ ap (λ k. vs ++ drop k b) z
