-- The tables of the states of the pieces: what stands at a place of them.
use Rattle.std.specs.Prelude.{ℕ, List, ◌≡◌, get_or}
use Rattle.std.proofs.Math.ListN.{get_or-map}
use Rattle.steps.specs.States.{left_of, ready_of, no_state}
use Rattle.steps.specs.declared.State.{State}

pub get_or-left : (xs : List State) (i : ℕ) → get_or (left_of xs) i 0 ≡ (get_or xs i no_state).left
get_or-left xs i = get_or-map (λ x. x.left) xs i no_state

pub get_or-ready : (xs : List State) (i : ℕ) → get_or (ready_of xs) i 0 ≡ (get_or xs i no_state).ready
get_or-ready xs i = get_or-map (λ x. x.ready) xs i no_state
