-- What a step knows of each piece, as a table of numbers for each field.
use Rattle.std.specs.Prelude.{ℕ, List, map}
use Rattle.steps.specs.declared.State.{State}

abbrev pub left_of : List State → List ℕ
left_of xs = map (λ x. x.left) xs

abbrev pub ready_of : List State → List ℕ
ready_of xs = map (λ x. x.ready) xs

-- What stands for a state where there is none of that place.
abbrev pub no_state : State
no_state = record { left = 0; ready = 0 }
