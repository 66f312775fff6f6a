-- The end of a stretch of slots, as the code counts it, is the end of so many open slots.
use Prim.Native.Nat.{ℕ}
use mathlib.Core.Path.{◌≡◌, fun_ext}
use Rattle.rules.specs.Job.{Job}
use Rattle.rules.specs.Hours.{open_end}
use Rattle.laws.proofs.Hours as H
use Rattle.method.specs.Hours.{desk_end}

pub end_is : (J : Job) (d : ℕ) → open_end J d ≡ desk_end
unfolding desk_end
end_is J d = fun_ext (λ t. fun_ext (H.end_is J d t))
