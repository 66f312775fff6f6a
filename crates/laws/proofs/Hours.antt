-- Laws of the open slots, which are all that is used of them. Every desk is open in every slot.
use Prim.Native.Nat.{ℕ, zero, suc, ◌+◌, ◌≤◌}
use mathlib.Core.Bool.{true}
use mathlib.Core.List.{◌∷◌}
use mathlib.Core.Path.{◌≡◌, refl, ap}
use native.Mathlib.Omega.{arith}
use Rattle.rules.specs.Words.{when, keep, row}
use Rattle.rules.specs.Job.{Job}
use Rattle.rules.specs.Hours.{is_open, next_open, open_end}

pub always_open : (J : Job) (d t : ℕ) → is_open J d t ≡ true
unfolding is_open
always_open J d t = refl

-- Every slot of a row is open.
pub all_open : (J : Job) (d a n : ℕ) → keep (is_open J d) (row a n) ≡ row a n
unfolding keep row is_open when
all_open J d a zero = refl
all_open J d a (suc n) = ap (λ l. a ∷ l) (all_open J d (suc a) n)

pub next_is : (J : Job) (d t : ℕ) → next_open J d t ≡ t
unfolding next_open
next_is J d t = refl

-- So k slots since t end at t + k, and later where they begin later.
pub end_is : (J : Job) (d t k : ℕ) → open_end J d t k ≡ t + k
unfolding open_end
end_is J d t k = refl

pub end_grows : (J : Job) (d s t k : ℕ) → s ≤ t → open_end J d s k ≤ open_end J d t k
end_grows J d s t k h = omega (arith, end_is J d s k, end_is J d t k)
