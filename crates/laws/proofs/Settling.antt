-- Moments that are worked out along links, round by round: once there are as many rounds as links can lead on, one round
-- more adds nothing. Latest moments and raised ready moments both go so.
use Prim.Native.Nat.{ℕ, zero, suc, ◌≤◌, ◌<◌}
use mathlib.Core.Path.{◌≡◌, sym, ◌∙◌}
use native.Mathlib.Omega.{arith}

-- `far i` is how far links lead on from i; `moment n` the n-th round, `round` what a round makes of the moments of the
-- pieces less far.
pub settles : {A : Type 0} (far : ℕ → ℕ) (moment : ℕ → ℕ → A) (round : (ℕ → A) → ℕ → A)
    → ((n i : ℕ) → moment (suc n) i ≡ round (moment n) i)
    → ((f g : ℕ → A) (i : ℕ) → ((j : ℕ) → far j < far i → f j ≡ g j) → round f i ≡ round g i)
    → ((i : ℕ) → far i ≡ 0 → moment 1 i ≡ moment 0 i)
    → (n i : ℕ) → far i ≤ n → moment (suc n) i ≡ moment n i
settles far moment round more near none zero i h = none i (omega arith)
settles far moment round more near none (suc n) i h =
    more (suc n) i
    ∙ near (moment (suc n)) (moment n) i (λ j l. settles far moment round more near none n j (omega arith))
    ∙ sym (more n i)
