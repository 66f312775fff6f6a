-- The slots of a desk as the code counts them: every desk is open in every slot, so k slots since moment t end at t + k.
use Rattle.std.specs.Prelude.{ℕ, ◌+◌, Bool, true}

unfoldable pub desk_open : ℕ → Bool
desk_open t = true

unfoldable pub desk_end : ℕ → ℕ → ℕ
desk_end t k = t + k
