-- The urgency of a piece as one number, so that one comparison tells who goes first: its latest moment, raised by 524,288
-- since it may lie below zero, and in the last eight bits its number, which no other piece has.
use Rattle.std.specs.Prelude.{ℕ, ◌+◌, ◌-◌, ◌*◌, ◌<◌, List, ◌≡◌, ℤ, pos, negsuc, length, get_or}

unfoldable pub key_of : ℤ → ℕ → ℕ
key_of (pos k) i = (k + 524288) * 256 + i
key_of (negsuc k) i = (524287 - k) * 256 + i

-- A number above every key: nobody's.
abbrev pub no_key : ℕ
no_key = 18446744073709551615

-- The keys of the first n pieces.
pub record Keyed (n : ℕ) (latests : List ℤ) (keys : List ℕ) : Type 0 where
  pub sized : length keys ≡ 256
  pub each : (i : ℕ) → i < n → get_or keys i 0 ≡ key_of (get_or latests i (pos 0)) i
