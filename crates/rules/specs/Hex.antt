-- Bytes as a person writes them, for the sheets to check by: two hexadecimal digits to a byte, spaces wherever they help.
use Rattle.std.specs.Prelude.{ℕ, ◌+◌, ◌-◌, ◌*◌, true, false, List, [], ◌∷◌, ltb, eqb}
use Prim.Native.Char.{code}
use Prim.Native.String.{String, [] as empty, ◌∷◌ as ◌then◌}
use Rattle.std.proofs.Math.Option.{Option, none, some}
use Rattle.rules.specs.Words.{when}

-- The value of the digit with that code: 0 to 9, A to F.
unfoldable pub digit_value : ℕ → ℕ
unfolding when
digit_value c = when (ltb c 65) (c - 48) (c - 55)

-- The bytes of a text, the first digit of a byte under way.
unfoldable pub hex_from : Option ℕ → String → List ℕ
unfolding when digit_value
hex_from u empty = []
hex_from none (◌then◌ c cs) = elim (eqb (code c) 32) [
  | true ↦ hex_from none cs
  | false ↦ hex_from (some (digit_value (code c))) cs
]
hex_from (some high) (◌then◌ c cs) = (16 * high + digit_value (code c)) ∷ hex_from none cs

unfoldable pub hex : String → List ℕ
unfolding hex_from
hex = hex_from none
