-- A signed number as 32 bits: minus (n + 1) is kept as 4,294,967,295 - n.
use Rattle.std.specs.Prelude.{ℤ, pos, negsuc, ◌≡◌}
use Rattle.std.proofs.Common.{refl, ap, arith}
use Rattle.std.specs.Int.{w32, cast_unsigned}
use Rattle.rules.specs.Bytes.{word, signed_word}

pub kept : (x : ℤ) → word (cast_unsigned w32 x) ≡ signed_word x
unfolding signed_word
kept (pos n) = refl
kept (negsuc n) = ap word (omega arith)
