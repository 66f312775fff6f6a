-- `signed_word` meets its contract: the bits of the number are what the page writes.
use Rattle.std.proofs.Common.{ap, ◌∙◌}
use Rattle.std.specs.Int.{w32, cast_unsigned}
use mir.Facts.{to_z-of_z}
use Rattle.rules.specs.Bytes.{word}
use Rattle.records.proofs.TwosComplement.{kept}
use Rattle.records.proofs.put.signed_word.Goals as goal

pub returns : goal.returns
returns c = ap word (c.cast_unsigned.ensures ∙ ap (cast_unsigned w32) (to_z-of_z c.ranges.x)) ∙ kept c.args.x
