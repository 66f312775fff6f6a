-- `put_total_line` meets its contract: its four fields, and the newline, one right behind the other.
use Rattle.std.proofs.Common.{arith, w32, SFits}
use mir.Facts.{to_z-of_z}
use Rattle.rules.specs.Listing.{letters, field, signed_field}
use Rattle.texts.proofs.TextLaws.{decimal_is, signed_decimal_is}
use Rattle.lines.specs.Lines.{total_text}
use Rattle.lines.proofs.LineLaws.{no_field, then_field, then_newline}
use Rattle.lines.proofs.put_total_line.Goals as goal

pub returns : goal.returns
unfolding total_text letters field signed_field
returns c =
    let pieces = rw (decimal_is c.args.figures.pieces (omega (arith, c.put_field.ensures.fits))) at c.put_field.ensures.put in
    let runs = rw (decimal_is c.args.figures.runs (omega (arith, c.put_field-2.ensures.fits))) at c.put_field-2.ensures.put in
    let end = rw (decimal_is c.args.figures.end (omega (arith, c.put_field-3.ensures.fits))) at c.put_field-3.ensures.put in
    let kept : SFits w32 c.args.figures.worst = record { sfits = omega arith } in
    let worst = rw (to_z-of_z kept, signed_decimal_is c.args.figures.worst (omega (arith, rw (to_z-of_z kept) at c.put_field-4.ensures.fits)))
    at c.put_field-4.ensures.put in
    then_newline (then_field (then_field (then_field (then_field (no_field c.args.text.now) pieces) runs) end) worst) c.put.ensures
