-- `put_refused_line` meets its contract: its two fields, and the newline, one right behind the other.
use Rattle.std.proofs.Common.{arith}
use Rattle.rules.specs.Listing.{letters, field}
use Rattle.texts.proofs.TextLaws.{decimal_is}
use Rattle.lines.specs.Lines.{refused_text}
use Rattle.lines.proofs.LineLaws.{no_field, then_field, then_newline}
use Rattle.lines.proofs.put_refused_line.Goals as goal

pub returns : goal.returns
unfolding refused_text letters field
returns c =
    let number = rw (decimal_is c.from.result (omega (arith, c.put_field.ensures.fits))) at c.put_field.ensures.put in
    let place = rw (decimal_is c.args.refusal.place (omega (arith, c.put_field-2.ensures.fits))) at c.put_field-2.ensures.put in
    rw c.from.ensures at (then_newline (then_field (then_field (no_field c.args.text.now) number) place) c.put.ensures)
