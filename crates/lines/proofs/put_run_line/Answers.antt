-- `put_run_line` meets its contract: its four fields, and the newline, one right behind the other.
use Rattle.std.proofs.Common.{arith}
use Rattle.rules.specs.Listing.{letters, field}
use Rattle.texts.proofs.TextLaws.{decimal_is}
use Rattle.lines.specs.Lines.{run_text}
use Rattle.lines.proofs.LineLaws.{no_field, then_field, then_newline}
use Rattle.lines.proofs.put_run_line.Goals as goal

pub returns : goal.returns
unfolding run_text letters field
returns c =
    let desk = rw (decimal_is c.args.desk (omega (arith, c.put_field.ensures.fits))) at c.put_field.ensures.put in
    let piece = rw (decimal_is c.args.run.piece (omega (arith, c.put_field-2.ensures.fits))) at c.put_field-2.ensures.put in
    let start = rw (decimal_is c.args.run.from (omega (arith, c.put_field-3.ensures.fits))) at c.put_field-3.ensures.put in
    let end = rw (decimal_is c.args.run.until (omega (arith, c.put_field-4.ensures.fits))) at c.put_field-4.ensures.put in
    then_newline (then_field (then_field (then_field (then_field (no_field c.args.text.now) desk) piece) start) end) c.put.ensures
