-- `put_piece_line` meets its contract: its six fields, and the newline, one right behind the other.
use Rattle.std.proofs.Common.{ap, ◌∙◌, arith, pos, ◌-ℤ◌, w32}
use mir.Facts.{to_z-of_z}
use Rattle.rules.specs.Listing.{letters, field, signed_field}
use Rattle.output.specs.Late.{lateness_of}
use Rattle.texts.proofs.TextLaws.{decimal_is, signed_decimal_is}
use Rattle.lines.specs.Lines.{piece_text}
use Rattle.lines.proofs.LineLaws.{no_field, then_field, then_newline}
use Rattle.lines.proofs.put_piece_line.Goals as goal

pub returns : goal.returns
unfolding piece_text letters field signed_field
returns c =
    let number = rw (decimal_is c.args.piece (omega (arith, c.put_field.ensures.fits))) at c.put_field.ensures.put in
    let desk = rw (decimal_is c.args.desk (omega (arith, c.put_field-2.ensures.fits))) at c.put_field-2.ensures.put in
    let start = rw (decimal_is c.args.span.start (omega (arith, c.put_field-3.ensures.fits))) at c.put_field-3.ensures.put in
    let finish = rw (decimal_is c.args.span.finish (omega (arith, c.put_field-4.ensures.fits))) at c.put_field-4.ensures.put in
    let kept = to_z-of_z c.ranges.latest in
    let latest = rw (kept, signed_decimal_is c.args.latest (omega (arith, rw kept at c.put_field-5.ensures.fits)))
    at c.put_field-5.ensures.put in
    let held = to_z-of_z {w = w32} {z = c.lateness.result} (record { sfits = c.lateness.type_inv }) in
    let counted = held ∙ c.lateness.ensures ∙ ap (λ z. pos c.args.span.finish -ℤ z) kept in
    let late = rw (
      counted,
      signed_decimal_is (lateness_of c.args.span.finish c.args.latest)
          (omega (arith, rw counted at c.put_field-6.ensures.fits)),
    ) at c.put_field-6.ensures.put in
    let three = then_field (then_field (then_field (no_field c.args.text.now) number) desk) start in
    then_newline (then_field (then_field (then_field three finish) latest) late) c.put.ensures
