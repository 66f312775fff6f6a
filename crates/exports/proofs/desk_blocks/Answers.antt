-- The place of a refusal is that of a record or a piece, so it fits.
use Rattle.std.proofs.Common.{◌≡◌, sym, ap, ◌∙◌, arith}
use Rattle.rules.specs.Told.{block_answer_told}
use Rattle.exports.proofs.Places.{sheet_place}
use Rattle.exports.proofs.desk_blocks.Goals as goal

pub refused-requires : goal.refused-requires
refused-requires c =
    let placed = ap (λ x. x.place) (sym (ap block_answer_told c.in-Err.is) ∙ c.block_sheet.ensures.answered) in
    (omega arith, omega (arith, placed, sheet_place c.args.file.now c.args.desk c.args.buffer.now))
