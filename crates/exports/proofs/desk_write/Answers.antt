-- The place of a refusal is that of a row, or the count of whole rows, so it fits.
use Rattle.std.proofs.Common.{◌≡◌, sym, ap, ◌∙◌, arith}
use Rattle.rules.specs.Told.{write_answer_told}
use Rattle.exports.proofs.FormPlaces.{write_place}
use Rattle.exports.proofs.desk_write.Goals as goal

pub refused-requires : goal.refused-requires
refused-requires c =
    let placed = ap (λ x. x.place) (sym (ap write_answer_told c.in-Err.is) ∙ c.write_file.ensures.answered) in
    (omega arith, omega (arith, placed, write_place c.args.pieces.now c.args.links.now c.args.buffer.now))
