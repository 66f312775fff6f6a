-- The place of a refusal is that of a record or a piece, so it fits.
use Rattle.std.proofs.Common.{◌≡◌, sym, ap, ◌∙◌, arith}
use Rattle.rules.specs.Told.{plan_answer_told}
use Rattle.exports.proofs.Places.{plan_place}
use Rattle.exports.proofs.desk_plan.Goals as goal

pub refused-requires : goal.refused-requires
refused-requires c =
    let placed = ap (λ x. x.place) (sym (ap plan_answer_told c.in-Err.is) ∙ c.plan.ensures.answered) in
    (omega arith, omega (arith, placed, plan_place c.args.file.now c.args.buffer.now))
