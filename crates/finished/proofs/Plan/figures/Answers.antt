-- `Plan::figures` meets its contract: the figures of the tables are those of the page's answer.
use Rattle.std.proofs.Common.{◌∙◌, w32, rules}
use mir.ValLaws.{to_z-of_z}
use Rattle.finished.proofs.FinishedLaws.{bounded_here, answer_here}
use Rattle.finished.proofs.Plan.figures.Goals as goal

pub worst_lateness-requires-clause-bounded : goal.worst_lateness-requires-clause-bounded
worst_lateness-requires-clause-bounded c = bounded_here c.requires.1

pub returns : goal.returns
returns c links F =
    let late = c.worst_lateness in
    answer_here F _ _ _ (search rules) c.largest_finish.ensures
    (to_z-of_z w32 late.result (record { sfits = late.type_inv }) ∙ late.ensures)
