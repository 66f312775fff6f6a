-- `largest_finish` meets its contract: with one piece more the largest is the greater of two.
use Rattle.std.proofs.Common.{refl, sym, ap₂, ◌∙◌, get_or}
use Rattle.rules.specs.Words.{greater, greatest, below}
use Rattle.rules.specs.Tables.{finishes_of}
use Rattle.laws.proofs.Columns.{get_or-finishes}
use Rattle.output.proofs.FigureLaws.{max_is, largest_more}
use Rattle.output.proofs.figures.largest_finish.Goals as goal

pub loop-i-init : goal.loop-i-init
unfolding greatest below
loop-i-init c = refl

pub loop-i-preserved : goal.loop-i-preserved
loop-i-preserved c =
    let L = c.loop-i in
    let spans = c.args.spans.now in
    c.max-end.ensures ∙ max_is _ _
    ∙ ap₂ (λ e f. greater e f) L.invariant (sym (get_or-finishes spans L.i))
    ∙ largest_more (λ k. get_or (finishes_of spans) k 0) L.i
