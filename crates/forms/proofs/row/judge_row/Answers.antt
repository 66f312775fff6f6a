-- `judge_row` meets its contract: its order, then its values.
use Rattle.std.proofs.Common.{rules, sym, ◌∙◌}
use Rattle.judge.proofs.InTurn.{decides, passes}
use Rattle.forms.proofs.row.judge_row.Goals as goal

pub returns-in_err-judge_order : goal.returns-in_err-judge_order
returns-in_err-judge_order g c J n m =
    let told = decides _ _ _ (c.in_err-judge_order.ensures J n m)
    ∙ sym (g.met.R.Typed.offered J (g.R.Typed.typed c.args.row.now)) in
    search rules

pub returns : goal.returns
returns g c J n m =
    passes _ _ _ (c.in_ok-judge_order.ensures J n m) (c.judge_typed.ensures J n m)
    ∙ sym (g.met.R.Typed.offered J (g.R.Typed.typed c.args.row.now))
