-- `judge_record` meets its contract: the first of its judgements that finds a fault decides.
use Rattle.std.proofs.Common.{sym, ap, ◌∙◌, rules, ◌≡◌}
use Rattle.judge.proofs.InTurn.{at_order, at_values, at_zeros}
use Rattle.judge.proofs.entry.judge_record.Goals as goal

pub returns-in_err-judge_order-clause-fault : goal.returns-in_err-judge_order-clause-fault
returns-in_err-judge_order-clause-fault g c J n m =
    let told = at_order _ J c.args.r.now g.met.E.Entry.known _ (c.in_err-judge_order.ensures J n m) in
    search rules

pub returns-in_err-judge_values-clause-fault : goal.returns-in_err-judge_values-clause-fault
returns-in_err-judge_values-clause-fault g c J n m =
    let r = c.args.r.now in
    let entry = g.met.E.Entry in
    let told = at_values _ J r entry.known (search rules) _
    (c.in_err-judge_values.ensures J n m ∙ ap (g.E.Entry.fault J) c.said-entry.ensures ∙ sym (entry.valued J r)) in
    search rules

pub returns-in_err-judge_zeros-clause-fault : goal.returns-in_err-judge_zeros-clause-fault
returns-in_err-judge_zeros-clause-fault g c J n m =
    let r = c.args.r.now in
    let entry = g.met.E.Entry in
    let values : 0 ≡ g.E.Entry.fault J c.said-entry.result = search rules in
    let told = at_zeros _ J r entry.known (search rules) _
    (values ∙ ap (g.E.Entry.fault J) c.said-entry.ensures ∙ sym (entry.valued J r))
    c.in_err-judge_zeros.ensures in
    search rules

pub returns-clause-fault : goal.returns-clause-fault
returns-clause-fault g c J n m =
    let r = c.args.r.now in
    let entry = g.met.E.Entry in
    at_zeros _ J r entry.known (c.in_ok-judge_order.ensures J n m) _
    (c.in_ok-judge_values.ensures J n m ∙ ap (g.E.Entry.fault J) c.said-entry.ensures ∙ sym (entry.valued J r))
    c.in_ok-judge_zeros.ensures
