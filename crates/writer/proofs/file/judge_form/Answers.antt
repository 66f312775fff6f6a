-- `judge_form` meets its contract: the first of its judgements that finds a fault decides.
use Rattle.std.proofs.Common.{arith, rules, ◌+◌, ◌%◌, length}
use borrow.Author.Tests.{eq-eqb, ne_eqb}
use Rattle.writer.proofs.FormLaws.{few_taken, pieces_stopped, links_stopped, cut_short, form_taken}
use Rattle.writer.proofs.file.judge_form.Goals as goal

pub returns-in_err-judge_rows : goal.returns-in_err-judge_rows
returns-in_err-judge_rows c =
    let a = c.args in
    let told = pieces_stopped a.pieces.now a.links.now c.in_err-judge_rows.field-0.0 c.in_err-judge_rows.ensures in
    search rules

pub judge_rows-requires-2 : goal.judge_rows-requires-2
judge_rows-requires-2 c =
    let few = few_taken c.args.pieces.now c.args.links.now c.in_ok-judge_rows.ensures in omega arith

pub returns-in_err-judge_rows-2 : goal.returns-in_err-judge_rows-2
returns-in_err-judge_rows-2 c =
    let a = c.args in
    let told = links_stopped a.pieces.now a.links.now c.in_ok-judge_rows.ensures c.in_err-judge_rows-2.field-0.0
    c.in_err-judge_rows-2.ensures in
    search rules

pub returns-then-left-ne0 : goal.returns-then-left-ne0
returns-then-left-ne0 c =
    let a = c.args in
    cut_short a.pieces.now a.links.now c.in_ok-judge_rows.ensures c.in_ok-judge_rows-2.ensures
    (ne_eqb (length a.pieces.now % 4 + length a.links.now % 3) 0 (omega arith))

pub returns : goal.returns
returns c =
    let a = c.args in
    form_taken a.pieces.now a.links.now c.in_ok-judge_rows.ensures c.in_ok-judge_rows-2.ensures
    (eq-eqb (length a.pieces.now % 4 + length a.links.now % 3) 0 (omega arith))
