-- `block_sheet` meets its promise: a refused file is answered as refused, an accepted one gets its sheet.
use Rattle.std.proofs.Common.{rules, ◌≡◌, Err}
use Rattle.sheet_answer.proofs.Promised.{sheet_refused}
use Rattle.sheets.proofs.sheet.block_sheet.Goals as goal

pub returns-in_err-judge_file : goal.returns-in_err-judge_file
returns-in_err-judge_file c =
    let told : c.from_residual.result ≡ Err c.in_err-judge_file.field-0.0 = search rules in
    rw told (sheet_refused c.args.file.now c.args.desk c.args.buffer.now _ c.in_err-judge_file.ensures.outcome)

pub sheet_accepted-requires : goal.sheet_accepted-requires
sheet_accepted-requires c =
    let told = c.in_ok-judge_file.ensures in
    rw (c.deref.ensures.0, c.deref-2.ensures.0)
    (record { walkable = told.walkable; some_file = (c.args.file.now, told.outcome) })

pub returns : goal.returns
returns c =
    c.sheet_accepted.ensures c.args.file.now (rw (c.deref.ensures.0, c.deref-2.ensures.0) c.in_ok-judge_file.ensures.outcome)
