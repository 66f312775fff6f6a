-- `touches` meets its contract: it looks at the last stretch of the board, if there is one.
use Rattle.std.proofs.Common.{◌≡◌, ◌∙◌, refl, sym, eqb, false, arith}
use borrow.Author.Tests.{eq-eqb, ne_eqb}
use Rattle.rules.specs.Tables.{no_run}
use Rattle.blocksteps.proofs.Stored.{seen_last, touching_none}
use Rattle.blocksteps.proofs.board.touches.Goals as goal

pub returns-then-last-from : goal.returns-then-last-from
returns-then-last-from c =
    let a = c.args in
    let item = c.in-Some.ensures.item in
    sym (seen_last a.piece a.from a.runs.now c.in-Some.last.now item.3.0 (item.3.1 no_run)
    ∙ rw (eq-eqb _ _ c.if-last-from.true))

pub returns-else-last-from : goal.returns-else-last-from
returns-else-last-from c =
    let a = c.args in
    let item = c.in-Some.ensures.item in
    let x = c.in-Some.last.now in
    let late : eqb x.until a.from ≡ false = ne_eqb x.until a.from c.if-last-from.false in
    late ∙ sym (seen_last a.piece a.from a.runs.now x item.3.0 (item.3.1 no_run) ∙ rw late refl)

pub returns-in-None : goal.returns-in-None
returns-in-None c = let item = c.in-None.ensures.item in
    sym (touching_none c.args.piece c.args.from c.args.runs.now (omega (arith, item.3)))
