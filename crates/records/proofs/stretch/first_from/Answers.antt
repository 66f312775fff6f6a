-- `first_from` meets its contract: what is left to look at gives the whole answer.
use Rattle.std.proofs.Common.{◌≡◌, ◌/◌, sym, ◌∙◌, arith, length}
use Rattle.records.specs.Handed.{looked_for}
use Rattle.records.proofs.FirstFrom.{first_here, first_later, first_nowhere, looked_is}
use Rattle.records.proofs.stretch.first_from.Goals as goal

pub returns-then-is_run_of-wanted : goal.returns-then-is_run_of-wanted
returns-then-is_run_of-wanted c =
    let a = c.args in
    let found = looked_is a.records.now a.desk a.wanted c.loop-k.k c.is_run_of.ensures c.if-is_run_of-wanted.true in
    record {
      is = sym (first_here (looked_for a.records.now a.desk a.wanted) (length a.records.now / 16) c.loop-k.k (omega arith) found)
          ∙ c.loop-k.invariant;
      not_before = omega arith;
      within = omega arith;
    }

pub loop-k-preserved : goal.loop-k-preserved
loop-k-preserved c =
    let a = c.args in
    let passed = looked_is a.records.now a.desk a.wanted c.loop-k.k c.is_run_of.ensures c.if-is_run_of-wanted.false in
    first_later (looked_for a.records.now a.desk a.wanted) (length a.records.now / 16) c.loop-k.k (omega arith) passed
    ∙ c.loop-k.invariant

pub returns : goal.returns
returns c =
    let ending : length c.args.records.now / 16 ≡ c.loop-k.k = omega arith in
    record {
      is = ending ∙ sym (first_nowhere _ (length c.args.records.now / 16) c.loop-k.k (omega arith)) ∙ c.loop-k.invariant;
      not_before = omega arith;
      within = omega arith;
    }
