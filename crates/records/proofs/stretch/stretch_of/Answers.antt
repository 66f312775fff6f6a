-- `stretch_of` meets its contract: the stretch begins at the first run, or there is none.
use Prim.Native.Nat.{◌*◌}
use mathlib.Core.Path.{sym, ap, ◌∙◌}
use native.Mathlib.Omega.{arith}
use Rattle.records.proofs.StretchLaws.{first_is, past_is, found_from, found_end, nothing_from, nothing_end}
use Rattle.records.proofs.stretch.stretch_of.Goals as goal

pub returns-then-first-records : goal.returns-then-first-records
returns-then-first-records c =
    let a = c.args in
    let k = c.first_from-first.result in
    let found = first_is a.records.now a.desk k c.first_from-first.ensures in
    let past = c.first_from-past.ensures in
    record {
      begins = sym (found_from a.records.now a.desk k found (omega arith));
      ends = ap (λ x. 16 * x) (past_is a.records.now a.desk k _ past) ∙ sym (found_end a.records.now a.desk k found (omega arith));
      in_order = omega (arith, past.not_before);
      within = omega (arith, past.within);
    }

pub returns : goal.returns
returns c =
    let a = c.args in
    let k = c.first_from-first.result in
    let found = first_is a.records.now a.desk k c.first_from-first.ensures in
    record {
      begins = sym (nothing_from a.records.now a.desk k found (omega arith));
      ends = sym (nothing_end a.records.now a.desk k found (omega arith));
      in_order = omega arith;
      within = omega arith;
    }
