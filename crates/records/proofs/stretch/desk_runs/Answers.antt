-- `desk_runs` meets its contract: the part between the two ends of the stretch.
use mathlib.Core.Path.{refl}
use native.Mathlib.Omega.{arith}
use Rattle.rules.specs.DeskRuns.{stretch}
use Rattle.records.proofs.stretch.desk_runs.Goals as goal

pub returns : goal.returns
unfolding stretch
returns c =
    let a = c.args in
    let b = c.stretch_of-from.ensures in
    record {
      bytes = rw (b.begins, b.ends);
      block = refl;
      place = rw (← b.begins) (omega arith);
    }
