-- `first_from` meets its contract: what is left to look at gives the whole answer.
use Rattle.std.proofs.Common.{◌≡◌, ◌-◌, ◌/◌, length}
use Rattle.rules.specs.DeskRuns.{first_from}
use Rattle.records.specs.Handed.{looked_for}
use Rattle.records.proofs.stretch.first_from.Given as goal

abbrev pub invariant-loop-k : goal.invariant-loop-k
invariant-loop-k l =
    let wanted = looked_for l.records l.desk l.wanted in
    first_from wanted (length l.records / 16 - l.k) l.k ≡ first_from wanted (length l.records / 16 - l.from) l.from
