-- `cheapest` meets its contract: the best of the entries behind is known, and with those in front it is the best of all.
use Rattle.std.proofs.Common.{ℕ, Bool}
use Rattle.std.specs.Option.{option_copied}
use Rattle.blocksteps.specs.Aside.{Marks, led_mark}
use Rattle.blocksteps.proofs.Chosen.{Front, BestOnto}
use Rattle.blocksteps.proofs.aside.cheapest.Given as goal

abbrev pub invariant-loop-entry : goal.invariant-loop-entry
invariant-loop-entry l =
    Front l.entry-iterator.iter.rest.now l.entries
    × ((follows : ℕ → ℕ → Bool) → Marks l.marks (led_mark follows l.entries)
    → BestOnto follows l.entries l.entry-iterator.iter.rest.now (option_copied l.best))
