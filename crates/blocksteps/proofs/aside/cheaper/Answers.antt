-- `cheaper` meets its contract, way by way.
use Rattle.std.proofs.Common.{sym}
use Rattle.rules.specs.Blocks.{cheaper}
use Rattle.laws.proofs.Words.{when_true, when_false}
use Rattle.entries.specs.Lent.{meant}
use Rattle.blocksteps.proofs.aside.cheaper.Goals as goal

pub returns-in_default : goal.returns-in_default
unfolding cheaper
returns-in_default c = rw c.in_default.is

pub returns-then-costs_less : goal.returns-then-costs_less
unfolding cheaper
returns-then-costs_less c = rw c.in-Some.is (sym (when_true _ _ (meant c.args.entry.now) (sym c.if-costs_less.ensures)))

pub returns-else-costs_less : goal.returns-else-costs_less
unfolding cheaper
returns-else-costs_less c =
    rw c.in-Some.is (sym (when_false _ (meant c.in-Some.best.now) _ (sym c.if-costs_less.ensures)))
