-- `is_run_of` meets its contract: the two bytes are looked at one after the other.
use Rattle.std.proofs.Common.{◌∙◌, sym}
use borrow.Author.Tests.{ne_eqb, eq-eqb}
use Rattle.rules.specs.DeskRuns.{is_run_of}
use Rattle.records.proofs.stretch.is_run_of.Goals as goal

pub returns-then-records-at : goal.returns-then-records-at
unfolding is_run_of
returns-then-records-at c = rw (eq-eqb _ 18 (c.if-records-at.true ∙ c.from.ensures))

pub returns-else-records-at : goal.returns-else-records-at
unfolding is_run_of
returns-else-records-at c = rw (c.from.ensures, ne_eqb _ 18 (λ e. c.if-records-at.false (e ∙ sym c.from.ensures)))
