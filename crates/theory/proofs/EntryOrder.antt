-- The order of the block method's entries, where the sooner of two is the one that costs more at a block's end, is an
-- order of urgency.
use Rattle.laws.proofs.Words.{true_or_false}
use Rattle.laws.proofs.Order as O
use Rattle.theory.proofs.Order.{Urgency}
use mathlib.Core.Path.{sym, ◌∙◌}

pub entry_urgency : Urgency O.number O.urgent
entry_urgency = record {
  asym = λ a b h k. true_or_false (sym k ∙ O.urgent_asym a b h);
  trans = O.urgent_trans;
  total = O.urgent_total;
}
