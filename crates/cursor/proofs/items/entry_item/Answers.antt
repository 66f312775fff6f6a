-- `entry_item` meets its contract: a fault is the refusal, and without one the record says what it holds.
use Rattle.std.proofs.Common.{sym, ap, ◌∙◌}
use Rattle.cursor.proofs.Judged.{stops, passes}
use Rattle.cursor.proofs.items.entry_item.Goals as goal

pub returns-in-Ok : goal.returns-in-Ok
returns-in-Ok g c J n m =
    passes _ _ _ _ (c.in-Ok.ensures.fault J n m)
    (c.into_record.ensures ∙ ap g.E.Entry.item c.in-Ok.ensures.said ∙ sym (g.met.E.Entry.holds c.args.r.now))

pub returns-in-Err : goal.returns-in-Err
returns-in-Err g c J n m = stops c.in-Err.fault _ _ _ (c.in-Err.ensures.fault J n m)
