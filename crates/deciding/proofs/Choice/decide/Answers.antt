-- `decide` finds the least key for each desk, names the pieces and looks at their ends: that is the whole decision.
use Rattle.std.specs.Prelude.{length}
use Rattle.std.proofs.Common.{sym, ◌∙◌, arith}
use Rattle.std.proofs.Math.ListN.{get_or-replicate}
use Rattle.rules.specs.Tables.{desks_of}
use Rattle.steps.specs.Choice.{View, view}
use Rattle.steps.specs.Keys.{no_key}
use Rattle.steps.specs.States.{left_of, ready_of}
use Rattle.deciding.proofs.Ends.{decided}
use Rattle.deciding.proofs.Choice.decide.Goals.{Start}
use Rattle.deciding.proofs.Choice.decide.Goals as goal

abbrev seen : Start → View
seen s =
    let a = s.args in
    view a.t (desks_of a.pieces.now) a.keys.now (left_of a.states.now) (ready_of a.states.now)

pub look_at-look-requires-clause-clear : goal.look_at-look-requires-clause-clear
look_at-look-requires-clause-clear c d h = get_or-replicate 32 d no_key 0 h

pub first_end-next-requires-clause-asked : goal.first_end-next-requires-clause-asked
first_end-next-requires-clause-asked c = (c.look_at-look.ensures (left_of c.args.states.now)).working

pub first_end-next-requires-clause-t_le_next : goal.first_end-next-requires-clause-t_le_next
first_end-next-requires-clause-t_le_next c =
    omega (arith, (c.look_at-look.ensures (left_of c.args.states.now)).later.above c.requires.in_time)

pub returns-then-next-clause-decided : goal.returns-then-next-clause-decided
returns-then-next-clause-decided c =
    decided (seen (goal.at.returns-then-next-clause-decided c).Start) (length c.args.pieces.now) c.args.opened.now
    c.requires.lookable _ _ _ _ _
    (c.look_at-look.ensures (left_of c.args.states.now)) (omega arith) _ _ c.first_end-next.ensures.pieces
    (sym c.if-next.true ∙ c.first_end-next.ensures.end)

pub returns-else-next-clause-decided : goal.returns-else-next-clause-decided
returns-else-next-clause-decided c =
    decided (seen (goal.at.returns-else-next-clause-decided c).Start) (length c.args.pieces.now) c.args.opened.now
    c.requires.lookable _ _ _ _ _
    (c.look_at-look.ensures (left_of c.args.states.now)) (omega arith) _ _ c.first_end-next.ensures.pieces
    c.first_end-next.ensures.end
