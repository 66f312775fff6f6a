-- `hand_on` passes on what piece i lets go. Each return is one of the ways: it is unfinished, or it is closed and its links
-- are looked at.
use Rattle.std.specs.Prelude.{length, get_or}
use Rattle.std.proofs.Common.{◌∙◌}
use borrow.Author.Tests.{lt-ltb, le-ltb}
use Rattle.rules.specs.Tables.{afters_of}
use Rattle.steps.specs.States.{left_of}
use Rattle.steps.proofs.States.{get_or-left}
use Rattle.handing.specs.Open.{tied, waiting_in}
use Rattle.handing.proofs.Closed.{still_open, closed_room}
use Rattle.handing.proofs.Passed.{unfinished_hands, finished_hands}
use Rattle.handing.proofs.open.Open.hand_on.Goals.{Start}
use Rattle.handing.proofs.open.Open.hand_on.Goals as goal

pub returns-then-unfinished-clause-ready_after : goal.returns-then-unfinished-clause-ready_after
returns-then-unfinished-clause-ready_after c =
    unfinished_hands (tied c.args.job.now) (length c.args.job.now.links.now) c.args.c (left_of c.args.states.now) c.args.i
    (waiting_in c.args.self.now c.args.states.now)
    (rw (get_or-left c.args.states.now c.args.i) c.if-unfinished.true)

pub returns-then-unfinished-clause-hands : goal.returns-then-unfinished-clause-hands
returns-then-unfinished-clause-hands c =
    let o = c.args.self.now in
    let unfinished = rw (← (get_or-left c.args.states.now c.args.i)) at c.if-unfinished.true in
    record {
      opening = λ n U U' few one same is p.
          still_open n c.args.i o.count o.table o.place U U' o.waits c.requires.one.0 same
          (is ∙ lt-ltb 0 (get_or (left_of c.args.states.now) c.args.i 0) unfinished) p;
      stays = λ j m ne. m;
    }

pub pass_on-requires-clause-room : goal.pass_on-requires-clause-room
pass_on-requires-clause-room c =
    let o = c.args.self.now in
    rw c.close.ensures.waits
    (closed_room (length c.args.job.now.links.now) (afters_of c.args.job.now.links.now) c.args.i o.count _ o.table o.place
    o.waits _ _ c.close.ensures.closes c.requires.room)

pub returns-clause-ready_after : goal.returns-clause-ready_after
returns-clause-ready_after c =
    let finished = rw (← (get_or-left c.args.states.now c.args.i)) at c.if-unfinished.false in
    finished_hands (tied c.args.job.now) (length c.args.job.now.links.now) c.args.c (left_of c.args.states.now) c.args.i
    (waiting_in c.args.self.now c.args.states.now) _ finished (rw c.close.ensures.waits at c.pass_on.ensures.ready_after)

pub returns-clause-hands : goal.returns-clause-hands
returns-clause-hands c =
    let a = c.args in
    let after = rw c.close.ensures.waits at c.pass_on.ensures.opens in
    let finished = rw (← (get_or-left a.states.now a.i)) at c.if-unfinished.false in
    record {
      opening = λ n U U' few one same is w.
          after.opening n U' few one (c.close.ensures.closes.opening n U U' a.self.now.waits few same
          (is ∙ le-ltb 0 (get_or (left_of a.states.now) a.i 0) finished) w);
      stays = λ j m ne. after.stays j (c.close.ensures.closes.stays j m ne);
    }
