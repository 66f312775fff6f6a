-- The plan meets its contract: what is left here is to hand the callees' contracts over.
use Rattle.std.specs.Prelude.{ℕ, List, length, None}
use Rattle.std.proofs.Common.{refl, arith}
use Rattle.std.proofs.Math.ListN.{get_or-replicate}
use Rattle.rules.specs.Tables.{job_of}
use Rattle.handing.proofs.Opened.{opened_few}
use Rattle.steps.specs.Choice.{never}
use Rattle.steps.specs.Opening.{unfinished}
use Rattle.steps.specs.States.{left_of}
use Rattle.urgency.specs.Plan.{Ranked}
use Rattle.urgency.proofs.Planned.{few, between, before_first, in_time, lookable, all_unfinished}
use Rattle.urgency.proofs.Planned.{Turn, turn}
use Rattle.urgency.proofs.Ranking.{given_near, given_ranked}
use Rattle.urgency.proofs.plan.Goals.{After-begin, In-Some}
use Rattle.urgency.proofs.plan.Goals as goal

-- The keys, and what the contract says of the job with them.
abbrev keys : After-begin → List ℕ
keys c = c.begin.new.keys

ranked : (c : After-begin) → Ranked (job_of c.args.pieces.now c.args.links.now) (length c.args.pieces.now) (keys c)
ranked c =
    given_ranked c.args.pieces.now c.args.links.now c.args.latests.now c.requires.given (keys c) c.begin.ensures.keyed

pub begin-requires-clause-near : goal.begin-requires-clause-near
begin-requires-clause-near c = given_near c.args.pieces.now c.args.links.now c.args.latests.now c.requires.given

pub begin-requires-2-clause-clear : goal.begin-requires-2-clause-clear
begin-requires-2-clause-clear c =
    let start = (goal.at.begin-requires-2-clause-clear c).After-begin in
    let b = between c.args.pieces.now c.args.links.now (keys start) (ranked start) in
    rw c.new-standing.ensures.opened (record {
      few = b.few_links;
      small = λ k h. omega (arith, b.after_one k h, b.few_pieces);
      cleared = λ i h. get_or-replicate 256 i 0 0 h;
    })

pub loop-next-init : goal.loop-next-init
loop-next-init c =
    let start = (goal.at.loop-next-init c).After-begin in
    let ps = c.args.pieces.now in
    let ls = c.args.links.now in
    let g = ranked start in
    record {
      held = before_first ps ls (keys start) g
          (record { states = c.begin.new.states; opened = c.begin-2.new.self; lasts = c.new-standing.result.lasts })
          c.begin.new.spans c.clear.new.self.items c.begin.ensures.begun c.begin-2.ensures.waits.sized
          c.begin-2.ensures.waits.counts (rw c.new-standing.ensures.lasts refl)
          (λ d h. rw c.new-standing.ensures.lasts (get_or-replicate 32 d None None h)) c.clear.ensures;
      opening = c.begin-2.ensures.open_first (unfinished (left_of c.begin.new.states))
          (all_unfinished ps ls (keys start) g _ _ _ _ c.begin.ensures.begun);
    }

pub pieces-requires : goal.pieces-requires
pieces-requires c =
    let start = (goal.at.pieces-requires c).After-begin in
    let o = c.loop-next.standing.opened in
    omega (
      arith,
      few c.args.pieces.now c.args.links.now (keys start) (ranked start),
      opened_few (length c.args.pieces.now) o.count o.table o.place (unfinished (left_of c.loop-next.standing.states)) o.waits
          c.loop-next.invariant.opening,
    )

pub decide-requires-clause-lookable : goal.decide-requires-clause-lookable
decide-requires-clause-lookable c =
    let start = (goal.at.decide-requires-clause-lookable c).After-begin in
    let o = c.loop-next.standing.opened in
    lookable c.args.pieces.now c.args.links.now (keys start) (ranked start) o.count o.table o.place
    (unfinished (left_of c.loop-next.standing.states)) o.waits
    c.pieces.result.now c.loop-next.invariant.opening c.pieces.ensures

pub decide-requires-clause-in_time : goal.decide-requires-clause-in_time
decide-requires-clause-in_time c =
    let start = (goal.at.decide-requires-clause-in_time c).After-begin in
    in_time c.args.pieces.now c.args.links.now (keys start) (ranked start) c.loop-next.t _ _ _ c.loop-next.invariant.held

pub spend_all-requires-clause-linked : goal.spend_all-requires-clause-linked
spend_all-requires-clause-linked c =
    let start = (goal.at.spend_all-requires-clause-linked c).After-begin in
    record {
      between = between c.args.pieces.now c.args.links.now (keys start) (ranked start);
      chained = c.requires.chained;
    }

-- What the decision says.
module _ (c : In-Some) where
  abbrev chosen : List ℕ
  chosen = c.decide.new.self.chosen

  abbrev busy : List ℕ
  busy = c.decide.new.self.busy

  said : (g : Ranked (job_of c.args.pieces.now c.args.links.now) (length c.args.pieces.now) c.begin.new.keys)
      → Turn c.args.pieces.now c.args.links.now c.begin.new.keys c.loop-next.t c.loop-next.standing
      c.loop-next.spans c.loop-next.runs.items c.decide.new.self.count chosen busy c.in-Some.next
  said g =
      let l = c.loop-next in
      turn c.args.pieces.now c.args.links.now c.begin.new.keys g l.t l.standing l.spans l.runs.items l.invariant
      c.pieces.result.now c.pieces.ensures c.decide.new.self.count chosen busy c.in-Some.next c.in-Some.ensures.decided

pub spend_all-requires-clause-small : goal.spend_all-requires-clause-small
spend_all-requires-clause-small c =
    let w = goal.at.spend_all-requires-clause-small c in
    omega (arith, (said w.In-Some (ranked w.After-begin)).small c.in-Some.ensures.later)

pub spend_all-requires-clause-busy : goal.spend_all-requires-clause-busy
spend_all-requires-clause-busy c = c.in-Some.ensures.decided.looked_at.working

pub spend_all-requires-clause-inside : goal.spend_all-requires-clause-inside
spend_all-requires-clause-inside c =
    let w = goal.at.spend_all-requires-clause-inside c in (said w.In-Some (ranked w.After-begin)).inside

pub spend_all-requires-clause-working : goal.spend_all-requires-clause-working
spend_all-requires-clause-working c =
    let w = goal.at.spend_all-requires-clause-working c in (said w.In-Some (ranked w.After-begin)).working

pub spend_all-requires-clause-room : goal.spend_all-requires-clause-room
spend_all-requires-clause-room c =
    let start = (goal.at.spend_all-requires-clause-room c).After-begin in
    let ps = c.args.pieces.now in
    let ls = c.args.links.now in
    record {
      pieces = length ps;
      among = unfinished (left_of c.loop-next.standing.states);
      few = few ps ls (keys start) (ranked start);
      after_one = (between ps ls (keys start) (ranked start)).after_one;
      opening = c.loop-next.invariant.opening;
    }

pub loop-next-smaller : goal.loop-next-smaller
loop-next-smaller c =
    let w = goal.at.loop-next-smaller c in
    let m = said w.In-Some (ranked w.After-begin) in
    omega (arith, m.ahead, m.within c.in-Some.ensures.later)

pub loop-next-preserved : goal.loop-next-preserved
loop-next-preserved c =
    let w = goal.at.loop-next-preserved c in
    let g = ranked w.After-begin in
    let ps = c.args.pieces.now in
    let ls = c.args.links.now in
    let moved = c.spend_all.ensures in
    (said w.In-Some g).goes_on c.in-Some.ensures.later c.spend_all.new.self c.spend_all.new.spans
    c.spend_all.new.runs.items moved.work_after moved.log_after moved.ready_after
    (moved.opened_after (length ps) (unfinished (left_of c.loop-next.standing.states))
    (few ps ls (keys w.After-begin) g) (between ps ls (keys w.After-begin) g).after_one c.loop-next.invariant.opening)

pub returns : goal.returns
returns c =
    let start = (goal.at.returns c).After-begin in
    let l = c.loop-next in
    (turn c.args.pieces.now c.args.links.now (keys start) (ranked start) l.t l.standing l.spans l.runs.items l.invariant
    c.pieces.result.now c.pieces.ensures c.decide.new.self.count c.decide.new.self.chosen c.decide.new.self.busy
    never c.in_default.ensures.decided).ends refl
