-- `spend_all` goes over the desks that work: each works on its piece, notes its run, and hands over what is finished.
use Rattle.std.specs.Prelude.{ℕ, ◌<◌, List, ◌≡◌, length, get_or}
use Rattle.std.proofs.Common.{refl, ap, ◌∙◌, arith}
use Rattle.std.proofs.lemmas.List.{get_or-take}
use Rattle.rules.specs.Tables.{afters_of, durations_of, starts_of, finishes_of}
use Rattle.handing.proofs.Passed.{hand_more}
use Rattle.handing.specs.Open.{tied, waiting_in}
use Rattle.moving.proofs.Noted.{note_more}
use Rattle.moving.proofs.Worked.{work_more}
use Rattle.steps.specs.Choice.{whom}
use Rattle.steps.specs.Handover.{hand_to}
use Rattle.steps.specs.Log.{log, note_to}
use Rattle.steps.specs.States.{left_of}
use Rattle.steps.specs.Work.{Work, work, forth, work_to}
use Rattle.spending.proofs.Later.{left_stays, hands_by, opens_by, worked_then, ready_then}
use Rattle.spending.proofs.Spent.{spent_none, spent_more, spent_room, spent_end}
use Rattle.spending.proofs.Standing.spend_all.Goals.{In-loop-d, Start, After-hand_on}
use Rattle.spending.proofs.Standing.spend_all.Goals as goal

-- The tables as they are lent, and the slots that are left in the end.
abbrev begun : Start → Work
begun s = let a = s.args in work (left_of a.self.now.states) (starts_of a.spans.now) (finishes_of a.spans.now)

abbrev done : Start → List ℕ
done s =
    let a = s.args in
    (work_to (durations_of a.job.now.pieces.now) a.t a.next a.choice.now.chosen a.choice.now.busy a.choice.now.count
    (begun s)).left

pub loop-d-init : goal.loop-d-init
unfolding work_to note_to hand_to
loop-d-init c =
    let a = c.args in
    let o = a.self.now.opened in record {
      worked = refl;
      noted = refl;
      handed = refl;
      spent = spent_none (length a.job.now.links.now) (afters_of a.job.now.links.now) a.choice.now.count
          a.choice.now.chosen a.choice.now.busy (done (goal.at.loop-d-init c).Start) o.count o.table o.place o.waits
          c.requires.working;
    }

pub hand_on-requires-clause-one : goal.hand_on-requires-clause-one
hand_on-requires-clause-one c =
    let l = c.loop-d in
    let here : l.d-index < c.args.choice.now.count = omega (arith, c.loop-d-test.true) in
    let is : c.from-i.result ≡ whom c.args.choice.now.chosen c.args.choice.now.busy l.d-index =
    c.from-i.ensures
    ∙ ap (λ d. get_or c.args.choice.now.chosen d 0)
    (c.from-desk.ensures ∙ get_or-take c.args.choice.now.count c.args.choice.now.busy l.d-index 0 here) in
    (rw is (l.invariant.spent.pending l.d-index (omega arith) here), c.requires.small)

pub hand_on-requires-clause-room : goal.hand_on-requires-clause-room
hand_on-requires-clause-room c =
    let a = c.args in
    let l = c.loop-d in
    let o = a.self.now.opened in
    let p = l.self.opened in
    spent_room (length a.job.now.links.now) (afters_of a.job.now.links.now) a.choice.now.count a.choice.now.chosen
    a.choice.now.busy (done (goal.at.hand_on-requires-clause-room c).Start) o.count o.table o.place o.waits l.d-index
    p.count p.table p.place p.waits l.invariant.spent c.requires.room

pub loop-d-preserved : goal.loop-d-preserved
loop-d-preserved c =
    let start = (goal.at.loop-d-preserved c).Start in
    let a = c.args in
    let l = c.loop-d in
    let here : l.d-index < a.choice.now.count = omega (arith, c.loop-d-test.true) in
    let o = a.self.now.opened in
    let j = a.job.now in
    let chosen = a.choice.now.chosen in
    let busy = a.choice.now.busy in
    let m = length j.links.now in
    let i = whom chosen busy l.d-index in
    let desk : c.from-desk.result ≡ get_or busy l.d-index 0 =
    c.from-desk.ensures ∙ get_or-take a.choice.now.count busy l.d-index 0 here in
    let is : c.from-i.result ≡ i = c.from-i.ensures ∙ ap (λ d. get_or chosen d 0) desk in
    let durations = durations_of j.pieces.now in
    let before = work (left_of l.self.states) (starts_of l.spans) (finishes_of l.spans) in
    let only = c.hand_on.ensures.only in
    let made = worked_then j.pieces.now a.t a.next c.from-i.result l.self.states c.hand_on.new.states l.spans _ _
    c.work_on.ensures.state_after c.work_on.ensures.span_after only in
    let spent = work_more durations a.t a.next chosen busy l.d-index (begun start) before _ l.invariant.worked
    (made ∙ ap (λ k. forth durations a.t a.next k before) is) in
    let rest : get_or (left_of c.hand_on.new.states) i 0 ≡ get_or (done start) i 0 =
    ap (λ (v : Work). get_or v.left i 0) spent
    ∙ left_stays durations a.t a.next a.choice.now.count chosen busy o.count o.table c.requires.working (begun start)
    l.d-index here in
    let ready = ready_then j.pieces.now a.t a.next c.from-i.result l.self.states c.hand_on.new.states l.spans _ _
    c.work_on.ensures.state_after c.work_on.ensures.span_after only in
    let handed = rw (ready, ← only.left_stays, is) at c.hand_on.ensures.ready_after in
    let hands = rw (← only.left_stays, is) at c.hand_on.ensures.hands in
    record {
      worked = spent;
      noted = note_more a.t a.next chosen busy l.d-index (log a.runs.now.items a.self.now.lasts.places)
          (log l.runs.items l.self.lasts.places) _ l.invariant.noted (rw desk at c.note.ensures);
      handed = hand_more (tied j) m a.next (done start) chosen busy l.d-index (waiting_in o a.self.now.states)
          (waiting_in l.self.opened l.self.states) _ l.invariant.handed
          (handed ∙ hands_by (tied j) m a.next _ (done start) i (waiting_in l.self.opened l.self.states) rest);
      spent = spent_more m (afters_of j.links.now) a.choice.now.count chosen busy (done start) o.count o.table o.place
          o.waits c.requires.working l.d-index l.self.opened.count l.self.opened.table l.self.opened.place
          l.self.opened.waits here l.invariant.spent _ _ _ _
          (opens_by m (afters_of j.links.now) i _ (done start) _ _ _ _ _ _ _ _ rest hands);
    }

pub returns-clause-opened_after : goal.returns-clause-opened_after
returns-clause-opened_after c =
    let l = c.loop-d in
    let start = (goal.at.returns-clause-opened_after c).Start in
    let e : l.d-index ≡ c.args.choice.now.count = omega arith in
    let worked : work (left_of l.self.states) (starts_of l.spans) (finishes_of l.spans) ≡ work_to _ _ _ _ _ _ (begun start) =
    rw e at l.invariant.worked in
    let rest : left_of l.self.states ≡ done start = ap (λ (v : Work). v.left) worked in
    spent_end _ _ _ _ _ (done start) _ _ _ _ _ _ _ _ _ _ e rest l.invariant.spent
