-- `pass` stores what one link lets go: one wait less, and the greater of two ready moments; and where it was the last
-- wait, the piece behind the open ones.
use Rattle.std.specs.Prelude.{ℕ, ◌<◌, ◌≡◌, get_or}
use Rattle.std.proofs.Common.{sym, ◌∙◌, arith}
use Rattle.rules.specs.Tables.{befores_of, afters_of}
use Rattle.laws.proofs.Columns.{get_or-befores, get_or-afters}
use Rattle.handing.specs.declared.job.Job.{Job}
use Rattle.handing.proofs.Passed.{link_passed, ready_alone}
use Rattle.handing.proofs.Opened.{link_waits, link_opens, room_left}
use Rattle.handing.proofs.open.Open.pass.Goals.{After-from-a, Then-opens}
use Rattle.handing.proofs.open.Open.pass.Goals as goal

-- The pieces before and after the link.
abbrev job : After-from-a → Job
job c = c.args.job.now

abbrev target : After-from-a → ℕ
target c = get_or (afters_of (job c).links.now) c.args.k 0

before : (c : After-from-a) → c.from-b.result ≡ get_or (befores_of (job c).links.now) c.args.k 0
before c = c.from-b.ensures ∙ sym (get_or-befores (job c).links.now c.args.k)

after : (c : After-from-a) → c.from-a.result ≡ target c
after c = c.from-a.ensures ∙ sym (get_or-afters (job c).links.now c.args.k)

after_few : (c : After-from-a) → c.from-a.result < 256
after_few c =
    let b = c.requires.linked.between in omega (arith, after c, b.after_one c.args.k c.requires.one.0, b.few_pieces)

pub bounds-job-b : goal.bounds-job-b
bounds-job-b c =
    rw (before (goal.at.bounds-job-b c).After-from-a) (c.requires.linked.between.before_one c.args.k c.requires.one.0)

pub bounds-job-a : goal.bounds-job-a
bounds-job-a c =
    rw (after (goal.at.bounds-job-a c).After-from-a) (c.requires.linked.between.after_one c.args.k c.requires.one.0)

pub bounds-states-a : goal.bounds-states-a
bounds-states-a c = after_few (goal.at.bounds-states-a c).After-from-a

pub bounds-states-a-2 : goal.bounds-states-a-2
bounds-states-a-2 c = after_few (goal.at.bounds-states-a-2 c).After-from-a

pub bounds-self-a : goal.bounds-self-a
bounds-self-a c = after_few (goal.at.bounds-self-a c).After-from-a

pub bounds-self-a-2 : goal.bounds-self-a-2
bounds-self-a-2 c = after_few (goal.at.bounds-self-a-2 c).After-from-a

-- There is a place behind the open pieces for one that waited for this link last.
place_in : (c : Then-opens) → c.args.self.now.count < 256
place_in c =
    let o = c.args.self.now in
    let e : c.from-a.result ≡ get_or (afters_of c.args.job.now.links.now) c.args.k 0 =
    c.from-a.ensures ∙ sym (get_or-afters c.args.job.now.links.now c.args.k) in
    room_left c.args.k o.count _ o.table o.place o.waits c.from-a.result c.saturating_sub.result e c.saturating_sub.ensures
    c.requires.room c.if-opens.true

pub bounds-self-self : goal.bounds-self-self
bounds-self-self c = place_in (goal.at.bounds-self-self c).Then-opens

pub overflow_cast-self-then-opens : goal.overflow_cast-self-then-opens
overflow_cast-self-then-opens c = omega (arith, place_in (goal.at.overflow_cast-self-then-opens c).Then-opens)

pub returns-then-opens-clause-ready_after : goal.returns-then-opens-clause-ready_after
returns-then-opens-clause-ready_after c =
    link_passed c.args.job.now c.args.k c.args.c c.args.self.now.waits c.args.states.now _ _ _ _ _ _ c.from-a.ensures
    c.from-b.ensures c.from.ensures c.delay-delay.ensures.0 c.saturating_sub.ensures c.max.ensures

pub returns-then-opens-clause-only : goal.returns-then-opens-clause-only
returns-then-opens-clause-only c =
    ready_alone c.args.job.now c.args.k c.args.c c.args.self.now.waits c.args.states.now _ _

pub returns-then-opens-clause-opens : goal.returns-then-opens-clause-opens
returns-then-opens-clause-opens c =
    let o = c.args.self.now in
    link_opens c.args.k o.count _ o.table o.place o.waits c.from-a.result c.saturating_sub.result
    (after (goal.at.returns-then-opens-clause-opens c).After-from-a) c.saturating_sub.ensures c.requires.room c.if-opens.true

pub returns-else-opens-clause-ready_after : goal.returns-else-opens-clause-ready_after
returns-else-opens-clause-ready_after c =
    link_passed c.args.job.now c.args.k c.args.c c.args.self.now.waits c.args.states.now _ _ _ _ _ _ c.from-a.ensures
    c.from-b.ensures c.from.ensures c.delay-delay.ensures.0 c.saturating_sub.ensures c.max.ensures

pub returns-else-opens-clause-only : goal.returns-else-opens-clause-only
returns-else-opens-clause-only c =
    ready_alone c.args.job.now c.args.k c.args.c c.args.self.now.waits c.args.states.now _ _

pub returns-else-opens-clause-opens : goal.returns-else-opens-clause-opens
returns-else-opens-clause-opens c =
    let o = c.args.self.now in
    link_waits c.args.k o.count _ o.table o.place o.waits c.from-a.result c.saturating_sub.result
    (after (goal.at.returns-else-opens-clause-opens c).After-from-a) c.saturating_sub.ensures c.if-opens.false
