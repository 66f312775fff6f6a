-- `spend_all` goes over the desks that work. The loop's invariant: the tables are what the first q of them make of them, and
-- the table has the open pieces; what is handed over is told by the slots that are left in the end.
use Rattle.std.specs.Prelude.{◌≡◌, length}
use Rattle.rules.specs.Tables.{afters_of, durations_of, starts_of, finishes_of}
use Rattle.handing.specs.Open.{tied, waiting_in}
use Rattle.steps.specs.Handover.{hand_to}
use Rattle.steps.specs.Log.{log, note_to}
use Rattle.steps.specs.States.{left_of}
use Rattle.steps.specs.Work.{work, work_to}
use Rattle.spending.proofs.Spent.{Spent}
use Rattle.spending.proofs.Standing.spend_all.Given as goal

abbrev pub invariant-loop-d : goal.invariant-loop-d
invariant-loop-d l =
    let chosen = l.choice.chosen in
    let busy = l.choice.busy in
    let was = l.initial.self in
    let m = length l.job.links.now in
    let begun = work (left_of was.states) (starts_of l.initial.spans) (finishes_of l.initial.spans) in
    let done = (work_to (durations_of l.job.pieces.now) l.t l.next chosen busy l.choice.count begun).left in record {
      worked : work (left_of l.self.states) (starts_of l.spans) (finishes_of l.spans)
          ≡ work_to (durations_of l.job.pieces.now) l.t l.next chosen busy l.d-index begun;
      noted : log l.runs.items l.self.lasts.places
          ≡ note_to l.t l.next chosen busy l.d-index (log l.initial.runs.items was.lasts.places);
      handed : waiting_in l.self.opened l.self.states
          ≡ hand_to (tied l.job) m l.next done chosen busy l.d-index (waiting_in was.opened was.states);
      spent : Spent m (afters_of l.job.links.now) l.choice.count chosen busy done was.opened.count was.opened.table
          was.opened.place was.opened.waits l.d-index l.self.opened.count l.self.opened.table l.self.opened.place
          l.self.opened.waits;
    }
