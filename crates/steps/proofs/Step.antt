-- One step over all tables: where they hold the plan at moment t, they hold it at the next moment after the step, and
-- where there is no next moment the plan is finished.
use Prim.Native.Nat.{ℕ, ◌+◌, ◌-◌, ◌≤◌, ◌<◌}
use mathlib.Core.List.{List}
use mathlib.Core.Option.{none}
use mathlib.Core.Path.{◌≡◌, sym, ◌∙◌}
use native.Mathlib.Omega.{arith}
use borrow.Author.Tests.{ltb-true, lt-ltb}
use lib.ListN.{get_or}
use Rattle.rules.specs.Job.{Job, desk}
use Rattle.rules.specs.Rings.{ring_piece}
use Rattle.rules.specs.Tables.{Sound}
use Rattle.rules.specs.Urgency.{horizon}
use Rattle.laws.proofs.Finishing.{horizon_most}
use Rattle.laws.proofs.Latest.{latest_near}
use Rattle.laws.proofs.Sound.{fits}
use Rattle.slots.specs.Stretch.{at, Stretch}
use Rattle.slots.proofs.Ended.{Ended}
use Rattle.steps.specs.Choice.{View, view, Decided, never}
use Rattle.steps.specs.Opening.{Among, unfinished, Opening}
use Rattle.steps.specs.Handover.{Ties, ties, Waiting, hand_to}
use Rattle.steps.specs.Log.{Log, note_to}
use Rattle.steps.specs.Tables.{Tables, Listed}
use Rattle.steps.specs.Work.{Work, work_to}
use Rattle.steps.proofs.Decision.{Shown}
use Rattle.steps.proofs.LinkStep.{WaitHeld, hand_step}
use Rattle.steps.proofs.LogHeld.{LogHeld}
use Rattle.steps.proofs.LogStep.{note_step}
use Rattle.steps.proofs.Moved.{Desks}
use Rattle.steps.proofs.NextMoment.{desks, next_ahead, next_most, quiet_until, no_next, next_within}
use Rattle.steps.proofs.WorkStep.{WorkHeld, work_step}

-- The tables hold the plan at moment t.
pub record Held (J : Job) (n : ℕ) (desks : List ℕ) (t : ℕ) (w : Work) (s : Waiting) (l : Log) : Type 0 where
  pub in_time : t ≤ horizon J
  pub working : WorkHeld n (at J t) w
  pub waiting : WaitHeld J n (at J t) s
  pub logging : LogHeld J n desks (λ d. t) l

module _ (J : Job) (sound : Sound J) (free : ring_piece J ≡ none) (T : Tables) (L : Listed J T) where
  pub few_pieces : T.pieces ≤ 256
  few_pieces = rw L.count at sound.few_pieces

  pub few_desks : (i : ℕ) → i < T.pieces → desk J i < 32
  few_desks i h = omega (arith, (fits J sound i (rw L.count h)).desk_most)

  module _ (t : ℕ) (w : Work) (s : Waiting) (l : Log) (h : Held J T.pieces T.desks t w s l) (opened : ℕ)
      (table place : List ℕ) (o : Opening T.pieces opened table place (unfinished w.left) s.waits) where
    abbrev seen : View
    seen = view t T.desks T.keys w.left s.ready

    abbrev open_piece : ℕ → Type 0
    open_piece = Among table opened

    before_never : t < never
    before_never = omega (arith, h.in_time, horizon_most J sound free)

    -- The open pieces are the unfinished ones that wait for none.
    open_inside : (i : ℕ) → open_piece i → i < T.pieces
    open_inside i m = rw m.2 at (o.inside m.0 m.1)

    shown : Shown J T.pieces seen open_piece
    shown = record {
      count = L.count;
      few = few_pieces;
      desk_is = L.desk_is;
      desk_most = λ i b. rw (L.desk_is i b) at (few_desks i b);
      key_is = L.key_is;
      not_far = λ i b. omega (arith, (latest_near J sound free i (rw L.count b)).dn_most);
      left_is = h.working.left_is;
      ready_is = h.waiting.ready_is;
      inside = open_inside;
      unfinished = λ i m. rw (h.working.left_is i (open_inside i m)) at
          (ltb-true 0 (get_or w.left i 0) (rw m.2 at (o.fresh m.0 m.1)));
      idle = λ i m. sym (h.waiting.waits_is i (open_inside i m)) ∙ rw m.2 at (o.idle m.0 m.1);
      everyone = λ i b u z. o.everyone i b (h.waiting.waits_is i b ∙ z)
          (lt-ltb 0 (get_or w.left i 0) (rw (h.working.left_is i b) u));
    }

    module _ (count : ℕ) (chosen busy : List ℕ) (next : ℕ) (decided : Decided seen open_piece count chosen busy next) where
      pub ahead : t < next
      ahead = next_ahead J T.pieces seen open_piece shown count chosen busy next decided before_never

      pub at_most : next ≤ never
      at_most = next_most J T.pieces seen open_piece shown count chosen busy next decided

      pub within : next < never → next ≤ horizon J
      within c =
          next_within J T.pieces seen open_piece shown count chosen busy next decided sound free before_never c

      pub finished : next ≡ never → Ended J t
      finished e = no_next J T.pieces seen open_piece shown count chosen busy next decided sound free before_never e

      abbrev linked : Ties
      linked = ties T.desks T.befores T.afters T.handovers

      abbrev works : Work
      works = work_to T.durations t next chosen busy count w

      pub step : next < never
          → Held J T.pieces T.desks next works
          (hand_to linked T.links next works.left chosen busy count s)
          (note_to t next chosen busy count l)
      step c =
          let e : t + (next - t) ≡ next = omega (arith, ahead) in
          let p : 0 < next - t = omega (arith, ahead) in
          let q : Stretch J t (next - t) =
          quiet_until J T.pieces seen open_piece shown count chosen busy next decided before_never in
          let D : Desks J t count chosen busy =
          desks J T.pieces seen open_piece shown count chosen busy next decided in
          let done : WorkHeld T.pieces (at J next) works =
          work_step J sound T.pieces T.durations t next (next - t) e p q L.count few_pieces L.duration_is
          count chosen busy D few_desks w h.working in
          record {
            in_time = within c;
            working = done;
            waiting = hand_step J sound T.pieces T.links linked L.count few_pieces L.desk_is L.links_are
                t next (next - t) e p q works.left done.left_is count chosen busy D few_desks s h.waiting;
            logging = note_step J sound T.pieces T.desks t next (next - t) e p q L.count few_pieces L.desk_is
                count chosen busy D l h.logging;
          }
