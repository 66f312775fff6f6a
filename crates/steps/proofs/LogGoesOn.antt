-- A desk works on, and its last run goes on: the log has it longer, and nothing else changes.
use Prim.Native.Nat.{ℕ, ◌+◌, ◌-◌, ◌≤◌, ◌<◌}
use mathlib.Core.Bool.{Bool, true, false}
use mathlib.Core.List.{List, [], ◌∷◌, ◌++◌}
use mathlib.Core.Logic.{inl, inr}
use mathlib.Core.Option.{some}
use mathlib.Core.Path.{◌≡◌, refl, sym, ap, ◌∙◌}
use native.Mathlib.Omega.{arith}
use borrow.Author.Tests.{lt-ltb, eqb-true, eqb-false}
use lib.Dec.{eqb}
use lib.ListN.{length, get_or, length-set}
use lib.Seq.{get_or-set_same, get_or-set_other, map-set_same}
use Rattle.rules.specs.Job.{Job, piece_count, desk}
use Rattle.rules.specs.Runs.{Run}
use Rattle.rules.specs.Tables.{Sound, no_run, run_pieces, run_froms, run_untils}
use Rattle.rules.specs.declared.Run.{Run as LogRun}
use Rattle.rules.specs.Urgency.{worked}
use Rattle.laws.proofs.Columns.{get_or-run_pieces, get_or-run_froms, get_or-run_untils}
use Rattle.laws.proofs.Words.{by_test}
use Rattle.slots.specs.Growth.{goes_on_at, longer, grown, runs_until}
use Rattle.slots.specs.Stretch.{Stretch}
use Rattle.slots.proofs.Growth.{grown_on, goes_on_lem}
use Rattle.steps.specs.Log.{Log, stays, lengthened, run_at, logged_runs}
use Rattle.steps.proofs.LogHeld.{Placed, logged, LastRun, LogHeld, worked-runs}
use Rattle.steps.proofs.LogLists.{own_run, last_logged, logged_same}
use Rattle.steps.proofs.Moved.{also, moment_of, moment_early, moment_own, moment_other}
use Rattle.steps.proofs.Scores.{scores_grow}

-- The run at a place of the log, as the plan's runs have it.
abbrev pub run_in : List LogRun → ℕ → Run
run_in rs k = run_at (run_pieces rs) (run_froms rs) (run_untils rs) k

-- It, by the fields of the log's run.
abbrev pub told : LogRun → Run
told r = record { piece = r.piece; from = r.from; until = r.until; slots = r.until - r.from }

pub run_told : (rs : List LogRun) (k : ℕ) → run_in rs k ≡ told (get_or rs k no_run)
run_told rs k = rw (get_or-run_pieces rs k, get_or-run_froms rs k, get_or-run_untils rs k)

-- The test that the code makes of the desk's last run is whether that run goes on.
pub stays_goes : (rs : List LogRun) (k i t : ℕ) → k < length rs → stays rs k i t ≡ goes_on_at (run_in rs k) i t
unfolding stays goes_on_at
stays_goes rs k i t h = rw (lt-ltb k (length rs) h) (sym (ap (λ r. goes_on_at r i t) (run_told rs k)))

-- The run at place c made longer.
module _ (desks : List ℕ) (l : Log) (t u c : ℕ) where
  abbrev after : Log
  after = lengthened t u c l

  same_pieces : run_pieces after.runs ≡ run_pieces l.runs
  same_pieces = map-set_same (λ r. r.piece) l.runs c _ no_run refl

  same_length : length after.runs ≡ length l.runs
  same_length = length-set l.runs c _

  elsewhere : (j : ℕ) → (j ≡ c → ⊥) → run_in after.runs j ≡ run_in l.runs j
  elsewhere j ne =
      run_told after.runs j ∙ ap told (get_or-set_other l.runs c j _ no_run ne) ∙ sym (run_told l.runs j)

  -- Other desks, and what stands before it of its own.
  other_logged : (d f : ℕ) → own_run desks (run_pieces l.runs) d c ≡ true → (f ≡ d → ⊥)
      → logged desks after f ≡ logged desks l f
  other_logged d f o ne =
      ap (λ c. logged_runs desks (run_pieces after.runs) (run_froms after.runs) (run_untils after.runs) c f) same_length
      ∙ logged_same desks (run_pieces l.runs) (run_pieces after.runs) (run_froms l.runs) (run_froms after.runs)
      (run_untils l.runs) (run_untils after.runs) f (length l.runs) (λ j b. rw same_pieces)
      (λ j b w. elsewhere j (λ z. ne (sym (eqb-true _ f (rw z at w)) ∙ eqb-true _ d o)))

  before_logged : (d : ℕ)
      → logged_runs desks (run_pieces after.runs) (run_froms after.runs) (run_untils after.runs) c d
      ≡ logged_runs desks (run_pieces l.runs) (run_froms l.runs) (run_untils l.runs) c d
  before_logged d =
      logged_same desks (run_pieces l.runs) (run_pieces after.runs) (run_froms l.runs) (run_froms after.runs)
      (run_untils l.runs) (run_untils after.runs) d c (λ j b. rw same_pieces)
      (λ j b w. elsewhere j (λ z. omega arith))

module _ (J : Job) (sound : Sound J) (n : ℕ) (desks : List ℕ) (t u k : ℕ) (e : t + k ≡ u) (p : 0 < k) (s : Stretch J t k)
    (count : piece_count J ≡ n) (small : n ≤ 256) (desk_is : (i : ℕ) → i < n → desk J i ≡ get_or desks i 0) where
  module _ (M : ℕ → Bool) (d : ℕ) (new : M d ≡ false) (i : ℕ) (b : d < 32) (q : worked J d t ≡ some i) (l : Log)
      (h : LogHeld J n desks (moment_of t u M) l)
      (w : Placed desks l d) (on : goes_on_at (run_in l.runs w.place) i t ≡ true) where
    abbrev now : Log
    now = lengthened t u w.place l

    abbrev run : Run
    run = run_in l.runs w.place

    abbrev old : LogRun
    old = get_or l.runs w.place no_run

    ended : old.until ≡ t
    ended = sym (get_or-run_untils l.runs w.place) ∙ (goes_on_lem run i t on).1

    here : get_or now.runs w.place no_run ≡ record { piece = old.piece; from = old.from; until = u }
    here = get_or-set_same l.runs w.place _ no_run w.below

    -- It is the run that the plan has, k slots longer.
    run_longer : run_in now.runs w.place ≡ longer run k
    run_longer =
        let f : old.from ≤ old.until = h.forward w.place w.below in
        let y : old.until + k ≡ u = omega (arith, ended) in
        let z : old.until - old.from + k ≡ u - old.from = omega (arith, ended) in
        let same : told (record { piece = old.piece; from = old.from; until = u }) ≡ longer (told old) k = rw (y, z) in
        run_told now.runs w.place ∙ ap told here ∙ same ∙ ap (λ r. longer r k) (sym (run_told l.runs w.place))

    before : List Run
    before = logged_runs desks (run_pieces l.runs) (run_froms l.runs) (run_untils l.runs) w.place d

    was : before ++ (run ∷ []) ≡ runs_until J d t
    unfolding before
    was =
        sym (last_logged desks (run_pieces l.runs) (run_froms l.runs) (run_untils l.runs) d (length l.runs) w.place w.below
        w.own w.latest)
        ∙ h.runs_are d b ∙ ap (runs_until J d) (moment_early t u M d new)

    still_own : (j : ℕ) → own_run desks (run_pieces now.runs) d j ≡ own_run desks (run_pieces l.runs) d j
    still_own j = rw (same_pieces desks l t u w.place)

    still_latest : (j : ℕ) → w.place < j → j < length now.runs → own_run desks (run_pieces now.runs) d j ≡ false
    still_latest j a c = still_own j ∙ w.latest j a (rw (same_length desks l t u w.place) at c)

    still_below : w.place < length now.runs
    still_below = rw (same_length desks l t u w.place) w.below

    own_runs : logged desks now d ≡ runs_until J d u
    unfolding before
    own_runs =
        last_logged desks (run_pieces now.runs) (run_froms now.runs) (run_untils now.runs) d (length now.runs) w.place
        still_below (still_own w.place ∙ w.own) still_latest
        ∙ rw (before_logged desks l t u w.place d, run_longer)
        (sym (grown_on before run i t k (goes_on_lem run i t on).0 (goes_on_lem run i t on).1)
        ∙ ap (λ rs. grown rs i t k) was ∙ sym (worked-runs J sound n desks t u k e p s count small desk_is d i q))

    other_runs : (f : ℕ) → (f ≡ d → ⊥) → logged desks now f ≡ logged desks l f
    other_runs f ne = other_logged desks l t u w.place d f w.own ne

    lasts_stay : (f : ℕ) → LastRun desks l f → (f ≡ d → ⊥) → LastRun desks now f
    unfolding LastRun
    lasts_stay f (inl y) ne = inl (y.0, other_runs f ne ∙ y.1)
    lasts_stay f (inr y) ne = inr (placed_still f y)
      where
        placed_still : (f : ℕ) → Placed desks l f → Placed desks now f
        placed_still f y = record {
          place = y.place;
          is = y.is;
          below = rw (same_length desks l t u w.place) y.below;
          own = rw (same_pieces desks l t u w.place) y.own;
          latest = λ j a c. rw (same_pieces desks l t u w.place) (y.latest j a (rw (same_length desks l t u w.place) at c));
        }

    pub goes_on_held : LogHeld J n desks (moment_of t u (also M d)) now
    unfolding LastRun
    goes_on_held = record {
      last_sized = h.last_sized;
      runs_are = λ f c. by_test (eqb f d)
          (λ z. let y : f ≡ d = eqb-true f d z in rw (y, moment_own t u M d) own_runs)
          (λ z. let ne = eqb-false f d z in rw (moment_other t u M d f ne) (other_runs f ne ∙ h.runs_are f c));
      lasts = λ f c. by_test (eqb f d)
          (λ z. rw (eqb-true f d z) (inr (record {
            place = w.place;
            is = w.is;
            below = still_below;
            own = still_own w.place ∙ w.own;
            latest = still_latest;
          })))
          (λ z. lasts_stay f (h.lasts f c) (eqb-false f d z));
      inside = λ j c. by_test (eqb j w.place)
          (λ z. let y : j ≡ w.place = eqb-true j w.place z in rw (y, here) (h.inside w.place w.below))
          (λ z. rw (get_or-set_other l.runs w.place j _ no_run (eqb-false j w.place z))
          (h.inside j (rw (same_length desks l t u w.place) at c)));
      forward = λ j c. by_test (eqb j w.place)
          (λ z. let y : j ≡ w.place = eqb-true j w.place z in
          rw (y, here) (omega (arith, h.forward w.place w.below, ended)))
          (λ z. rw (get_or-set_other l.runs w.place j _ no_run (eqb-false j w.place z))
          (h.forward j (rw (same_length desks l t u w.place) at c)));
      few = omega (arith, same_length desks l t u w.place, h.few, scores_grow J n t u k e p count M d);
    }
