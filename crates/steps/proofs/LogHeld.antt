-- A log that has the runs of every desk up to the desk's moment; and what a desk's runs are once it is moved on.
use Prim.Native.Nat.{ℕ, suc, ◌+◌, ◌-◌, ◌≤◌, ◌<◌}
use mathlib.Core.Bool.{Bool, true, false}
use mathlib.Core.List.{List, []}
use mathlib.Core.Logic.{◌⊎◌}
use mathlib.Core.Option.{none, some}
use mathlib.Core.Path.{◌≡◌, sym, ◌∙◌}
use native.Mathlib.Omega.{arith}
use lib.ListN.{length, get_or}
use Rattle.std.specs.declared.option.Option.TheVariants.{Some, None}
use Rattle.rules.specs.Job.{Job, piece_count, desk}
use Rattle.rules.specs.Runs.{Run}
use Rattle.rules.specs.Tables.{Sound, no_run, run_pieces, run_froms, run_untils}
use Rattle.rules.specs.Urgency.{worked}
use Rattle.laws.proofs.Words.{by_test}
use Rattle.slots.specs.Growth.{grown, runs_until}
use Rattle.slots.specs.Stretch.{Stretch}
use Rattle.slots.proofs.Growth.{runs_resting, runs_working}
use Rattle.slots.proofs.Stretch.{keeps_choice}
use Rattle.steps.specs.Log.{Log, logged_runs}
use Rattle.steps.proofs.LogLists.{own_run}
use Rattle.steps.proofs.Moved.{moment_of, moment_early, moment_late}
use Rattle.steps.proofs.Scores.{scores, scores_end}

-- The desk's last run in the log: there is none, or it stands at the place that the table has.
pub record Placed (desks : List ℕ) (l : Log) (d : ℕ) : Type 0 where
  pub place : ℕ
  pub is : get_or l.last d None ≡ Some place
  pub below : place < length l.runs
  pub own : own_run desks (run_pieces l.runs) d place ≡ true
  pub latest : (j : ℕ) → place < j → j < length l.runs → own_run desks (run_pieces l.runs) d j ≡ false

abbrev pub logged : List ℕ → Log → ℕ → List Run
logged desks l d = logged_runs desks (run_pieces l.runs) (run_froms l.runs) (run_untils l.runs) (length l.runs) d

unfoldable pub LastRun : List ℕ → Log → ℕ → Type 0
LastRun desks l d = ((get_or l.last d None ≡ None) × (logged desks l d ≡ [])) ⊎ Placed desks l d

-- The log has the runs of every desk up to the desk's moment.
pub record LogHeld (J : Job) (n : ℕ) (desks : List ℕ) (τ : ℕ → ℕ) (l : Log) : Type 0 where
  pub last_sized : length l.last ≡ 32
  pub runs_are : (d : ℕ) → d < 32 → logged desks l d ≡ runs_until J d (τ d)
  pub lasts : (d : ℕ) → d < 32 → LastRun desks l d
  pub inside : (k : ℕ) → k < length l.runs → (get_or l.runs k no_run).piece < n
  pub forward : (k : ℕ) → k < length l.runs → (get_or l.runs k no_run).from ≤ (get_or l.runs k no_run).until
  pub few : length l.runs ≤ scores J n τ

module _ (J : Job) (sound : Sound J) (n : ℕ) (desks : List ℕ) (t u k : ℕ) (e : t + k ≡ u) (p : 0 < k) (s : Stretch J t k)
    (count : piece_count J ≡ n) (small : n ≤ 256) (desk_is : (i : ℕ) → i < n → desk J i ≡ get_or desks i 0) where
  -- The runs of a desk that rests, and of one that works, once it is moved on.
  rested_runs : (d : ℕ) → worked J d t ≡ none → runs_until J d u ≡ runs_until J d t
  rested_runs d q = rw (← e) (runs_resting J d t k (λ j l. keeps_choice J sound t k s j l d ∙ q))

  pub worked-runs : (d i : ℕ) → worked J d t ≡ some i → runs_until J d u ≡ grown (runs_until J d t) i t k
  worked-runs d i q =
      let z : t + suc (k - 1) ≡ u = omega arith in
      let y : suc (k - 1) ≡ k = omega arith in
      let w = runs_working J d t (k - 1) i (λ j l. keeps_choice J sound t k s j (omega arith) d ∙ q) in
      rw (z, y) at w

  -- All desks that work were moved on: then the log has the runs of every desk up to moment u.
  pub all_held : (M : ℕ → Bool) → ((d : ℕ) → d < 32 → M d ≡ false → worked J d t ≡ none) → (l : Log)
      → LogHeld J n desks (moment_of t u M) l → LogHeld J n desks (λ d. u) l
  all_held M rest l h = record {
    last_sized = h.last_sized;
    runs_are = λ d b. h.runs_are d b ∙ by_test (M d)
        (λ m. rw (moment_late t u M d m))
        (λ m. rw (moment_early t u M d m) (sym (rested_runs d (rest d b m))));
    lasts = h.lasts;
    inside = h.inside;
    forward = h.forward;
    few = omega (arith, h.few, scores_end J n t u k e p count M);
  }
