-- One desk's slots noted in the log, by the ways the code takes, and one desk more.
use Rattle.std.specs.Prelude.{ℕ, ◌+◌, ◌<◌, ◌≤◌, true, false, ◌&&◌, ltb, eqb, ◌≡◌}
use Rattle.std.specs.Prelude.{List, [], ◌∷◌, ◌++◌, length, get_or, drop, set}
use Rattle.std.specs.List.{refill}
use Rattle.std.specs.declared.option.Option.{Option}
use Rattle.std.specs.declared.option.Option.TheVariants.{Some, None}
use Rattle.std.proofs.Common.{refl, sym, ap, ◌∙◌, add-one}
use Rattle.std.proofs.Math.ListN.{length-set}
use Rattle.std.proofs.Math.Seq.{take-append_seam}
use borrow.Author.Tests.{lt-ltb, le-ltb, ltb-true}
use Rattle.rules.specs.Tables.{no_run}
use Rattle.rules.specs.Words.{when}
use Rattle.rules.specs.declared.Run.{Run}
use Rattle.laws.proofs.Words.{by_test, and_true, when_true, when_false}
use Rattle.steps.specs.Log.{Log, log, stays, lengthened, begun_if, note_at, note_on, note_to}
use Rattle.moving.specs.LastRuns.{goes_on_from}

-- Whether the run at place k goes on.
module _ (rs : List Run) (k i t : ℕ) where
  pub no_place : length rs ≤ k → stays rs k i t ≡ false
  unfolding stays
  no_place h = rw (le-ltb k (length rs) h)

  pub stays_inside : stays rs k i t ≡ true → k < length rs
  unfolding stays
  stays_inside e =
      ltb-true k (length rs)
      (and_true (ltb k (length rs)) _ (and_true (ltb k (length rs) && eqb (get_or rs k no_run).piece i) _ e).0).0

-- The run of desk d in the log, by the place of the desk's last run.
module _ (r : Run) (d : ℕ) (l : Log) where
  pub place_inside : (place : Option ℕ) (k : ℕ) → Some k ≡ goes_on_from l.runs place r → k < length l.runs
  place_inside None k e = cc
  place_inside (Some j) k e = by_test (stays l.runs j r.piece r.from)
      (λ t. let z : Some k ≡ Some j = rw t at e in let y : k ≡ j = cc in rw y (stays_inside l.runs j r.piece r.from t))
      (λ t. let z : Some k ≡ None = rw t at e in cc)

  run_longer : (place : Option ℕ) (k : ℕ) → Some k ≡ goes_on_from l.runs place r
      → lengthened r.from r.until k l ≡ note_at r.from r.until place d r.piece l
  unfolding note_at when
  run_longer None k e = cc
  run_longer (Some j) k e = by_test (stays l.runs j r.piece r.from)
      (λ t. let z : Some k ≡ Some j = rw t at e in let y : k ≡ j = cc in rw (t, y))
      (λ t. let z : Some k ≡ None = rw t at e in cc)

  run_begins : (place : Option ℕ) → None ≡ goes_on_from l.runs place r
      → begun_if r.from r.until d r.piece l ≡ note_at r.from r.until place d r.piece l
  unfolding note_at when
  run_begins None e = refl
  run_begins (Some j) e = by_test (stays l.runs j r.piece r.from)
      (λ t. let z : None ≡ Some j = rw t at e in cc)
      (λ t. rw t)

  -- A store through the list's slice.
  refilled : (k : ℕ) (x : Run) → refill (length l.runs) l.runs (set l.runs k x) ≡ set l.runs k x
  refilled k x = rw (← length-set l.runs k x) (take-append_seam (set l.runs k x) (drop (length (set l.runs k x)) l.runs))

  pub run_stored : (place : Option ℕ) (k : ℕ) (rs ws : List Run) → ws ≡ l.runs → rs ≡ l.runs
      → Some k ≡ goes_on_from ws place r
      → log (refill (length l.runs) l.runs
      (set rs k (record { piece = (get_or rs k no_run).piece; from = (get_or rs k no_run).from; until = r.until }))) l.last
      ≡ note_at r.from r.until place d r.piece l
  run_stored place k rs ws a b e =
      rw b (ap (λ xs. log xs l.last) (refilled k _) ∙ run_longer place k (rw a at e))

  pub run_put : (place : Option ℕ) (k : ℕ) (rs ws : List Run) → ws ≡ l.runs → None ≡ goes_on_from ws place r
      → k ≡ length l.runs
      → length l.runs < 512 → rs ≡ l.runs ++ r ∷ []
      → log rs (set l.last d (Some k)) ≡ note_at r.from r.until place d r.piece l
  unfolding when
  run_put place k rs ws a e z h b =
      rw (b, z) (sym (when_true _ _ _ (lt-ltb (length l.runs) 512 h)) ∙ run_begins place (rw a at e))

  pub log_full : (place : Option ℕ) (ws : List Run) → ws ≡ l.runs → None ≡ goes_on_from ws place r → 512 ≤ length l.runs
      → l ≡ note_at r.from r.until place d r.piece l
  log_full place ws a e h = sym (when_false _ _ _ (le-ltb (length l.runs) 512 h)) ∙ run_begins place (rw a at e)

pub note_more : (t next : ℕ) (chosen busy : List ℕ) (q : ℕ) (l k r : Log) → k ≡ note_to t next chosen busy q l
    → r ≡ note_on t next (get_or busy q 0) (get_or chosen (get_or busy q 0) 0) k → r ≡ note_to t next chosen busy (q + 1) l
unfolding note_to
note_more t next chosen busy q l k r a b = rw (add-one q, ← a) b
