-- The log of the runs in the order in which they begin: for each run its piece, its first slot and one past its last.
-- `last` has for each desk the place of its last run, and None where it has none; `busy` has the desks that work, and
-- `chosen` for each of them its piece.
use Rattle.std.specs.Prelude.{ℕ, zero, suc, ◌-◌, Bool, ◌&&◌, List, [], ◌∷◌, ◌++◌, map, ◌≡◌, ltb, eqb, length, get_or, set}
use Rattle.std.specs.declared.option.Option.{Option}
use Rattle.std.specs.declared.option.Option.TheVariants.{Some, None}
use Rattle.rules.specs.Words.{when, keep, below}
use Rattle.rules.specs.Runs.{Run}
use Rattle.rules.specs.Tables.{no_run}
use Rattle.rules.specs.declared.Run.{Run as LogRun}

pub record Log : Type 0 where
  pub runs : List LogRun
  pub last : List (Option ℕ)

abbrev pub log : List LogRun → List (Option ℕ) → Log
log runs last = record { runs = runs; last = last }

-- The run at place k goes on with piece i at moment t.
unfoldable pub stays : List LogRun → ℕ → ℕ → ℕ → Bool
stays rs k i t = ltb k (length rs) && eqb (get_or rs k no_run).piece i && eqb (get_or rs k no_run).until t

module _ (t next : ℕ) where
  -- Desk d works on piece i from moment t until moment `next`: its last run goes on, or a run begins.
  abbrev pub lengthened : ℕ → Log → Log
  lengthened k l =
      log
      (set l.runs k (record { piece = (get_or l.runs k no_run).piece; from = (get_or l.runs k no_run).from; until = next }))
      l.last

  abbrev pub begun : ℕ → ℕ → Log → Log
  begun d i l =
      log (l.runs ++ record { piece = i; from = t; until = next } ∷ []) (set l.last d (Some (length l.runs)))

  -- There are at most 512 of them.
  abbrev pub begun_if : ℕ → ℕ → Log → Log
  begun_if d i l = when (ltb (length l.runs) 512) (begun d i l) l

  unfoldable pub note_at : Option ℕ → ℕ → ℕ → Log → Log
  note_at None d i l = begun_if d i l
  note_at (Some k) d i l = when (stays l.runs k i t) (lengthened k l) (begun_if d i l)

  unfoldable pub note_on : ℕ → ℕ → Log → Log
  unfolding note_at
  note_on d i l = note_at (get_or l.last d None) d i l

  -- The same for the first k of the desks that work.
  unfoldable pub note_to : List ℕ → List ℕ → ℕ → Log → Log
  unfolding note_on
  note_to chosen busy zero l = l
  note_to chosen busy (suc k) l = note_on (get_or busy k 0) (get_or chosen (get_or busy k 0) 0) (note_to chosen busy k l)

-- The run at place k, and the runs of desk d in the order of the log. A run's desk is that of its piece.
abbrev pub run_at : List ℕ → List ℕ → List ℕ → ℕ → Run
run_at piece from until k = record {
  piece = get_or piece k 0;
  from = get_or from k 0;
  until = get_or until k 0;
  slots = get_or until k 0 - get_or from k 0;
}

unfoldable pub logged_runs : List ℕ → List ℕ → List ℕ → List ℕ → ℕ → ℕ → List Run
logged_runs desks piece from until runs d =
    map (run_at piece from until) (keep (λ k. eqb (get_or desks (get_or piece k 0) 0) d) (below runs))

-- The tables that a plan fills have the places that their types say: start and finish of each piece.
pub record Sized (starts finishes : List ℕ) : Type 0 where
  pub starts_sized : length starts ≡ 256
  pub finishes_sized : length finishes ≡ 256
