-- The runs of a desk as they grow with the slots: each slot worked makes the last run longer or begins a new one.
use Rattle.std.specs.Prelude.{ℕ, zero, suc, ◌+◌, Bool, not, ◌&&◌, List, [], ◌∷◌, ltb, eqb}
use Rattle.std.proofs.Math.Option.{Option, none, some}
use Rattle.rules.specs.Words.{when, is_it}
use Rattle.rules.specs.Job.{Job, desk, duration}
use Rattle.rules.specs.Urgency.{progress, work_at, worked}
use Rattle.rules.specs.Runs.{Run}

-- Run r goes on in slot t with piece i: it is of that piece, and its last slot is the one before.
unfoldable pub goes_on_at : Run → ℕ → ℕ → Bool
goes_on_at r i t = eqb r.piece i && eqb r.until t

-- A run of k slots on piece i from t on, and a run that is k slots longer.
abbrev pub fresh_run : ℕ → ℕ → ℕ → Run
fresh_run i t k = record { piece = i; from = t; until = t + k; slots = k }

abbrev pub longer : Run → ℕ → Run
longer r k = record { piece = r.piece; from = r.from; until = r.until + k; slots = r.slots + k }

-- The runs after k slots more on piece i, from slot t on.
unfoldable pub grown : List Run → ℕ → ℕ → ℕ → List Run
unfolding when goes_on_at
grown [] i t k = fresh_run i t k ∷ []
grown (r ∷ []) i t k = when (goes_on_at r i t) (longer r k ∷ []) (r ∷ fresh_run i t k ∷ [])
grown (r ∷ s ∷ rs) i t k = r ∷ grown (s ∷ rs) i t k

-- The runs after slot t, in which the desk works on `who`.
unfoldable pub after_turn : List Run → Option ℕ → ℕ → List Run
unfolding grown
after_turn rs none t = rs
after_turn rs (some i) t = grown rs i t 1

-- The runs of desk d before moment t.
unfoldable pub runs_until : Job → ℕ → ℕ → List Run
unfolding after_turn worked
runs_until J d zero = []
runs_until J d (suc t) = after_turn (runs_until J d t) (worked J d t) t

-- The piece of the last run, and its end.
unfoldable pub last_piece : List Run → Option ℕ
last_piece [] = none
last_piece (r ∷ []) = some r.piece
last_piece (r ∷ s ∷ rs) = last_piece (s ∷ rs)

unfoldable pub last_end : List Run → ℕ
last_end [] = 0
last_end (r ∷ []) = r.until
last_end (r ∷ s ∷ rs) = last_end (s ∷ rs)

-- Who desk d worked on last before moment t.
unfoldable pub last_on : Job → ℕ → ℕ → Option ℕ
unfolding last_piece runs_until
last_on J d t = last_piece (runs_until J d t)

-- What piece i adds to the bound on the runs begun before moment t: one as soon as it is begun, and one more when it is
-- finished and its desk has gone on to another piece.
unfoldable pub score : Job → ℕ → ℕ → ℕ
unfolding when last_on is_it work_at
score J t i =
    when (ltb (progress (work_at J t) i).left (duration J i)) 1 0
    + when (eqb (progress (work_at J t) i).left 0 && not (is_it (last_on J (desk J i) t) i)) 1 0
