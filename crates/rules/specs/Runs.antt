-- A run is a longest stretch of slots in which one desk works on one piece. It is read off the desk's open slots, one
-- behind the other, with who is worked on in each.
use Rattle.std.specs.Prelude.{ℕ, ◌+◌, Bool, false, List, [], ◌∷◌, map, eqb}
use Rattle.std.proofs.Math.Option.{Option, none, some}
use Rattle.rules.specs.Words.{when, keep, below}
use Rattle.rules.specs.Job.{Job}
use Rattle.rules.specs.Hours.{is_open}
use Rattle.rules.specs.Urgency.{worked, horizon}

-- An open slot of a desk, and who is worked on in it.
pub record Turn : Type 0 where
  pub slot : ℕ
  pub who : Option ℕ

-- From its first slot until one past its last, with the count of slots worked.
pub record Run : Type 0 where
  pub piece : ℕ
  pub from : ℕ
  pub until : ℕ
  pub slots : ℕ

abbrev pub new_run : ℕ → ℕ → Run
new_run i t = record { piece = i; from = t; until = t + 1; slots = 1 }

abbrev pub longer_run : Run → ℕ → Run
longer_run r t = record { piece = r.piece; from = r.from; until = t + 1; slots = r.slots + 1 }

-- The run under way, if there is one, comes to an end before the runs that follow.
unfoldable pub closing : Option Run → List Run → List Run
closing none rs = rs
closing (some r) rs = r ∷ rs

-- The run under way belongs to piece i.
unfoldable pub goes_on : Option Run → ℕ → Bool
goes_on none i = false
goes_on (some r) i = eqb r.piece i

-- The run under way after a slot worked on piece i: the same run one slot longer, or a new one.
unfoldable pub next_run : Option Run → ℕ → ℕ → Run
unfolding when
next_run none i t = new_run i t
next_run (some r) i t = when (eqb r.piece i) (longer_run r t) (new_run i t)

-- The runs of the slots to come, with the run under way in front.
unfoldable pub runs_from : Option Run → List Turn → List Run
unfolding closing goes_on next_run when
runs_from u [] = closing u []
runs_from u (x ∷ xs) = elim x.who [
  | none ↦ closing u (runs_from none xs)
  | some i ↦ let onward = runs_from (some (next_run u i x.slot)) xs in when (goes_on u i) onward (closing u onward)
]

-- A desk's open slots before moment h, with who `w` works on in each.
unfoldable pub turns : Job → ℕ → (ℕ → Option ℕ) → ℕ → List Turn
unfolding keep below is_open
turns J d w h = map (λ t. record { slot = t; who = w t }) (keep (is_open J d) (below h))

-- The runs of desk d in the plan by urgency.
unfoldable pub runs : Job → ℕ → List Run
unfolding runs_from turns worked horizon
runs J d = runs_from none (turns J d (worked J d) (horizon J))
