-- The board: the stretches of slots given away so far, the last one first. A stretch is one piece's, from its first slot
-- until one past its last; neighbouring stretches of one piece that touch are one. The code keeps them by time, as the
-- runs that they become.
use Rattle.std.specs.Prelude.{ℕ, Bool, false, ◌&&◌, List, [], ◌∷◌, ◌-◌, leb, ltb, eqb, reverse, Option as Maybe, Some}
use Rattle.std.specs.Prelude.{None}
use Rattle.std.proofs.Math.Option.{Option, none, some}
use Rattle.rules.specs.Words.{when}
use Rattle.rules.specs.Runs.{Run}
use Rattle.rules.specs.declared.Run.{Run as Stretch}

abbrev pub stretch : ℕ → ℕ → ℕ → Stretch
stretch p f u = record { piece = p; from = f; until = u }

-- The board of these runs.
abbrev pub board_of : List Stretch → List Stretch
board_of runs = reverse runs

-- A stretch as a run of the rules, on a desk that is always open.
abbrev pub run_of : Stretch → Run
run_of r = record { piece = r.piece; from = r.from; until = r.until; slots = r.until - r.from }

-- The last stretch is piece p's and is over at moment f.
unfoldable pub touching : ℕ → ℕ → List Stretch → Bool
touching p f [] = false
touching p f (r ∷ b) = eqb r.until f && eqb r.piece p

-- One more stretch at the end: a longer last stretch, or a new one.
unfoldable pub joined : ℕ → ℕ → ℕ → List Stretch → List Stretch
unfolding when touching
joined p f u [] = stretch p f u ∷ []
joined p f u (r ∷ b) = when (touching p f (r ∷ b)) (stretch p r.from u ∷ b) (stretch p f u ∷ r ∷ b)

-- The slots from f until u for piece p; for nobody they stay free.
unfoldable pub give : Option ℕ → ℕ → ℕ → List Stretch → List Stretch
unfolding when joined
give none f u b = b
give (some p) f u b = when (ltb f u) (joined p f u b) b

-- Who has slot t.
unfoldable pub holder : (ℕ → Bool) → List Stretch → ℕ → Option ℕ
unfolding when
holder opens [] t = none
holder opens (r ∷ b) t = when (leb r.from t && ltb t r.until && opens t) (some r.piece) (holder opens b t)

-- Whom the code means.
abbrev pub whom : Maybe ℕ → Option ℕ
whom None = none
whom (Some p) = some p

-- The stretches that a gift of slots can add: none for nobody.
abbrev pub share : Maybe ℕ → ℕ
share None = 0
share (Some p) = 1
