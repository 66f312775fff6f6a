-- What demand 2 says of one slot, in words of slots worked alone: ready, unfinished, finished at a moment.
use Rattle.std.specs.Prelude.{ℕ, ◌+◌, ◌≤◌, ◌<◌, true, ◌≡◌}
use mathlib.Core.List.{Memᴰ as Mem}
use Rattle.rules.specs.Job.{Job, piece_count, piece, desk, duration, links_into}
use Rattle.rules.specs.Hours.{is_open}
use Rattle.rules.specs.Moments.{delay, sooner}
use Rattle.rules.specs.Urgency.{worked}
use Rattle.rules.specs.declared.Link.{Link}
use Rattle.theory.proofs.Plans.{did}

-- The slots that piece i has had of its desk by moment t.
abbrev pub had : Job → ℕ → ℕ → ℕ
had J i t = did (worked J (desk J i)) i t

-- Piece i is finished at moment c: it has had its full duration by then, and not before. Begun is not finished, and
-- neither is interrupted.
pub record FinishedAt (J : Job) (i c : ℕ) : Type 0 where
  pub whole : had J i c ≡ duration J i
  pub first : (u : ℕ) → had J i u ≡ duration J i → c ≤ u

-- Piece i is ready at moment t: t is at least its release, and each piece before it IS FINISHED, at a moment c with
-- c + delay at most t.
pub record ReadyAt (J : Job) (t i : ℕ) : Type 0 where
  pub released : (piece J i).release ≤ t
  pub handed : (l : Link) → Mem l (links_into J i) → (c : ℕ) × FinishedAt J l.before c × (c + delay J l ≤ t)

-- Piece i may be worked on by desk d in slot t: the desk is open, the piece is the desk's, ready and unfinished.
pub record MayWork (J : Job) (d t i : ℕ) : Type 0 where
  pub opened : is_open J d t ≡ true
  pub inside : i < piece_count J
  pub at_desk : desk J i ≡ d
  pub ready_then : ReadyAt J t i
  pub unfinished : had J i t < duration J i

-- It is the most urgent that may: sooner than every other.
pub record MostUrgent (J : Job) (d t i : ℕ) : Type 0 where
  pub may : MayWork J d t i
  pub before_all : (j : ℕ) → MayWork J d t j → (j ≡ i → ⊥) → sooner J i j ≡ true
