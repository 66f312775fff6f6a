-- The slots up to the next decision moment worked at once: what that makes of the tables of slots left, start and finish.
-- `busy` has the desks that work, and `chosen` for each of them its piece.
use Rattle.std.specs.Prelude.{ℕ, zero, suc, ◌-◌, List, eqb, get_or, set}
use Rattle.rules.specs.Words.{when}

pub record Work : Type 0 where
  pub left : List ℕ
  pub start : List ℕ
  pub finish : List ℕ

abbrev pub work : List ℕ → List ℕ → List ℕ → Work
work left start finish = record { left = left; start = start; finish = finish }

module _ (durations : List ℕ) (t next : ℕ) where
  -- Piece i is worked on from moment t until moment `next`: its start is t if nothing was worked off it before.
  abbrev pub forth : ℕ → Work → Work
  forth i w = record {
    left = set w.left i (get_or w.left i 0 - (next - t));
    start = when (eqb (get_or w.left i 0) (get_or durations i 0)) (set w.start i t) w.start;
    finish = set w.finish i next;
  }

  -- The first k of the desks that work do so.
  unfoldable pub work_to : List ℕ → List ℕ → ℕ → Work → Work
  work_to chosen busy zero w = w
  work_to chosen busy (suc k) w = forth (get_or chosen (get_or busy k 0) 0) (work_to chosen busy k w)
