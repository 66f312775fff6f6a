-- A stretch of slots in which nothing is decided: no piece becomes ready in it after its first slot, and no piece that is
-- worked on is finished before its end.
use Rattle.std.specs.Prelude.{ℕ, ◌+◌, ◌-◌, ◌≤◌, ◌<◌, ◌≡◌, eqb}
use Rattle.std.proofs.Math.Option.{some}
use Rattle.rules.specs.Words.{when}
use Rattle.rules.specs.Job.{Job, piece_count, desk}
use Rattle.rules.specs.Urgency.{Progress, progress, work_at, worked}
use Rattle.slots.specs.Standing.{waits_of, ready_of}

-- How far the pieces are at moment t.
abbrev pub at : Job → ℕ → ℕ → Progress
at J t = progress (work_at J t)

-- The k slots from moment t on.
pub record Stretch (J : Job) (t k : ℕ) : Type 0 where
  pub works : (i : ℕ) → i < piece_count J → worked J (desk J i) t ≡ some i → k ≤ (at J t i).left
  pub quiet : (i : ℕ) → i < piece_count J → 0 < (at J t i).left → waits_of J (at J t) i ≡ 0
      → t < ready_of J (at J t) i → t + k ≤ ready_of J (at J t) i

-- A piece worked on in k slots from moment t on, its duration `whole`.
abbrev pub worked_for : ℕ → ℕ → ℕ → Progress → Progress
worked_for whole t k p =
    record { left = p.left - k; start = when (eqb p.left whole) t p.start; finish = t + k }
