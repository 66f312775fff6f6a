-- The plans that demand 3 compares with: any plan of one desk's pieces, interruptible at any whole quarter-hour, that
-- keeps the ready moments of the finished plan, the links among these pieces, and each full duration.
use Rattle.std.specs.Prelude.{ℕ, ◌≤◌, true, ◌≡◌, ℤ, pos, ◌-ℤ◌}
use mathlib.Core.List.{map, Memᴰ as Mem}
use Rattle.std.proofs.Math.Option.{Option, some}
use Rattle.rules.specs.Words.{worst_of}
use Rattle.rules.specs.Job.{Job, duration, desk_pieces}
use Rattle.rules.specs.Hours.{is_open}
use Rattle.rules.specs.Moments.{latest}
use Rattle.rules.specs.Rings.{linked}
use Rattle.rules.specs.Entries.{ready}
use Rattle.theory.proofs.Plans.{did}

-- `plan t` is the piece worked on in slot t; `ends i` the moment at which piece i has had its full duration.
pub record AllowedPlan (J : Job) (d : ℕ) (plan : ℕ → Option ℕ) (ends : ℕ → ℕ) : Type 0 where
  -- It works on the desk's pieces alone, and in open slots.
  pub own_pieces : (t i : ℕ) → plan t ≡ some i → Mem i (desk_pieces J d)
  pub open_slots : (t i : ℕ) → plan t ≡ some i → is_open J d t ≡ true
  -- It keeps the ready moments.
  pub when-ready : (t i : ℕ) → plan t ≡ some i → ready J i ≤ t
  -- It keeps the links among these pieces: a piece is worked on when each piece before it has had its full duration.
  pub in_order : (t i j : ℕ) → Mem i (desk_pieces J d) → linked J i j ≡ true → plan t ≡ some j → did plan i t ≡ duration J i
  -- It keeps each full duration.
  pub no_more : (i t : ℕ) → Mem i (desk_pieces J d) → did plan i t ≤ duration J i
  pub whole : (i : ℕ) → Mem i (desk_pieces J d) → did plan i (ends i) ≡ duration J i
  pub at_once : (i t : ℕ) → Mem i (desk_pieces J d) → did plan i t ≡ duration J i → ends i ≤ t

-- The worst lateness of a plan of desk d that ends its pieces at these moments.
abbrev pub worst_lateness : Job → ℕ → (ℕ → ℕ) → ℤ
worst_lateness J d ends = worst_of (map (λ i. pos (ends i) -ℤ latest J i) (desk_pieces J d))
