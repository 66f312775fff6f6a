-- The slots in which a desk works. Every desk is open in every slot; each rule that counts slots speaks of open slots by
-- these three names, and of nothing else.
use Rattle.std.specs.Prelude.{ℕ, ◌+◌, Bool, true}
use Rattle.rules.specs.Job.{Job}

-- Desk d is open in slot t.
unfoldable pub is_open : Job → ℕ → ℕ → Bool
is_open J d t = true

-- The first open slot from t on.
unfoldable pub next_open : Job → ℕ → ℕ → ℕ
next_open J d t = t

-- The moment by which desk d has had k open slots since moment t.
unfoldable pub open_end : Job → ℕ → ℕ → ℕ → ℕ
open_end J d t k = t + k
