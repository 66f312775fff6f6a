-- "Leads by links", as demand 2 says it: a link, or a link and from there on by links. The computed test of `rules` is
-- held to this relation.
use Rattle.std.specs.Prelude.{ℕ, Bool, true, ◌≡◌}

-- `follows i j`: there is a direct link from i to j.
pub data Leads (follows : ℕ → ℕ → Bool) : ℕ → ℕ → Type 0 where
  direct : {i j : ℕ} → follows i j ≡ true → Leads follows i j
  onward : {i j k : ℕ} → follows i j ≡ true → Leads follows j k → Leads follows i k
