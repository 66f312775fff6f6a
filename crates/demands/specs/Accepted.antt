-- Accepted files, and the lowest piece on a ring, as the demands speak of them.
use Rattle.std.specs.Prelude.{ℕ, ◌<◌, List, ◌≡◌}
use Rattle.rules.specs.Job.{Job, accepted}
use Rattle.rules.specs.Judgement.{file_outcome}
use Rattle.rules.specs.Rings.{linked}
use Rattle.laws.specs.Leads.{Leads}

-- The file is accepted, with this job in it.
abbrev pub AcceptedAs : List ℕ → Job → Type 0
AcceptedAs file J = file_outcome file ≡ accepted J

-- Piece i leads by its links back to itself, and no piece with a lower number does.
pub record LowestOnRing (J : Job) (i : ℕ) : Type 0 where
  pub on_ring : Leads (linked J) i i
  pub lowest : (j : ℕ) → j < i → Leads (linked J) j j → ⊥
