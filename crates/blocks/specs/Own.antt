-- The links of one desk out of all: those of both whose pieces are on it.
use Rattle.std.specs.Prelude.{ℕ, ◌<◌, List, ◌≡◌, length, get_or}
use Rattle.rules.specs.Rings.{linked_by}
use Rattle.rules.specs.Tables.{no_link}
use Rattle.rules.specs.declared.Link.{Link}
use Rattle.blocksteps.specs.Aside.{Tied}

-- Links between the first n pieces.
pub record Between (n : ℕ) (ls : List Link) : Type 0 where
  pub before_known : (k : ℕ) → k < length ls → (get_or ls k no_link).before < n
  pub after_known : (k : ℕ) → k < length ls → (get_or ls k no_link).after < n

pub record OwnLinks (d : ℕ) (desks : List ℕ) (ls own : List Link) : Type 0 where
  pub links : Tied own
  pub same : (i j : ℕ) → get_or desks i 0 ≡ d → get_or desks j 0 ≡ d → linked_by own i j ≡ linked_by ls i j
