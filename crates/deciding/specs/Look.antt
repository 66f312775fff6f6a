-- A look at the open pieces: for each desk the least key of those that ask for it, or the key that is nobody's. A piece put
-- up for its desk changes the tables by minimum and addition alone, whoever asked before.
use Rattle.std.specs.Prelude.{ℕ, zero, suc, ◌+◌, ◌%◌, ◌<◌, min, List, ◌⊎◌, ◌≡◌, ltb, eqb, length, get_or, set}
use Rattle.rules.specs.Words.{when}
use Rattle.links.specs.Links.{counted}
use Rattle.steps.specs.Choice.{View, Asks, Best, Later}
use Rattle.steps.specs.Keys.{no_key}
use Rattle.steps.specs.Opening.{Among}

-- Of the pieces of S, all unfinished and waiting for none, k is the least key of those that ask for desk d.
unfoldable pub Least : View → (ℕ → Type 0) → ℕ → ℕ → Type 0
Least v S d k =
    ((k ≡ no_key) × ((j : ℕ) → S j → Asks v S d j → ⊥)) ⊎ ((x : ℕ) × (k ≡ get_or v.keys x 0) × Best v S d x)

-- The desks that somebody asks for, each once, in the first `count` places of a table. A number stands for nobody, and all
-- smaller ones are keys. The table has a place more than there are desks: one is noted before it is known whether it counts.
pub record Asked (nobody count : ℕ) (best busy : List ℕ) : Type 0 where
  pub best_sized : length best ≡ 32
  pub busy_sized : length busy ≡ 33
  pub as_many : counted (λ d. ltb (get_or best d 0) nobody) 32 ≡ count
  pub desk_most : (k : ℕ) → k < count → get_or busy k 0 < 32
  pub someone : (k : ℕ) → k < count → get_or best (get_or busy k 0) 0 < nobody
  pub once : (p q : ℕ) → p < count → q < count → get_or busy p 0 ≡ get_or busy q 0 → p ≡ q
  pub everyone : (d : ℕ) → d < 32 → get_or best d 0 < nobody → Among busy count d

-- They have been looked at: every desk's least key, the desks that work, and the first moment at which one becomes ready.
pub record Looked (v : View) (S : ℕ → Type 0) (count : ℕ) (best busy : List ℕ) (next : ℕ) : Type 0 where
  pub least : (d : ℕ) → d < 32 → Least v S d (get_or best d 0)
  pub working : Asked no_key count best busy
  pub later : Later v S next

-- A key is put up for desk d: the lesser stays, and the desk is one more of those that work if nobody asked for it yet.
pub record Picks : Type 0 where
  pub count : ℕ
  pub best : List ℕ
  pub busy : List ℕ

abbrev pub picks : ℕ → List ℕ → List ℕ → Picks
picks count best busy = record { count = count; best = best; busy = busy }

unfoldable pub offered : ℕ → ℕ → Picks → Picks
unfolding when
offered key d p =
    picks (when (eqb (get_or p.best d 0) no_key) (p.count + 1) p.count) (set p.best d (min (get_or p.best d 0) key))
    (set p.busy p.count d)

-- The piece that a key is of, and the pieces of the first k of the desks that work.
abbrev pub piece_of : ℕ → ℕ
piece_of key = key % 256

unfoldable pub named : List ℕ → List ℕ → ℕ → List ℕ → List ℕ
named best busy zero chosen = chosen
named best busy (suc k) chosen =
    set (named best busy k chosen) (get_or busy k 0) (piece_of (get_or best (get_or busy k 0) 0))
