-- One decision over the tables: who every desk works on from a moment on, and the next moment at which something is
-- decided anew. 4,294,967,295 stands for no later moment.
use Rattle.std.specs.Prelude.{ℕ, zero, suc, ◌+◌, ◌≤◌, ◌<◌, min, List, ◌⊎◌, ◌≡◌, length, get_or}
use Rattle.steps.specs.Opening.{Among}

-- What a decision looks at: the moment, and for each piece its desk, its key, the slots left of it, and from when on it
-- may be ready.
pub record View : Type 0 where
  pub moment : ℕ
  pub desks : List ℕ
  pub keys : List ℕ
  pub left : List ℕ
  pub ready : List ℕ

abbrev pub view : ℕ → List ℕ → List ℕ → List ℕ → List ℕ → View
view t desks keys left ready =
    record { moment = t; desks = desks; keys = keys; left = left; ready = ready }

abbrev pub never : ℕ
never = 4294967295

-- Among the pieces of S, all unfinished and waiting for none.
module _ (v : View) (S : ℕ → Type 0) where
  -- Piece i asks for desk d: it is on it, and ready.
  abbrev pub Asks : ℕ → ℕ → Type 0
  Asks d i = (get_or v.desks i 0 ≡ d) × (get_or v.ready i 0 ≤ v.moment)

  -- Piece x asks for desk d, and nobody who does goes before it.
  pub record Best (d x : ℕ) : Type 0 where
    pub inside : S x
    pub asks : Asks d x
    pub first : (j : ℕ) → S j → Asks d j → get_or v.keys x 0 ≤ get_or v.keys j 0

  -- The choice of desk d, the desks that work being those in the first `count` places of `busy`: it is one of them, and
  -- `chosen` has its piece; or it rests, since nobody asks for it.
  unfoldable pub Choice : ℕ → List ℕ → List ℕ → ℕ → Type 0
  Choice count chosen busy d =
      (Among busy count d × Best d (get_or chosen d 0)) ⊎ ((Among busy count d → ⊥) × ((j : ℕ) → S j → Asks d j → ⊥))

  -- The first later moment at which one of them becomes ready.
  pub record Later (next : ℕ) : Type 0 where
    pub most : next ≤ never
    pub above : v.moment < never → v.moment < next
    pub counts : (j : ℕ) → S j → v.moment < get_or v.ready j 0 → next ≤ get_or v.ready j 0
    pub from : (next ≡ never) ⊎ ((j : ℕ) × S j)

-- The desks that work, each once, in the first `count` places of a table. It has a place more than there are desks: one is
-- noted before it is known whether it counts.
pub record Busy (count : ℕ) (chosen busy : List ℕ) : Type 0 where
  pub chosen_sized : length chosen ≡ 32
  pub busy_sized : length busy ≡ 33
  pub few : count ≤ 32
  pub desk_most : (k : ℕ) → k < count → get_or busy k 0 < 32
  pub once : (p q : ℕ) → p < count → q < count → get_or busy p 0 ≡ get_or busy q 0 → p ≡ q

-- The choice of the k-th of the desks that work.
abbrev pub whom : List ℕ → List ℕ → ℕ → ℕ
whom chosen busy k = get_or chosen (get_or busy k 0) 0

-- The moments at which the pieces f 0 to f (k - 1) would be finished count too.
unfoldable pub end_next : ℕ → List ℕ → (ℕ → ℕ) → ℕ → ℕ → ℕ
end_next t left f zero next = next
end_next t left f (suc k) next = min (end_next t left f k next) (t + get_or left (f k) 0)

-- The open pieces looked at: every desk's choice, the desks that work, and the first moment at which one becomes ready.
pub record LookedAt (v : View) (S : ℕ → Type 0) (count : ℕ) (chosen busy : List ℕ) (next : ℕ) : Type 0 where
  pub choices : (d : ℕ) → d < 32 → Choice v S count chosen busy d
  pub working : Busy count chosen busy
  pub later : Later v S next

-- The whole decision: the next moment is that one, or an end before it.
pub record Decided (v : View) (S : ℕ → Type 0) (count : ℕ) (chosen busy : List ℕ) (next : ℕ) : Type 0 where
  pub soon : ℕ
  pub looked_at : LookedAt v S count chosen busy soon
  pub next_is : next ≡ end_next v.moment v.left (whom chosen busy) count soon
