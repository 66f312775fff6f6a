-- The open pieces: those that are unfinished and wait for no piece. They stand in the first places of a table, in any
-- order, and another table says where; a decision looks at no others.
use Rattle.std.specs.Prelude.{ℕ, zero, suc, ◌%◌, ◌≤◌, ◌<◌, Bool, true, false, List, ◌≡◌, ltb, eqb, length, get_or}
use Rattle.rules.specs.Words.{when}
use Rattle.links.specs.Links.{counted}
use Rattle.steps.specs.Keys.{no_key}

-- One of the first k places of the table has i.
abbrev pub Among : List ℕ → ℕ → ℕ → Type 0
Among table k i = (q : ℕ) × (q < k) × (get_or table q 0 ≡ i)

-- By the slots left of it piece i is unfinished.
abbrev pub unfinished : List ℕ → ℕ → Bool
unfinished left i = ltb 0 (get_or left i 0)

-- Of n pieces, those of U being unfinished, the first `opened` of the table are open, and every open piece is there. They
-- are no more than wait for none, so the table has room for one that waits no longer.
pub record Opening (n opened : ℕ) (table place : List ℕ) (U : ℕ → Bool) (waits : List ℕ) : Type 0 where
  pub sized : length table ≡ 256
  pub place_sized : length place ≡ 256
  pub waits_sized : length waits ≡ 256
  pub room : opened ≤ counted (λ i. eqb (get_or waits i 0) 0) n
  pub inside : (q : ℕ) → q < opened → get_or table q 0 < n
  pub placed : (q : ℕ) → q < opened → get_or place (get_or table q 0) 0 ≡ q
  pub idle : (q : ℕ) → q < opened → get_or waits (get_or table q 0) 0 ≡ 0
  pub fresh : (q : ℕ) → q < opened → U (get_or table q 0) ≡ true
  pub everyone : (i : ℕ) → i < n → get_or waits i 0 ≡ 0 → U i ≡ true → Among table opened i
  pub whole : (i : ℕ) → i < n → 0 < get_or waits i 0 → U i ≡ true

-- There is room for every piece that one of the first m links leads to, whatever the number of pieces.
pub record Room (m : ℕ) (afters : List ℕ) (opened : ℕ) (table place waits : List ℕ) : Type 0 where
  pub pieces : ℕ
  pub among : ℕ → Bool
  pub few : pieces ≤ 256
  pub after_one : (k : ℕ) → k < m → get_or afters k 0 < pieces
  pub opening : Opening pieces opened table place among waits

-- What links open.
pub record Opens (m : ℕ) (afters : List ℕ) (opened : ℕ) (table place waits : List ℕ)
    (opened' : ℕ) (table' place' waits' : List ℕ) : Type 0 where
  pub opening : (n : ℕ) (U : ℕ → Bool) → n ≤ 256 → ((k : ℕ) → k < m → get_or afters k 0 < n)
      → Opening n opened table place U waits → Opening n opened' table' place' U waits'
  pub stays : (j : ℕ) → Among table opened j → Among table' opened' j

-- The places of the first pieces of the table can be noted: each stands there once.
pub record Markable (opened : ℕ) (table place : List ℕ) : Type 0 where
  pub sized : length place ≡ 256
  pub few : opened ≤ 256
  pub small : (q : ℕ) → q < opened → get_or table q 0 < 256
  pub once : (p q : ℕ) → p < opened → q < opened → get_or table p 0 ≡ get_or table q 0 → p ≡ q

-- Piece i can be closed: it is open. And what is open once it is.
pub record Closable (i opened : ℕ) (table place : List ℕ) : Type 0 where
  pub pieces : ℕ
  pub among : ℕ → Bool
  pub waits : List ℕ
  pub few : pieces ≤ 256
  pub there : Among table opened i
  pub opening : Opening pieces opened table place among waits

pub record Closes (i opened : ℕ) (table place : List ℕ) (opened' : ℕ) (table' place' : List ℕ) : Type 0 where
  pub opening : (n : ℕ) (U U' : ℕ → Bool) (waits : List ℕ) → n ≤ 256 → ((j : ℕ) → (j ≡ i → ⊥) → U' j ≡ U j)
      → U' i ≡ false → Opening n opened table place U waits → Opening n opened' table' place' U' waits
  pub stays : (j : ℕ) → Among table opened j → (j ≡ i → ⊥) → Among table' opened' j

-- Piece i was worked on: what is open once it is seen whether that finished it.
pub record Hands (m : ℕ) (afters : List ℕ) (i : ℕ) (left : List ℕ) (opened : ℕ) (table place waits : List ℕ)
    (opened' : ℕ) (table' place' waits' : List ℕ) : Type 0 where
  pub opening : (n : ℕ) (U U' : ℕ → Bool) → n ≤ 256 → ((k : ℕ) → k < m → get_or afters k 0 < n)
      → ((j : ℕ) → (j ≡ i → ⊥) → U' j ≡ U j) → U' i ≡ unfinished left i → Opening n opened table place U waits
      → Opening n opened' table' place' U' waits'
  pub stays : (j : ℕ) → Among table opened j → (j ≡ i → ⊥) → Among table' opened' j

-- The pieces that the desks chose are open, and no two are one.
pub record Working (count : ℕ) (chosen busy : List ℕ) (opened : ℕ) (table : List ℕ) : Type 0 where
  pub there : (q : ℕ) → q < count → Among table opened (get_or chosen (get_or busy q 0) 0)
  pub apart : (p q : ℕ) → p < count → q < count
      → get_or chosen (get_or busy p 0) 0 ≡ get_or chosen (get_or busy q 0) 0 → p ≡ q

-- Who is unfinished once the first k of the desks that work have been looked at.
unfoldable pub spent_to : List ℕ → List ℕ → List ℕ → (ℕ → Bool) → ℕ → ℕ → Bool
unfolding when
spent_to chosen busy left U zero j = U j
spent_to chosen busy left U (suc k) j =
    when (eqb j (get_or chosen (get_or busy k 0) 0)) (unfinished left j) (spent_to chosen busy left U k j)

-- A look at open pieces stays inside the tables of the n pieces and of the desks, and the last eight bits of each key that
-- it meets tell whose it is.
pub record Lookable (n : ℕ) (opened desks keys : List ℕ) : Type 0 where
  pub few : n ≤ 256
  pub small : (q : ℕ) → q < length opened → get_or opened q 0 < n
  pub desk_most : (q : ℕ) → q < length opened → get_or desks (get_or opened q 0) 0 < 32
  pub telling : (q : ℕ) → q < length opened → get_or keys (get_or opened q 0) 0 % 256 ≡ get_or opened q 0
  pub own_key : (q : ℕ) → q < length opened → get_or keys (get_or opened q 0) 0 < no_key
