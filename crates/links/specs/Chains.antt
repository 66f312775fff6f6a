-- Chains of links with the same key, as `Chains::chain` lays them: from the last such link back to the first.
use Rattle.std.specs.Prelude.{ℕ, zero, suc, ◌≤◌, ◌<◌, List, ◌≡◌, eqb, length, get_or, Option, Some, None}
use Rattle.rules.specs.Words.{when}

-- A place as the tables of the chains hold it: one more than the place, and 0 where there is none.
abbrev pub code_of : Option ℕ → ℕ
code_of None = 0
code_of (Some k) = suc k

-- One more than the place of the last of the first n keys that is i; 0 where none is.
unfoldable pub last_with : List ℕ → ℕ → ℕ → ℕ
unfolding when
last_with keys i zero = 0
last_with keys i (suc k) = when (eqb (get_or keys k 0) i) (suc k) (last_with keys i k)

-- The chains of the first n keys, in tables for 256 pieces and 1,024 links.
pub record Chained (keys : List ℕ) (n : ℕ) (last prior : List ℕ) : Type 0 where
  pub last_sized : length last ≡ 256
  pub prior_sized : length prior ≡ 1024
  pub ends : (i : ℕ) → i < 256 → get_or last i 0 ≡ last_with keys i n
  pub goes_on : (k : ℕ) → k < n → get_or prior k 0 ≡ last_with keys (get_or keys k 0) k

-- What the chains are made of: at most 1,024 keys below 256, and a table of last ones that is still clear.
pub record ToChain (keys : List ℕ) (n : ℕ) (last : List ℕ) : Type 0 where
  pub few : n ≤ 1024
  pub small : (k : ℕ) → k < n → get_or keys k 0 < 256
  pub cleared : (i : ℕ) → i < 256 → get_or last i 0 ≡ 0
