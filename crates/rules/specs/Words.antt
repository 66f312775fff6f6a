-- The few words that every section uses: a choice, the members of a list that pass a test, numbers in a row, sums,
-- and the least and the greatest. Each is written out here, so that a reader needs no library to follow the rules.
use Rattle.std.specs.Prelude.{ℕ, zero, suc, ◌+◌, Bool, true, false, ◌&&◌, ◌||◌, ltb, eqb, ℤ, pos}
use mathlib.Core.List.{List, [], ◌∷◌, ◌++◌}
use Rattle.std.proofs.Math.Option.{Option, none, some}
use Rattle.std.specs.Int.Signed.{lt_z}

-- The first where the test holds, the second where it does not.
unfoldable pub when : {A : Type 0} → Bool → A → A → A
when true a b = a
when false a b = b

module _ {A : Type 0} where
  -- Those of a list that pass the test, in the list's order.
  unfoldable pub keep : (A → Bool) → List A → List A
  unfolding when
  keep p [] = []
  keep p (x ∷ xs) = when (p x) (x ∷ keep p xs) (keep p xs)

  -- Each of the list passes.
  unfoldable pub every : (A → Bool) → List A → Bool
  every p [] = true
  every p (x ∷ xs) = p x && every p xs

  -- One of the list passes, or more.
  unfoldable pub one_of : (A → Bool) → List A → Bool
  one_of p [] = false
  one_of p (x ∷ xs) = p x || one_of p xs

  -- The first, if there is one, and else the second.
  unfoldable pub or_else : Option A → Option A → Option A
  or_else none b = b
  or_else (some a) b = some a

  -- Lists one behind the other.
  unfoldable pub joined : List (List A) → List A
  joined [] = []
  joined (x ∷ xs) = x ++ joined xs

-- n numbers in a row, from a on.
unfoldable pub row : ℕ → ℕ → List ℕ
row a zero = []
row a (suc n) = a ∷ row (suc a) n

-- The numbers below n.
unfoldable pub below : ℕ → List ℕ
unfolding row
below n = row 0 n

unfoldable pub sum : List ℕ → ℕ
sum [] = 0
sum (x ∷ xs) = x + sum xs

unfoldable pub greater : ℕ → ℕ → ℕ
unfolding when
greater a b = when (ltb a b) b a

-- The greatest of the list and of a.
unfoldable pub greatest : ℕ → List ℕ → ℕ
unfolding greater
greatest a [] = a
greatest a (x ∷ xs) = greater x (greatest a xs)

-- The same of signed numbers: the lesser and the greater of two, the least and the greatest of the list and of z.
unfoldable pub lesser_z : ℤ → ℤ → ℤ
unfolding when
lesser_z a b = when (lt_z b a) b a

unfoldable pub greater_z : ℤ → ℤ → ℤ
unfolding when
greater_z a b = when (lt_z a b) b a

unfoldable pub least_z : ℤ → List ℤ → ℤ
unfolding lesser_z
least_z z [] = z
least_z z (x ∷ xs) = lesser_z x (least_z z xs)

unfoldable pub greatest_z : ℤ → List ℤ → ℤ
unfolding greater_z
greatest_z z [] = z
greatest_z z (x ∷ xs) = greater_z x (greatest_z z xs)

-- The greatest of a list of signed numbers; 0 where it is empty.
unfoldable pub worst_of : List ℤ → ℤ
unfolding greatest_z
worst_of [] = pos 0
worst_of (x ∷ xs) = greatest_z x xs

-- The desk works, and on piece i.
unfoldable pub is_it : Option ℕ → ℕ → Bool
is_it none i = false
is_it (some j) i = eqb j i
