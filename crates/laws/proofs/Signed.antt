-- Signed numbers as two natural ones: z is `up z` less `dn z`. Orders and differences of signed numbers become sums of
-- natural ones, which the arithmetic of the checker decides.
use Prim.Native.Nat.{ℕ, zero, suc, ◌+◌, ◌≤◌, ◌<◌}
use mathlib.Core.Bool.{true, false}
use mathlib.Core.List.Memᴰ.{head as here}
use mathlib.Core.List.Memᴰ.{tail as there}
use mathlib.Core.List.{List, [], ◌∷◌, map, Memᴰ as Mem}
use mathlib.Core.Path.{◌≡◌, refl, sym, ap}
use native.Mathlib.Omega.{arith}
use borrow.Author.Tests.{ltb-true, ltb-false, leb-true, leb-false}
use lib.Dec.{ltb}
use lib.IntN.{ℤ, pos, negsuc, ◌-ℤ◌}
use lib.Signed.{lt_z, le_z}
use Rattle.rules.specs.Words.{when, lesser_z, greater_z, least_z, greatest_z}
use Rattle.laws.proofs.Words.{by_test, true_or_false, on_tail}

unfoldable pub up : ℤ → ℕ
up (pos n) = n
up (negsuc n) = 0

unfoldable pub dn : ℤ → ℕ
dn (pos n) = 0
dn (negsuc n) = suc n

infix 50 ◌≼◌ ◌≺◌
-- a is at most b, and a is below b, in natural numbers.
abbrev pub ◌≼◌ : ℤ → ℤ → Type 0
a ≼ b = up a + dn b ≤ up b + dn a

abbrev pub ◌≺◌ : ℤ → ℤ → Type 0
a ≺ b = up a + dn b < up b + dn a

pub lt_z_lt : (a b : ℤ) → lt_z a b ≡ true → a ≺ b
unfolding up dn
lt_z_lt (pos a) (pos b) h = omega (arith, ltb-true a b h)
lt_z_lt (pos a) (negsuc b) h = true_or_false (sym h)
lt_z_lt (negsuc a) (pos b) h = omega arith
lt_z_lt (negsuc a) (negsuc b) h = omega (arith, ltb-true b a h)

pub lt_z_le : (a b : ℤ) → lt_z a b ≡ false → b ≼ a
unfolding up dn
lt_z_le (pos a) (pos b) h = omega (arith, ltb-false a b h)
lt_z_le (pos a) (negsuc b) h = omega arith
lt_z_le (negsuc a) (pos b) h = true_or_false h
lt_z_le (negsuc a) (negsuc b) h = omega (arith, ltb-false b a h)

pub le_z_le : (a b : ℤ) → le_z a b ≡ true → a ≼ b
unfolding up dn
le_z_le (pos a) (pos b) h = omega (arith, leb-true a b h)
le_z_le (pos a) (negsuc b) h = true_or_false (sym h)
le_z_le (negsuc a) (pos b) h = omega arith
le_z_le (negsuc a) (negsuc b) h = omega (arith, leb-true b a h)

pub le_z_lt : (a b : ℤ) → le_z a b ≡ false → b ≺ a
unfolding up dn
le_z_lt (pos a) (pos b) h = omega (arith, leb-false a b h)
le_z_lt (pos a) (negsuc b) h = omega arith
le_z_lt (negsuc a) (pos b) h = true_or_false h
le_z_lt (negsuc a) (negsuc b) h = omega (arith, leb-false b a h)

-- The other way round: the test from the fact.
pub lt_lt_z : (a b : ℤ) → a ≺ b → lt_z a b ≡ true
lt_lt_z a b h = by_test (lt_z a b) (λ e. e) (λ e. absurd (omega (arith, lt_z_le a b e)))

pub le_le_z : (a b : ℤ) → a ≼ b → le_z a b ≡ true
le_le_z a b h = by_test (le_z a b) (λ e. e) (λ e. absurd (omega (arith, le_z_lt a b e)))

pub le_lt_z : (a b : ℤ) → b ≼ a → lt_z a b ≡ false
le_lt_z a b h = by_test (lt_z a b) (λ e. absurd (omega (arith, lt_z_lt a b e))) (λ e. e)

pub lt_le_z : (a b : ℤ) → b ≺ a → le_z a b ≡ false
lt_le_z a b h = by_test (le_z a b) (λ e. absurd (omega (arith, le_z_le a b e))) (λ e. e)

-- Two signed numbers neither of which is below the other are one.
pub same : (a b : ℤ) → up a + dn b ≡ up b + dn a → a ≡ b
unfolding up dn
same (pos a) (pos b) h = ap pos (omega arith)
same (pos a) (negsuc b) h = absurd (omega arith)
same (negsuc a) (pos b) h = absurd (omega arith)
same (negsuc a) (negsuc b) h = ap negsuc (omega arith)

-- A difference.
pub minus : (a b : ℤ) → up (a -ℤ b) + (dn a + up b) ≡ up a + dn b + dn (a -ℤ b)
unfolding up dn
minus (pos a) (pos zero) = omega arith
minus (pos a) (pos (suc k)) = by_test (ltb a (suc k))
    (λ e. rw e (omega (arith, ltb-true a (suc k) e)))
    (λ e. rw e (omega (arith, ltb-false a (suc k) e)))
minus (pos a) (negsuc k) = omega arith
minus (negsuc a) (pos zero) = by_test (ltb 0 (suc a))
    (λ e. rw e (omega (arith, ltb-true 0 (suc a) e)))
    (λ e. rw e (omega (arith, ltb-false 0 (suc a) e)))
minus (negsuc a) (pos (suc k)) = omega arith
minus (negsuc a) (negsuc k) = by_test (ltb (suc k) (suc a))
    (λ e. rw e (omega (arith, ltb-true (suc k) (suc a) e)))
    (λ e. rw e (omega (arith, ltb-false (suc k) (suc a) e)))

-- So many below zero.
unfoldable pub below-zero : ℕ → ℤ
below-zero k = pos 0 -ℤ pos k

pub below_zero_is : (k : ℕ) → dn (below-zero k) ≡ up (below-zero k) + k
unfolding below-zero up dn
below_zero_is k = omega (arith, minus (pos 0) (pos k))

-- The lesser and the greater of two.
pub lesser_left : (a b : ℤ) → lesser_z a b ≼ a
unfolding lesser_z
lesser_left a b = by_test (lt_z b a) (λ e. rw (e, when) (omega (arith, lt_z_lt b a e))) (λ e. rw (e, when) (omega arith))

pub lesser_right : (a b : ℤ) → lesser_z a b ≼ b
unfolding lesser_z
lesser_right a b = by_test (lt_z b a) (λ e. rw (e, when) (omega arith)) (λ e. rw (e, when) (omega (arith, lt_z_le b a e)))

pub lesser_most : (a b c : ℤ) → c ≼ a → c ≼ b → c ≼ lesser_z a b
unfolding lesser_z
lesser_most a b c h k = by_test (lt_z b a) (λ e. rw (e, when) k) (λ e. rw (e, when) h)

pub greater_z_left : (a b : ℤ) → a ≼ greater_z a b
unfolding greater_z
greater_z_left a b = by_test (lt_z a b) (λ e. rw (e, when) (omega (arith, lt_z_lt a b e))) (λ e. rw (e, when) (omega arith))

pub greater_z_right : (a b : ℤ) → b ≼ greater_z a b
unfolding greater_z
greater_z_right a b = by_test (lt_z a b) (λ e. rw (e, when) (omega arith)) (λ e. rw (e, when) (omega (arith, lt_z_le a b e)))

pub greater_z_least : (a b c : ℤ) → a ≼ c → b ≼ c → greater_z a b ≼ c
unfolding greater_z
greater_z_least a b c h k = by_test (lt_z a b) (λ e. rw (e, when) k) (λ e. rw (e, when) h)

-- The least and the greatest of a list and of z.
pub least_start : (z : ℤ) (l : List ℤ) → least_z z l ≼ z
unfolding least_z
least_start z [] = omega arith
least_start z (x ∷ xs) =
    let ih : least_z z xs ≼ z = least_start z xs in omega (arith, lesser_right x (least_z z xs))

pub least_mem : (z : ℤ) (l : List ℤ) (x : ℤ) → Mem x l → least_z z l ≼ x
unfolding least_z
least_mem z [] _ never = elim never [ ]
least_mem z (y ∷ ys) x (here e) =
    let h : least_z z (y ∷ ys) ≼ y = lesser_left y (least_z z ys) in rw e h
least_mem z (y ∷ ys) x (there m) =
    let ih : least_z z ys ≼ x = least_mem z ys x m in omega (arith, lesser_right y (least_z z ys))

pub least_most : (z c : ℤ) (l : List ℤ) → c ≼ z → ((x : ℤ) → Mem x l → c ≼ x) → c ≼ least_z z l
unfolding least_z
least_most z c [] h k = h
least_most z c (x ∷ xs) h k =
    lesser_most x (least_z z xs) c (k x (here refl)) (least_most z c xs h (on_tail x xs k))

-- The same over a table.
pub least_within : {A : Type 0} (z c : ℤ) (f : A → ℤ) (l : List A) → c ≼ z → ((x : A) → Mem x l → c ≼ f x)
    → c ≼ least_z z (map f l)
unfolding least_z
least_within z c f [] h k = h
least_within z c f (x ∷ xs) h k =
    lesser_most (f x) (least_z z (map f xs)) c (k x (here refl)) (least_within z c f xs h (on_tail x xs k))

pub greatest_z_start : (z : ℤ) (l : List ℤ) → z ≼ greatest_z z l
unfolding greatest_z
greatest_z_start z [] = omega arith
greatest_z_start z (x ∷ xs) =
    let ih : z ≼ greatest_z z xs = greatest_z_start z xs in omega (arith, greater_z_right x (greatest_z z xs))

pub greatest_z_mem : (z : ℤ) (l : List ℤ) (x : ℤ) → Mem x l → x ≼ greatest_z z l
unfolding greatest_z
greatest_z_mem z [] _ never = elim never [ ]
greatest_z_mem z (y ∷ ys) x (here e) =
    let h : y ≼ greatest_z z (y ∷ ys) = greater_z_left y (greatest_z z ys) in rw e h
greatest_z_mem z (y ∷ ys) x (there m) =
    let ih : x ≼ greatest_z z ys = greatest_z_mem z ys x m in omega (arith, greater_z_right y (greatest_z z ys))

pub greatest_z_least : (z c : ℤ) (l : List ℤ) → z ≼ c → ((x : ℤ) → Mem x l → x ≼ c) → greatest_z z l ≼ c
unfolding greatest_z
greatest_z_least z c [] h k = h
greatest_z_least z c (x ∷ xs) h k =
    greater_z_least x (greatest_z z xs) c (k x (here refl)) (greatest_z_least z c xs h (on_tail x xs k))
