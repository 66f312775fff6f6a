-- The worst lateness over the runs, one run after another. Assumes nothing.
use Rattle.std.proofs.Common.{ℕ, ◌+◌, ◌≤◌, ◌<◌, List, [], ◌∷◌, ◌++◌, ◌≡◌, ◌∙◌, refl, sym, ap, map, length, get_or, take}
use Rattle.std.proofs.Common.{arith, ◌^◌, ℤ, pos, ◌-ℤ◌, SFits, w32, to_z, of_z}
use Rattle.std.specs.Prelude.{nat_abs}
use Rattle.std.specs.Int.{int_max}
use Rattle.std.proofs.lemmas.Int.{ints, to_z-of_z}
use Rattle.std.proofs.lemmas.List.{map-append, take_more, take_all}
use lib.IntN.{negsuc}
use lib.Signed.{mag}
use Rattle.rules.specs.Words.{when, greater_z, greatest_z, worst_of}
use Rattle.rules.specs.Tables.{no_run}
use Rattle.rules.specs.declared.Run.{Run}
use Rattle.laws.proofs.Signed.{up, dn, minus}

-- A difference of moments that are near fits.
pub late_fits : (u : ℕ) (z : ℤ) → u ≤ 100000000 → nat_abs z ≤ 100000000 → SFits w32 (pos u -ℤ z)
unfolding up dn
late_fits u z h k = record { sfits = omega (arith, small (pos u -ℤ z) (minus (pos u) z), parts z) }
  where
    parts : (z : ℤ) → nat_abs z ≡ up z + dn z
    parts (pos n) = omega arith
    parts (negsuc n) = omega arith

    small : (x : ℤ) → up x + (0 + up z) ≡ u + dn z + dn x → mag x ≤ u + up z + dn z
    small (pos n) e = omega arith
    small (negsuc n) e = omega arith

-- What is read back from its bits.
pub back : (z : ℤ) → mag z < 2 ^ 31 → to_z w32 (of_z w32 z) ≡ z
back z h = let f : SFits w32 z = record { sfits = h } in to_z-of_z w32 z f

greater_is : (a b : ℤ) → greater_z a b ≡ int_max a b
unfolding greater_z when
greater_is a b = grind (arith, ints)

max_comm : (a b : ℤ) → int_max a b ≡ int_max b a
max_comm a b = grind (arith, ints)

max_assoc : (a b c : ℤ) → int_max a (int_max b c) ≡ int_max (int_max a b) c
max_assoc a b c = grind (arith, ints)

-- One number more at the end, and the first one once more.
greatest_more : (z : ℤ) (xs : List ℤ) (x : ℤ) → greatest_z z (xs ++ (x ∷ [])) ≡ int_max (greatest_z z xs) x
unfolding greatest_z
greatest_more z [] x = greater_is x z ∙ max_comm x z
greatest_more z (y ∷ xs) x =
    ap (greater_z y) (greatest_more z xs x) ∙ greater_is y (int_max (greatest_z z xs) x)
    ∙ max_assoc y (greatest_z z xs) x ∙ ap (λ (m : ℤ). int_max m x) (sym (greater_is y (greatest_z z xs)))

greatest_again : (z : ℤ) (xs : List ℤ) → greatest_z z (z ∷ xs) ≡ greatest_z z xs
unfolding greatest_z
greatest_again z [] = greater_is z z ∙ same z
  where
    same : (a : ℤ) → int_max a a ≡ a
    same a = grind (arith, ints)
greatest_again z (y ∷ xs) =
    greater_is z (greater_z y (greatest_z z xs)) ∙ ap (int_max z) (greater_is y (greatest_z z xs))
    ∙ max_assoc z y (greatest_z z xs) ∙ ap (λ (m : ℤ). int_max m (greatest_z z xs)) (max_comm z y)
    ∙ sym (max_assoc y z (greatest_z z xs))
    ∙ sym (greater_is y (int_max z (greatest_z z xs)))
    ∙ ap (greater_z y) (sym (greater_is z (greatest_z z xs)) ∙ greatest_again z xs)

-- The worst of the first k runs and of the first one.
module _ (late : Run → ℤ) (runs : List Run) where
  abbrev pub first : Run
  first = get_or runs 0 no_run

  abbrev pub WorstTo : ℕ → ℤ
  WorstTo k = greatest_z (late first) (map late (take k runs))

  pub worst_none : late first ≡ WorstTo 0
  unfolding greatest_z
  worst_none = refl

  pub worst_more : (k : ℕ) → k < length runs → int_max (WorstTo k) (late (get_or runs k no_run)) ≡ WorstTo (k + 1)
  worst_more k h =
      sym (ap (λ (l : List Run). greatest_z (late first) (map late l)) (take_more runs k no_run h)
      ∙ ap (greatest_z (late first)) (map-append late (take k runs) (get_or runs k no_run ∷ []))
      ∙ greatest_more (late first) (map late (take k runs)) (late (get_or runs k no_run)))

pub worst_all : (late : Run → ℤ) (runs : List Run) (k : ℕ) → 0 < length runs → length runs ≤ k
    → WorstTo late runs k ≡ worst_of (map late runs)
unfolding worst_of
worst_all late [] k h l = absurd (omega arith)
worst_all late (r ∷ runs) k h l =
    ap (λ (q : List Run). greatest_z (late r) (map late q)) (take_all k (r ∷ runs) l)
    ∙ greatest_again (late r) (map late runs)

pub worst_nothing : (late : Run → ℤ) (runs : List Run) → length runs ≡ 0 → pos 0 ≡ worst_of (map late runs)
unfolding worst_of
worst_nothing late [] h = refl
worst_nothing late (r ∷ runs) h = absurd (omega arith)
