-- Lists of entries: membership, different numbers, an element that passes a test. Assumes nothing.
use mathlib.Core.Path.{◌≡◌, refl, sym, ap, ◌∙◌}
use mathlib.Core.Logic.{◌⊎◌, inl, inr, ⊎_elim}
use mathlib.Core.Bool.{Bool, true, false}
use mathlib.Core.List.Memᴰ
use mathlib.Core.List.{List, [], ◌∷◌, ◌++◌, map, Memᴰ}
use mathlib.Core.List.Memᴰ.{head as here}
use mathlib.Core.List.Memᴰ.{tail as there}
use Prim.Native.Nat.{ℕ, ◌+◌}
use native.Mathlib.Omega.{arith}
use Rattle.rules.specs.Words.{one_of, sum}
use Rattle.laws.proofs.Words.{by_test, one_of_found, one_of-none}

infix 50 ◌∈◌
abbrev pub ◌∈◌ : {A : Type 0} → A → List A → Type 0
a ∈ L = Memᴰ a L

module _ {A : Type 0} where
  -- an element of a list with a head is the head or behind it
  pub by-mem {ℓ} : {P : Type ℓ} {a x : A} {L : List A} → a ∈ x ∷ L → (a ≡ x → P) → (a ∈ L → P) → P
  by-mem (here e) first behind = first e
  by-mem (there m) first behind = behind m

  -- an element that passes the test, or none does
  pub find : (p : A → Bool) (L : List A) → ((a : A) × (a ∈ L) × (p a ≡ true)) ⊎ ((a : A) → a ∈ L → p a ≡ false)
  find p L = by_test (one_of p L) (λ e. inl (one_of_found p L e)) (λ e. inr (one_of-none p L e))

  abbrev pub sum_of : (A → ℕ) → List A → ℕ
  sum_of f L = sum (map f L)

  pub sum_cons : (f : A → ℕ) (x : A) (L : List A) → sum_of f (x ∷ L) ≡ f x + sum_of f L
  unfolding sum
  sum_cons f x L = refl

  -- no two elements have the same number
  module _ (num : A → ℕ) where
    abbrev pub Distinct : List A → Type 0
    Distinct [] = Unit {0}
    Distinct (x ∷ L) = ((a : A) → a ∈ L → num a ≡ num x → ⊥) × Distinct L

    pub same_number : (L : List A) → Distinct L → (a b : A) → a ∈ L → b ∈ L → num a ≡ num b → a ≡ b
    same_number [] d a b never _ e = elim never [ ]
    same_number (x ∷ L) d a b (here p) (here q) e = p ∙ sym q
    same_number (x ∷ L) d a b (here p) (there n) e = absurd (d.0 b n (sym e ∙ ap num p))
    same_number (x ∷ L) d a b (there m) (here q) e = absurd (d.0 a m (e ∙ ap num q))
    same_number (x ∷ L) d a b (there m) (there n) e = same_number L d.1 a b m n e

-- one element more at the end
pub sum_snoc : {A : Type 0} (f : A → ℕ) (L : List A) (x : A) → sum_of f (L ++ (x ∷ [])) ≡ sum_of f L + f x
unfolding sum
sum_snoc f [] x = omega arith
sum_snoc f (y ∷ L) x = omega (arith, sum_snoc f L x)

pub distinct_snoc : {A : Type 0} (num : A → ℕ) (L : List A) (x : A) → Distinct num L
    → ((a : A) → a ∈ L → num a ≡ num x → ⊥) → Distinct num (L ++ (x ∷ []))
distinct_snoc num [] x d apart = (λ a m. elim m [ ], tt)
distinct_snoc num (y ∷ L) x d apart = (
  λ a m e.
      ⊎_elim
      (λ n. d.0 a n e)
      (λ n. apart y (here refl) (sym e ∙ ap num (Memᴰ.eq_of_singleton n)))
      (Memᴰ.append_cases L m),
  distinct_snoc num L x d.1 (λ a m. apart a (there m)),
)

-- an element of a mapped list comes from one of the list
pub map_mem : {A B : Type 0} (f : A → B) (L : List A) (y : B) → y ∈ map f L → (a : A) × (a ∈ L) × (y ≡ f a)
map_mem {A = A} {B = B} f [] y m = elim m [ ]
map_mem f (x ∷ L) y m =
    by-mem m
    (λ p. (x, here refl, p))
    (λ n. let r = map_mem f L y n in (r.0, there r.1, r.2))
