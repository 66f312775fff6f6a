-- The order of urgency, `sooner`, as far as the desk needs it: a strict order that is total on different numbers.
-- Sorting by it, LEAST urgent first, keeps the entries and puts them in order. Assumes nothing.
use mathlib.Core.Path.{◌≡◌, refl, sym, ap, ◌∙◌}
use mathlib.Core.Bool.{Bool, true, false}
use mathlib.Core.List.{List, [], ◌∷◌}
use mathlib.Core.List.Memᴰ.{head as here}
use mathlib.Core.List.Memᴰ.{tail as there}
use Prim.Native.Nat.{ℕ, suc, ◌+◌, ◌≤◌}
use native.Mathlib.Omega.{arith}
use lib.ListN.{length}
use Rattle.laws.proofs.Words.{by_test}
use Rattle.theory.proofs.Lists.{◌∈◌, by-mem, Distinct, sum_of, sum_cons}

pub record Urgency {E : Type 0} (num : E → ℕ) (sooner : E → E → Bool) : Type 0 where
  pub asym : (a b : E) → sooner a b ≡ true → sooner b a ≡ true → ⊥
  pub trans : (a b c : E) → sooner a b ≡ true → sooner b c ≡ true → sooner a c ≡ true
  pub total : (a b : E) → (num a ≡ num b → ⊥) → sooner a b ≡ false → sooner b a ≡ true

-- no number behind is smaller
abbrev pub Climbs : {E : Type 0} → (E → ℕ) → List E → Type 0
Climbs key [] = Unit {0}
Climbs {E} key (x ∷ L) = ((f : E) → f ∈ L → key x ≤ key f) × Climbs key L

module _ {E : Type 0} (sooner : E → E → Bool) where
  -- each entry is less urgent than all behind it
  abbrev pub Ordered : List E → Type 0
  Ordered [] = Unit {0}
  Ordered (x ∷ L) = ((f : E) → f ∈ L → sooner f x ≡ true) × Ordered L

  -- with every entry of the set the sooner ones are in it
  abbrev pub UpClosed : List E → (E → Bool) → Type 0
  UpClosed L X = (e f : E) → e ∈ L → f ∈ L → sooner e f ≡ true → X f ≡ true → X e ≡ true

  unfoldable pub insert : E → List E → List E
  insert x [] = x ∷ []
  insert x (y ∷ L) = elim (sooner y x) [ true ↦ x ∷ y ∷ L | false ↦ y ∷ insert x L ]

  unfoldable pub sorted : List E → List E
  sorted [] = []
  sorted (x ∷ L) = insert x (sorted L)

  insert_front : (x y : E) (L : List E) → sooner y x ≡ true → insert x (y ∷ L) ≡ x ∷ y ∷ L
  unfolding insert
  insert_front x y L h = rw (h, insert)

  insert_behind : (x y : E) (L : List E) → sooner y x ≡ false → insert x (y ∷ L) ≡ y ∷ insert x L
  unfolding insert
  insert_behind x y L h = rw (h, insert)

  insert_here : (x : E) (L : List E) → x ∈ insert x L
  unfolding insert
  insert_here x [] = here refl
  insert_here x (y ∷ L) =
      by_test (sooner y x)
      (λ h. rw (insert_front x y L h) (here refl))
      (λ h. rw (insert_behind x y L h) (there (insert_here x L)))

  insert_there : (x : E) (L : List E) (e : E) → e ∈ L → e ∈ insert x L
  insert_there _ [] e m = elim m [ ]
  insert_there x (y ∷ L) e m =
      by_test (sooner y x)
      (λ h. rw (insert_front x y L h) (there m))
      (λ h. rw (insert_behind x y L h) (by-mem m (λ p. here p) (λ n. there (insert_there x L e n))))

  insert_from : {P : Type 0} (x : E) (L : List E) (e : E) → e ∈ insert x L → (e ≡ x → P) → (e ∈ L → P) → P
  unfolding insert
  insert_from x [] e m new old = by-mem m new old
  insert_from {P} x (y ∷ L) e m new old =
      by_test (sooner y x)
      (λ h. let n : e ∈ x ∷ y ∷ L = rw (insert_front x y L h) at m in by-mem n new old)
      (λ h.
      let n : e ∈ y ∷ insert x L = rw (insert_behind x y L h) at m in
      by-mem n (λ p. old (here p)) (λ k. insert_from x L e k new (λ o. old (there o))))

  pub sorted_mem : (L : List E) (e : E) → e ∈ L → e ∈ sorted L
  unfolding sorted
  sorted_mem [] e m = elim m [ ]
  sorted_mem (x ∷ L) e m =
      by-mem m
      (λ p. rw p (insert_here x (sorted L)))
      (λ n. insert_there x (sorted L) e (sorted_mem L e n))

  pub mem_sorted : (L : List E) (e : E) → e ∈ sorted L → e ∈ L
  unfolding sorted
  mem_sorted [] e m = m
  mem_sorted (x ∷ L) e m = insert_from x (sorted L) e m (λ p. here p) (λ n. there (mem_sorted L e n))

  -- sorting keeps every sum
  insert_sum : (f : E → ℕ) (x : E) (L : List E) → sum_of f (insert x L) ≡ f x + sum_of f L
  unfolding insert
  insert_sum f x [] = sum_cons f x []
  insert_sum f x (y ∷ L) =
      by_test (sooner y x)
      (λ h. rw (insert_front x y L h) (sum_cons f x (y ∷ L)))
      (λ h.
      rw (insert_behind x y L h)
      (omega (arith, sum_cons f y (insert x L), sum_cons f y L, insert_sum f x L)))

  pub sorted_sum : (f : E → ℕ) (L : List E) → sum_of f (sorted L) ≡ sum_of f L
  unfolding sorted
  sorted_sum f [] = refl
  sorted_sum f (x ∷ L) = omega (arith, insert_sum f x (sorted L), sum_cons f x L, sorted_sum f L)

  insert_length : (x : E) (L : List E) → length (insert x L) ≡ suc (length L)
  unfolding insert
  insert_length x [] = refl
  insert_length x (y ∷ L) =
      by_test (sooner y x)
      (λ h. rw (insert_front x y L h))
      (λ h. rw (insert_behind x y L h) (ap suc (insert_length x L)))

  pub sorted_length : (L : List E) → length (sorted L) ≡ length L
  unfolding sorted
  sorted_length [] = refl
  sorted_length (x ∷ L) = insert_length x (sorted L) ∙ ap suc (sorted_length L)

  -- by a number that the order follows, sorting makes it fall or stay from the back to the front
  module _ (key : E → ℕ) (front : (x y : E) → sooner y x ≡ true → key x ≤ key y)
      (behind : (x y : E) → sooner y x ≡ false → key y ≤ key x) where
    insert_climbs : (x : E) (L : List E) → Climbs key L → Climbs key (insert x L)
    unfolding insert
    insert_climbs x [] c = (λ f m. elim m [ ], tt)
    insert_climbs x (y ∷ L) c =
        by_test (sooner y x)
        (λ h.
        rw (insert_front x y L h) (
          λ f m. by-mem m (λ p. rw p (front x y h)) (λ n. omega (arith, front x y h, c.0 f n)),
          c,
        ))
        (λ h.
        rw (insert_behind x y L h) (
          λ f m. insert_from x L f m (λ p. rw p (behind x y h)) (λ n. c.0 f n),
          insert_climbs x L c.1,
        ))

    pub sorted_climbs : (L : List E) → Climbs key (sorted L)
    unfolding sorted
    sorted_climbs [] = tt
    sorted_climbs (x ∷ L) = insert_climbs x (sorted L) (sorted_climbs L)

  module _ (num : E → ℕ) where
    insert_distinct : (x : E) (L : List E) → ((e : E) → e ∈ L → num e ≡ num x → ⊥) → Distinct num L
        → Distinct num (insert x L)
    unfolding insert
    insert_distinct x [] apart d = (apart, tt)
    insert_distinct x (y ∷ L) apart d =
        by_test (sooner y x)
        (λ h. rw (insert_front x y L h) (apart, d))
        (λ h.
        rw (insert_behind x y L h) (
          λ a m e.
              insert_from x L a m
              (λ p. apart y (here refl) (sym e ∙ ap num p))
              (λ n. d.0 a n e),
          insert_distinct x L (λ a m. apart a (there m)) d.1,
        ))

    pub sorted_distinct : (L : List E) → Distinct num L → Distinct num (sorted L)
    unfolding sorted
    sorted_distinct [] d = tt
    sorted_distinct (x ∷ L) d =
        insert_distinct x (sorted L) (λ a m. d.0 a (mem_sorted L a m)) (sorted_distinct L d.1)

    module _ (U : Urgency num sooner) where
      insert_ordered : (x : E) (L : List E) → ((e : E) → e ∈ L → num e ≡ num x → ⊥) → Ordered L
          → Ordered (insert x L)
      unfolding insert
      insert_ordered x [] apart o = (λ f m. elim m [ ], tt)
      insert_ordered x (y ∷ L) apart o =
          by_test (sooner y x)
          (λ h.
          rw (insert_front x y L h)
          (λ f m. by-mem m (λ p. rw p h) (λ n. U.trans f y x (o.0 f n) h), o))
          (λ h.
          let later : sooner x y ≡ true = U.total y x (apart y (here refl)) h in
          rw (insert_behind x y L h) (
            λ f m. insert_from x L f m (λ p. rw p later) (λ n. o.0 f n),
            insert_ordered x L (λ a m. apart a (there m)) o.1,
          ))

      pub sorted_ordered : (L : List E) → Distinct num L → Ordered (sorted L)
      unfolding sorted
      sorted_ordered [] d = tt
      sorted_ordered (x ∷ L) d =
          insert_ordered x (sorted L) (λ a m. d.0 a (mem_sorted L a m)) (sorted_ordered L d.1)
