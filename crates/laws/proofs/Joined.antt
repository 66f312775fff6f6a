-- Lists one behind the other, and lists that grow at their end as a loop makes them: one number more below n, one member
-- more kept, one list more behind the others.
use Prim.Native.Nat.{ℕ, zero, suc, ◌+◌}
use mathlib.Core.Bool.{Bool, true, false}
use mathlib.Core.List.Memᴰ
use mathlib.Core.List.Memᴰ.{head as here}
use mathlib.Core.List.Memᴰ.{tail as there}
use mathlib.Core.List.{List, [], ◌∷◌, ◌++◌, map, append-nil, append_assoc, Memᴰ as Mem}
use mathlib.Core.Logic.{◌⊎◌, inl, inr}
use mathlib.Core.Path.{◌≡◌, refl, sym, ap, ◌∙◌}
use native.Mathlib.Omega.{arith}
use native.Mathlib.Nat.{zero-add}
use lib.ListN.{length, length-append}
use Rattle.rules.specs.Words.{when, keep, joined, row, below, sum}
use Rattle.laws.proofs.Words.{by_test}

-- Lists one behind the other: as long as all of them together.
pub length-joined : {A : Type 0} (ls : List (List A)) → length (joined ls) ≡ sum (map length ls)
unfolding joined sum
length-joined [] = refl
length-joined (l ∷ ls) = length-append l (joined ls) ∙ ap (λ n. length l + n) (length-joined ls)

pub map_twice : {A B C : Type 0} (f : A → B) (g : B → C) (l : List A) → map g (map f l) ≡ map (λ x. g (f x)) l
map_twice f g [] = refl
map_twice f g (x ∷ xs) = ap (λ r. g (f x) ∷ r) (map_twice f g xs)

pub sum_plus : {A : Type 0} (f g : A → ℕ) (l : List A) → sum (map (λ x. f x + g x) l) ≡ sum (map f l) + sum (map g l)
unfolding sum
sum_plus f g [] = refl
sum_plus f g (x ∷ xs) =
    let ih : sum (map (λ x. f x + g x) xs) ≡ sum (map f xs) + sum (map g xs) = sum_plus f g xs in omega arith

-- Where a member of such a list comes from.
pub mem_of_map : {A B : Type 0} (f : A → B) (l : List A) (y : B) → Mem y (map f l) → (x : A) × Mem x l × (y ≡ f x)
mem_of_map {A = A} {B = B} f [] y never = elim never [ ]
mem_of_map f (x ∷ xs) y (here e) = (x, here refl, e)
mem_of_map f (x ∷ xs) y (there m) = let w = mem_of_map f xs y m in (w.0, there w.1, w.2)

pub mem_of_joined : {A : Type 0} (ls : List (List A)) (x : A) → Mem x (joined ls) → (l : List A) × Mem l ls × Mem x l
unfolding joined
mem_of_joined {A = A} [] _ m = elim m [ ]
mem_of_joined (l ∷ ls) x m = go (Memᴰ.append_cases l m) (mem_of_joined ls x)
  where
    go : Mem x l ⊎ Mem x (joined ls) → (Mem x (joined ls) → (k : List _) × Mem k ls × Mem x k)
        → (k : List _) × Mem k (l ∷ ls) × Mem x k
    go (inl n) ih = (l, here refl, n)
    go (inr n) ih = let w = ih n in (w.0, there w.1, w.2)

-- One more at the end.
pub map_append : {A B : Type 0} (f : A → B) (l k : List A) → map f (l ++ k) ≡ map f l ++ map f k
map_append f [] k = refl
map_append f (x ∷ xs) k = ap (λ r. f x ∷ r) (map_append f xs k)

pub joined_append : {A : Type 0} (l k : List (List A)) → joined (l ++ k) ≡ joined l ++ joined k
unfolding joined
joined_append [] k = refl
joined_append (x ∷ xs) k = ap (λ r. x ++ r) (joined_append xs k) ∙ sym (append_assoc x (joined xs) (joined k))

pub joined_twice : {A B : Type 0} (f : B → List (List A)) (l : List B)
    → joined (joined (map f l)) ≡ joined (map (λ x. joined (f x)) l)
unfolding joined
joined_twice f [] = refl
joined_twice f (x ∷ xs) = joined_append (f x) (joined (map f xs)) ∙ ap (λ r. joined (f x) ++ r) (joined_twice f xs)

pub keep_append : {A : Type 0} (p : A → Bool) (l k : List A) → keep p (l ++ k) ≡ keep p l ++ keep p k
unfolding keep when
keep_append p [] k = refl
keep_append p (x ∷ xs) k = by_test (p x)
    (λ e. rw (e, when) (ap (λ r. x ∷ r) (keep_append p xs k)))
    (λ e. rw (e, when) (keep_append p xs k))

row_more : (n a : ℕ) → row a (suc n) ≡ row a n ++ ((a + n) ∷ [])
unfolding row
row_more zero a = let q : a + 0 ≡ a = omega arith in rw q
row_more (suc n) a =
    let q : suc a + n ≡ a + suc n = omega arith in ap (λ r. a ∷ r) (row_more n (suc a) ∙ ap (λ x. row (suc a) n ++ (x ∷ [])) q)

pub below_more : (n : ℕ) → below (suc n) ≡ below n ++ (n ∷ [])
unfolding below
below_more n = row_more n 0 ∙ ap (λ x. row 0 n ++ (x ∷ [])) (zero-add n)

-- A table of lists with one list more.
pub joined_more : {A : Type 0} (f : ℕ → List A) (n : ℕ) → joined (map f (below (suc n))) ≡ joined (map f (below n)) ++ f n
unfolding joined
joined_more f n =
    ap (λ l. joined (map f l)) (below_more n) ∙ ap joined (map_append f (below n) (n ∷ []))
    ∙ joined_append (map f (below n)) (f n ∷ []) ∙ ap (λ r. joined (map f (below n)) ++ r) (append-nil (f n))

-- The same for those that pass a test.
pub kept_more : {A : Type 0} (p : ℕ → Bool) (f : ℕ → List A) (n : ℕ) → p n ≡ true
    → joined (map f (keep p (below (suc n)))) ≡ joined (map f (keep p (below n))) ++ f n
unfolding joined keep when
kept_more p f n e =
    ap (λ l. joined (map f (keep p l))) (below_more n) ∙ ap (λ l. joined (map f l)) (keep_append p (below n) (n ∷ []))
    ∙ rw (e, when) (ap joined (map_append f (keep p (below n)) (n ∷ []))
    ∙ joined_append (map f (keep p (below n))) (f n ∷ [])
    ∙ ap (λ r. joined (map f (keep p (below n))) ++ r) (append-nil (f n)))

pub not_kept_more : (p : ℕ → Bool) (n : ℕ) → p n ≡ false → keep p (below (suc n)) ≡ keep p (below n)
unfolding keep when
not_kept_more p n e =
    ap (keep p) (below_more n) ∙ keep_append p (below n) (n ∷ []) ∙ rw (e, when) (append-nil (keep p (below n)))
