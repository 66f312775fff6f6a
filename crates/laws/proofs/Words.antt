-- Laws of the shared words: what is kept of a list, tests over a list, numbers below n, sums and greatest numbers.
use Prim.Native.Nat.{ℕ, zero, suc, ◌+◌, ◌*◌, ◌≤◌, ◌<◌}
use mathlib.Core.Bool.{Bool, true, false, ◌&&◌, ◌||◌}
use mathlib.Core.List.Memᴰ.{head as here}
use mathlib.Core.List.Memᴰ.{tail as there}
use mathlib.Core.List.{List, [], ◌∷◌, map, Memᴰ as Mem}
use mathlib.Core.Logic.{◌⊎◌, inl, inr}
use mathlib.Core.Path.{◌≡◌, refl, sym, ap, ◌∙◌}
use native.Mathlib.Omega.{arith}
use native.Mathlib.Nat.{mul-zero, mul-suc}
use borrow.Author.Tests.{ltb-true, ltb-false}
use lib.Dec.{ltb}
use lib.ListN.{length, get_or}
use Rattle.rules.specs.Words.{when, keep, every, one_of, row, below, sum, greater, greatest}

-- A test is one of two.
pub by_test : {P : Type 0} (b : Bool) → (b ≡ true → P) → (b ≡ false → P) → P
by_test true f g = f refl
by_test false f g = g refl

pub true_or_false : {P : Type 0} → true ≡ false → P
true_or_false {P} e = absurd (subst_it e)
  where
    subst_it : true ≡ false → ⊥
    subst_it e = let z : ◌≡◌ {A = ℕ} 0 1 = cc in omega arith

-- Both of two tests hold.
pub and_true : (a b : Bool) → (a && b) ≡ true → (a ≡ true) × (b ≡ true)
and_true true b e = (refl, e)
and_true false b e = true_or_false (sym e)

pub and_intro : (a b : Bool) → a ≡ true → b ≡ true → (a && b) ≡ true
and_intro a b p q = rw (p, q)

pub and_false : (a b : Bool) → (a && b) ≡ false → (a ≡ false) ⊎ (b ≡ false)
and_false true b e = inr e
and_false false b e = inl refl

pub or_true : (a b : Bool) → (a || b) ≡ true → (a ≡ true) ⊎ (b ≡ true)
or_true true b e = inl refl
or_true false b e = inr e

pub or_false : (a b : Bool) → (a || b) ≡ false → (a ≡ false) × (b ≡ false)
or_false true b e = true_or_false e
or_false false b e = (refl, e)

pub or_left : (a b : Bool) → a ≡ true → (a || b) ≡ true
or_left a b p = rw p

pub or_right : (a b : Bool) → b ≡ true → (a || b) ≡ true
or_right true b p = refl
or_right false b p = p

pub when_true : {A : Type 0} (b : Bool) (x y : A) → b ≡ true → when b x y ≡ x
unfolding when
when_true b x y p = rw p

pub when_false : {A : Type 0} (b : Bool) (x y : A) → b ≡ false → when b x y ≡ y
unfolding when
when_false b x y p = rw p

-- A judgement that ends in 0 was passed at each of its tests.
pub passed : (b : Bool) (fault later : ℕ) → when b (suc fault) later ≡ 0 → (b ≡ false) × (later ≡ 0)
unfolding when
passed true fault later h = absurd (omega arith)
passed false fault later h = (refl, h)

-- A member of the list with or without its head, by the test of the head.
kept : {A : Type 0} (b : Bool) (x y : A) (l : List A) → Mem x l → Mem x (when b (y ∷ l) l)
unfolding when
kept true x y l m = there m
kept false x y l m = m

pub mem_map : {A B : Type 0} (f : A → B) (l : List A) (x : A) → Mem x l → Mem (f x) (map f l)
mem_map {A = A} {B = B} f [] _ never = elim never [ ]
mem_map f (y ∷ ys) x (here e) = here (ap f e)
mem_map f (y ∷ ys) x (there m) = there (mem_map f ys x m)

-- What holds of each of the list holds of each of the list without its head.
pub on_tail : {A : Type 0} {P : A → Type 0} (y : A) (ys : List A) → ((x : A) → Mem x (y ∷ ys) → P x) → (x : A) → Mem x ys → P x
on_tail y ys h x m = h x (there m)

pub map_same : {A B : Type 0} (f g : A → B) (l : List A) → ((x : A) → Mem x l → f x ≡ g x) → map f l ≡ map g l
map_same f g [] h = refl
map_same f g (y ∷ ys) h = rw (h y (here refl), map_same f g ys (on_tail y ys h))

module _ {A : Type 0} (p : A → Bool) where
  -- What is kept is of the list and passes; and all that is.
  pub keep_mem : (l : List A) (x : A) → Mem x l → p x ≡ true → Mem x (keep p l)
  unfolding keep when
  keep_mem [] _ never h = elim never [ ]
  keep_mem (y ∷ ys) x (here e) h = let k : p y ≡ true = ap p (sym e) ∙ h in rw (k, when) (here e)
  keep_mem (y ∷ ys) x (there m) h = kept (p y) x y (keep p ys) (keep_mem ys x m h)

  pub mem_keep : (l : List A) (x : A) → Mem x (keep p l) → Mem x l × (p x ≡ true)
  unfolding keep when
  mem_keep [] _ m = elim m [ ]
  mem_keep (y ∷ ys) x m = go (p y) refl (λ k. mem_keep ys x k) m
    where
      under : Mem x ys × (p x ≡ true) → Mem x (y ∷ ys) × (p x ≡ true)
      under q = (there q.0, q.1)

      head : p y ≡ true → (Mem x (keep p ys) → Mem x ys × (p x ≡ true)) → Mem x (y ∷ keep p ys) → Mem x (y ∷ ys) × (p x ≡ true)
      head e ih (here q) = (here q, ap p q ∙ e)
      head e ih (there k) = under (ih k)

      go : (b : Bool) → p y ≡ b → (Mem x (keep p ys) → Mem x ys × (p x ≡ true))
          → Mem x (when b (y ∷ keep p ys) (keep p ys)) → Mem x (y ∷ ys) × (p x ≡ true)
      go true e ih k = head e ih k
      go false e ih k = under (ih k)

  pub every_mem : (l : List A) → every p l ≡ true → (x : A) → Mem x l → p x ≡ true
  unfolding every
  every_mem [] h _ never = elim never [ ]
  every_mem (y ∷ ys) h x (here e) = ap p e ∙ (and_true (p y) (every p ys) h).0
  every_mem (y ∷ ys) h x (there m) = every_mem ys (and_true (p y) (every p ys) h).1 x m

  pub every_intro : (l : List A) → ((x : A) → Mem x l → p x ≡ true) → every p l ≡ true
  unfolding every
  every_intro [] h = refl
  every_intro (y ∷ ys) h = and_intro (p y) (every p ys) (h y (here refl)) (every_intro ys (on_tail y ys h))

  -- Not each passes: here is one that does not.
  pub every_fails : (l : List A) → every p l ≡ false → (x : A) × Mem x l × (p x ≡ false)
  unfolding every
  every_fails [] h = true_or_false h
  every_fails (y ∷ ys) h = go (and_false (p y) (every p ys) h) (λ k. every_fails ys k)
    where
      go : (p y ≡ false) ⊎ (every p ys ≡ false) → (every p ys ≡ false → (x : A) × Mem x ys × (p x ≡ false))
          → (x : A) × Mem x (y ∷ ys) × (p x ≡ false)
      go (inl e) ih = (y, here refl, e)
      go (inr e) ih = let w = ih e in (w.0, there w.1, w.2)

  pub one_of_intro : (l : List A) (x : A) → Mem x l → p x ≡ true → one_of p l ≡ true
  unfolding one_of
  one_of_intro [] _ never h = elim never [ ]
  one_of_intro (y ∷ ys) x (here e) h = or_left (p y) (one_of p ys) (ap p (sym e) ∙ h)
  one_of_intro (y ∷ ys) x (there m) h = or_right (p y) (one_of p ys) (one_of_intro ys x m h)

  -- One passes: here it is.
  pub one_of_found : (l : List A) → one_of p l ≡ true → (x : A) × Mem x l × (p x ≡ true)
  unfolding one_of
  one_of_found [] h = true_or_false (sym h)
  one_of_found (y ∷ ys) h = go (or_true (p y) (one_of p ys) h) (λ k. one_of_found ys k)
    where
      go : (p y ≡ true) ⊎ (one_of p ys ≡ true) → (one_of p ys ≡ true → (x : A) × Mem x ys × (p x ≡ true))
          → (x : A) × Mem x (y ∷ ys) × (p x ≡ true)
      go (inl e) ih = (y, here refl, e)
      go (inr e) ih = let w = ih e in (w.0, there w.1, w.2)

  pub one_of-none : (l : List A) → one_of p l ≡ false → (x : A) → Mem x l → p x ≡ false
  one_of-none l h x m = by_test (p x) (λ e. true_or_false (sym (one_of_intro l x m e) ∙ h)) (λ e. e)

-- Numbers in a row.
pub mem_row : (n a i : ℕ) → Mem i (row a n) → (a ≤ i) × (i < a + n)
unfolding row
mem_row zero a i never = elim never [ ]
mem_row (suc n) a i (here e) = (omega (arith, e), omega (arith, e))
mem_row (suc n) a i (there m) = let h = mem_row n (suc a) i m in (omega arith, omega arith)

pub row_mem : (n a i : ℕ) → a ≤ i → i < a + n → Mem i (row a n)
unfolding row
row_mem zero a i h k = absurd (omega arith)
row_mem (suc n) a i h k = by_test (ltb a i)
    (λ e. there (row_mem n (suc a) i (ltb-true a i e) (omega arith)))
    (λ e. let q : i ≡ a = omega (arith, ltb-false a i e) in here q)

pub mem_below : (n i : ℕ) → Mem i (below n) → i < n
unfolding below
mem_below n i m = let h = mem_row n 0 i m in omega arith

pub below_mem : (n i : ℕ) → i < n → Mem i (below n)
unfolding below
below_mem n i h = row_mem n 0 i (omega arith) (omega arith)

pub length-row : (n a : ℕ) → length (row a n) ≡ n
unfolding row
length-row zero a = refl
length-row (suc n) a = ap suc (length-row n (suc a))

pub length-below : (n : ℕ) → length (below n) ≡ n
unfolding below
length-below n = length-row n 0

pub get_or-row : {B : Type 0} (f : ℕ → B) (z : B) (n a i : ℕ) → i < n → get_or (map f (row a n)) i z ≡ f (a + i)
unfolding row
get_or-row f z zero a i h = absurd (omega arith)
get_or-row f z (suc n) a zero h = let q : a + 0 ≡ a = omega arith in rw q
get_or-row f z (suc n) a (suc i) h =
    let q : suc a + i ≡ a + suc i = omega arith in get_or-row f z n (suc a) i (omega arith) ∙ ap f q

-- The i-th of a table over the numbers below n.
pub get_or-below : {B : Type 0} (f : ℕ → B) (z : B) (n i : ℕ) → i < n → get_or (map f (below n)) i z ≡ f i
unfolding below
get_or-below f z n i h = let q : 0 + i ≡ i = omega arith in get_or-row f z n 0 i h ∙ ap f q

-- Sums of a list, term by term.
module _ {A : Type 0} (f g : A → ℕ) where
  pub sum_le : (l : List A) → ((x : A) → Mem x l → f x ≤ g x) → sum (map f l) ≤ sum (map g l)
  unfolding sum
  sum_le [] h = omega arith
  sum_le (y ∷ ys) h =
      let ih : sum (map f ys) ≤ sum (map g ys) = sum_le ys (on_tail y ys h) in
      omega (arith, h y (here refl))

  -- A gap in one term is a gap in the sum.
  pub sum_gap : (c : ℕ) (l : List A) → ((x : A) → Mem x l → f x ≤ g x) → (x : A) → Mem x l → f x + c ≤ g x
      → sum (map f l) + c ≤ sum (map g l)
  unfolding sum
  sum_gap c [] h _ never k = elim never [ ]
  sum_gap c (y ∷ ys) h x (here e) k =
      let rest : sum (map f ys) ≤ sum (map g ys) = sum_le ys (on_tail y ys h) in
      let d : f y + c ≤ g y = rw e at k in
      omega arith
  sum_gap c (y ∷ ys) h x (there m) k =
      let ih : sum (map f ys) + c ≤ sum (map g ys) = sum_gap c ys (on_tail y ys h) x m k in
      omega (arith, h y (here refl))

  pub sum_lt : (l : List A) → ((x : A) → Mem x l → f x ≤ g x) → (x : A) → Mem x l → f x < g x → sum (map f l) < sum (map g l)
  sum_lt l h x m k = let w : sum (map f l) + 1 ≤ sum (map g l) = sum_gap 1 l h x m (omega arith) in omega arith

pub sum_same : {A : Type 0} (c : ℕ) (l : List A) → sum (map (λ x. c) l) ≡ c * length l
unfolding sum
sum_same c [] = sym (mul-zero c)
sum_same c (x ∷ xs) =
    let ih : sum (map (λ x. c) xs) ≡ c * length xs = sum_same c xs in omega (arith, mul-suc c (length xs))

pub sum_mem : {A : Type 0} (f : A → ℕ) (l : List A) (x : A) → Mem x l → f x ≤ sum (map f l)
unfolding sum
sum_mem {A = A} f [] _ never = elim never [ ]
sum_mem f (y ∷ ys) x (here e) = let q : f x ≡ f y = ap f e in omega arith
sum_mem f (y ∷ ys) x (there m) = let ih : f x ≤ sum (map f ys) = sum_mem f ys x m in omega arith

-- The greater of two, and the greatest.
pub greater_left : (a b : ℕ) → a ≤ greater a b
unfolding greater
greater_left a b = by_test (ltb a b)
    (λ e. rw (e, when) (omega (arith, ltb-true a b e)))
    (λ e. rw (e, when) (omega arith))

pub greater_right : (a b : ℕ) → b ≤ greater a b
unfolding greater
greater_right a b = by_test (ltb a b)
    (λ e. rw (e, when) (omega arith))
    (λ e. rw (e, when) (omega (arith, ltb-false a b e)))

pub greater_least : (a b c : ℕ) → a ≤ c → b ≤ c → greater a b ≤ c
unfolding greater
greater_least a b c h k = by_test (ltb a b) (λ e. rw (e, when) k) (λ e. rw (e, when) h)

pub greatest_start : (a : ℕ) (l : List ℕ) → a ≤ greatest a l
unfolding greatest
greatest_start a [] = omega arith
greatest_start a (x ∷ xs) =
    let ih : a ≤ greatest a xs = greatest_start a xs in omega (arith, greater_right x (greatest a xs))

pub greatest_mem : (a : ℕ) (l : List ℕ) (x : ℕ) → Mem x l → x ≤ greatest a l
unfolding greatest
greatest_mem a [] _ never = elim never [ ]
greatest_mem a (y ∷ ys) x (here e) = omega (arith, e, greater_left y (greatest a ys))
greatest_mem a (y ∷ ys) x (there m) =
    let ih : x ≤ greatest a ys = greatest_mem a ys x m in omega (arith, greater_right y (greatest a ys))

pub greatest_least : (a c : ℕ) (l : List ℕ) → a ≤ c → ((x : ℕ) → Mem x l → x ≤ c) → greatest a l ≤ c
unfolding greatest
greatest_least a c [] h k = h
greatest_least a c (x ∷ xs) h k =
    greater_least x (greatest a xs) c (k x (here refl)) (greatest_least a c xs h (on_tail x xs k))

-- The same over a table.
pub greatest_of : {A : Type 0} (f : A → ℕ) (a : ℕ) (l : List A) (x : A) → Mem x l → f x ≤ greatest a (map f l)
greatest_of f a l x m = greatest_mem a (map f l) (f x) (mem_map f l x m)

pub greatest_within : {A : Type 0} (f : A → ℕ) (a c : ℕ) (l : List A) → a ≤ c → ((x : A) → Mem x l → f x ≤ c)
    → greatest a (map f l) ≤ c
unfolding greatest
greatest_within f a c [] h k = h
greatest_within f a c (x ∷ xs) h k =
    greater_least (f x) (greatest a (map f xs)) c (k x (here refl)) (greatest_within f a c xs h (on_tail x xs k))

-- Fewer pass the one test than the other, where what passes the one passes the other and one more does.
module _ {A : Type 0} (p q : A → Bool) where
  pub keep_le : (l : List A) → ((x : A) → Mem x l → p x ≡ true → q x ≡ true) → length (keep p l) ≤ length (keep q l)
  unfolding keep
  keep_le [] h = omega arith
  keep_le (y ∷ ys) h =
      let ih : length (keep p ys) ≤ length (keep q ys) = keep_le ys (on_tail y ys h) in
      by_test (p y)
      (λ e. rw (e, h y (here refl) e, when) (omega arith))
      (λ e. by_test (q y) (λ k. rw (e, k, when) (omega arith)) (λ k. rw (e, k, when) ih))

  pub keep_lt : (l : List A) → ((x : A) → Mem x l → p x ≡ true → q x ≡ true) → (x : A) → Mem x l → p x ≡ false → q x ≡ true
      → length (keep p l) < length (keep q l)
  unfolding keep
  keep_lt [] h _ never np qx = elim never [ ]
  keep_lt (y ∷ ys) h x (here e) np qx =
      let rest : length (keep p ys) ≤ length (keep q ys) = keep_le ys (on_tail y ys h) in
      let a : p y ≡ false = ap p (sym e) ∙ np in
      let b : q y ≡ true = ap q (sym e) ∙ qx in
      rw (a, b, when) (omega arith)
  keep_lt (y ∷ ys) h x (there m) np qx =
      let ih : length (keep p ys) < length (keep q ys) = keep_lt ys (on_tail y ys h) x m np qx in
      by_test (p y)
      (λ e. rw (e, h y (here refl) e, when) (omega arith))
      (λ e. by_test (q y) (λ k. rw (e, k, when) (omega arith)) (λ k. rw (e, k, when) ih))

-- Tests that agree on the list keep the same of it.
pub keep_same : {A : Type 0} (p q : A → Bool) (l : List A) → ((x : A) → Mem x l → p x ≡ q x) → keep p l ≡ keep q l
unfolding keep
keep_same p q [] h = refl
keep_same p q (x ∷ l) h = rw (h x (here refl), keep_same p q l (on_tail x l h))

pub keep-length : {A : Type 0} (p : A → Bool) (l : List A) → length (keep p l) ≤ length l
unfolding keep
keep-length p [] = omega arith
keep-length p (y ∷ ys) =
    let ih : length (keep p ys) ≤ length ys = keep-length p ys in
    by_test (p y) (λ e. rw (e, when) (omega arith)) (λ e. rw (e, when) (omega arith))
