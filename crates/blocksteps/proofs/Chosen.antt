-- Who is set aside, looked for from the last piece of a block to the first: the best of those behind gives the best of
-- all. And the slice without it. Assumes nothing.
use Rattle.std.proofs.Common.{ℕ, ◌+◌, ◌≤◌, ◌<◌, Bool, true, false, not, ◌||◌, eqb, Some, None, ◌≡◌, ◌∙◌, refl, sym}
use Rattle.std.proofs.Common.{ap, List, [], ◌∷◌, ◌++◌, map, length, get_or, set, take, drop, arith}
use Rattle.std.specs.Prelude.{Option as Maybe}
use Rattle.std.proofs.Math.Option.{Option, none, some, none-ne-some, some-injective}
use Rattle.std.proofs.lemmas.List.{append_assoc, append-nil, map-append, length-append, length-set, get_or_at}
use Rattle.std.proofs.lemmas.List.{take_more, take_more_set, drop_more, drop-set-lt, get_or-drop}
use mathlib.Core.List.Memᴰ.{head as here}
use mathlib.Core.List.Memᴰ.{tail as there}
use mathlib.Core.List.{Memᴰ as Mem}
use borrow.Author.Tests.{eq-eqb, ne_eqb}
use Rattle.rules.specs.Words.{when, keep, one_of}
use Rattle.rules.specs.Entries.{Entry}
use Rattle.rules.specs.Blocks.{without_follower, costs_less, cheaper, cheapest, set_aside, others}
use Rattle.laws.proofs.Words.{by_test, when_true, when_false, mem_keep, one_of_intro}
use Rattle.laws.proofs.Joined.{mem_of_map}
use Rattle.laws.proofs.Sound.{place_mem}
use Rattle.theory.proofs.Lists.{◌∈◌}
use Rattle.entries.specs.declared.list.Entry.{Entry as Struct}
use Rattle.entries.specs.Lent.{meant, no_entry, entry_at}
use Rattle.blocksteps.specs.declared.aside.Mark.{Mark}
use Rattle.blocksteps.specs.declared.aside.Mark.TheVariants.{Outside, Member, Led}
use Rattle.blocksteps.specs.Aside.{optional, Marks, is_among, led_mark, Aside}

one_of_map : {A B : Type 0} (p : B → Bool) (f : A → B) (xs : List A) → one_of p (map f xs) ≡ one_of (λ x. p (f x)) xs
unfolding one_of
one_of_map p f [] = refl
one_of_map p f (x ∷ xs) = ap (λ b. p (f x) || b) (one_of_map p f xs)

-- The entries in front of others of a slice.
pub record Front (front es : List Struct) : Type 0 where
  pub behind : List Struct
  pub are : front ++ behind ≡ es

pub front_all : (front es : List Struct) → front ≡ es → Front front es
front_all front es h = record { behind = []; are = append-nil front ∙ h }

module _ (before front es : List Struct) (e : Struct) (f : Front before es) (h : before ≡ front ++ (e ∷ [])) where
  parted : front ++ (e ∷ f.behind) ≡ es
  parted = sym (append_assoc front (e ∷ []) f.behind) ∙ ap (λ (l : List Struct). l ++ f.behind) (sym h) ∙ f.are

  pub front_less : Front front es
  front_less = record { behind = e ∷ f.behind; are = parted }

  pub last_at : entry_at es (length front) ≡ e
  last_at =
      ap (λ (l : List Struct). entry_at l (length front)) (sym parted)
      ∙ get_or_at front e f.behind no_entry (length front) refl

  pub last_within : length front < length es
  last_within = omega (arith, length-append front (e ∷ f.behind), ap length parted)

-- The best of the entries in front and of the best behind.
module _ (follows : ℕ → ℕ → Bool) (es : List Struct) where
  abbrev free : Entry → Bool
  free e = not (one_of (λ f. follows e.number f.number) (map meant es))

  unfoldable pub best_onto : List Entry → Option Entry → Option Entry
  best_onto [] b = b
  best_onto (e ∷ l) b = when (free e) (some (cheaper e (best_onto l b))) (best_onto l b)

  onto_none : (l : List Entry) → best_onto l none ≡ cheapest (keep free l)
  unfolding best_onto keep cheapest
  onto_none [] = refl
  onto_none (e ∷ l) =
      by_test (free e)
      (λ k. rw (k, when) (ap (λ (b : Option Entry). some (cheaper e b)) (onto_none l)))
      (λ k. rw (k, when) (onto_none l))

  onto_more : (l : List Entry) (e : Entry) (b : Option Entry)
      → best_onto (l ++ (e ∷ [])) b ≡ best_onto l (when (free e) (some (cheaper e b)) b)
  unfolding best_onto
  onto_more [] e b = refl
  onto_more (x ∷ l) e b =
      ap (λ (c : Option Entry). when (free x) (some (cheaper x c)) c) (onto_more l e b)

  -- The best of all, if the entries in front are looked at too.
  abbrev pub BestOnto : List Struct → Maybe Struct → Type 0
  BestOnto front best = best_onto (map meant front) (optional meant best) ≡ cheapest (keep free (map meant es))

  pub best_of_none : (front : List Struct) → front ≡ es → BestOnto front None
  best_of_none front h = onto_none (map meant front) ∙ ap (λ (l : List Struct). cheapest (keep free (map meant l))) h

  module _ (marks : List Mark) (h : Marks marks (led_mark follows es)) (before front : List Struct) (e : Struct)
      (f : Front before es) (split : before ≡ front ++ (e ∷ [])) (small : e.number < 256) (best : Maybe Struct)
      (g : BestOnto before best) where
    among : is_among es e.number ≡ true
    among =
        one_of_intro (λ (x : Struct). eqb e.number x.number) es e
        (rw (last_at before front es e f split) at
        (place_mem no_entry es (length front) (last_within before front es e f split)))
        (eq-eqb e.number e.number refl)

    -- The mark of a member tells whether no piece after it is one.
    mark_is : get_or marks e.number Outside ≡ when (one_of (λ x. follows e.number x.number) es) Led Member
    unfolding led_mark
    mark_is = h.each e.number small ∙ when_true _ _ Outside among

    led_is : one_of (λ x. follows e.number x.number) (map meant es) ≡ one_of (λ x. follows e.number x.number) es
    led_is = one_of_map (λ (x : Entry). follows e.number x.number) meant es

    free_member : get_or marks e.number Outside ≡ Member → free (meant e) ≡ true
    free_member m =
        rw led_is
        (by_test (one_of (λ x. follows e.number x.number) es)
        (λ k. absurd (led_member (sym (when_true _ Led Member k) ∙ sym mark_is ∙ m)))
        (λ k. rw k))
      where
        led_member : Led ≡ Member → ⊥
        led_member q = cc

    not_free : (get_or marks e.number Outside ≡ Member → ⊥) → free (meant e) ≡ false
    not_free m =
        rw led_is
        (by_test (one_of (λ x. follows e.number x.number) es)
        (λ k. rw k)
        (λ k. absurd (m (mark_is ∙ when_false _ Led Member k))))

    step : (c : Bool) → free (meant e) ≡ c
        → best_onto (map meant front) (when c (some (cheaper (meant e) (optional meant best))) (optional meant best))
        ≡ cheapest (keep free (map meant es))
    step c q =
        ap (λ (d : Bool). best_onto (map meant front)
        (when d (some (cheaper (meant e) (optional meant best))) (optional meant best))) (sym q)
        ∙ sym (onto_more (map meant front) (meant e) (optional meant best))
        ∙ ap (λ (l : List Entry). best_onto l (optional meant best))
        (sym (ap (map meant) split ∙ map-append meant front (e ∷ []))) ∙ g

    pub best_skip : (get_or marks e.number Outside ≡ Member → ⊥) → BestOnto front best
    unfolding when
    best_skip m = step false (not_free m)

    pub best_take : (r : Struct) → get_or marks e.number Outside ≡ Member
        → meant r ≡ cheaper (meant e) (optional meant best) → BestOnto front (Some r)
    unfolding when
    best_take r m c =
        ap (λ (x : Entry). best_onto (map meant front) (some x)) c ∙ step true (free_member m)

  pub best_of_all : (front : List Struct) (r : Maybe Struct) → BestOnto front r → length front ≡ 0 → Aside follows es r
  unfolding set_aside without_follower best_onto
  best_of_all [] r g h from work = sym g
  best_of_all (x ∷ front) r g h from work = absurd (omega arith)

-- Who is set aside is one of the list.
cheaper_mem : (x : Entry) (es : List Entry) (o : Option Entry) → ((b : Entry) → o ≡ some b → b ∈ es)
    → cheaper x o ∈ x ∷ es
unfolding cheaper
cheaper_mem x es none h = here refl
cheaper_mem x es (some b) h =
    by_test (costs_less b x)
    (λ e. rw (e, when) (there (h b refl)))
    (λ e. rw (e, when) (here refl))

cheapest_mem : (es : List Entry) (e : Entry) → cheapest es ≡ some e → e ∈ es
unfolding cheapest
cheapest_mem [] e h = absurd (none-ne-some e h)
cheapest_mem (x ∷ es) e h =
    let same : cheaper x (cheapest es) ≡ e = some-injective (cheaper x (cheapest es)) e h in
    rw (← same) (cheaper_mem x es (cheapest es) (cheapest_mem es))

pub aside_listed : (follows : ℕ → ℕ → Bool) (es : List Struct) (r : Struct) → Aside follows es (Some r)
    → (x : Struct) × Mem x es × (r.number ≡ x.number)
unfolding set_aside without_follower
aside_listed follows es r a =
    let m = mem_keep (λ e. not (one_of (λ f. follows e.number f.number) (map meant es))) (map meant es) (meant r)
    (cheapest_mem _ (meant r) (a 0 0)) in
    let i = mem_of_map meant es (meant r) m.0 in
    (i.0, i.1, ap (λ (e : Entry). e.number) i.2)

-- THE SLICE WITHOUT A PIECE
pub others_are : (es : List Struct) (from work : ℕ) (m : Struct)
    → others (record { from = from; work = work; members = map meant es }) (meant m)
    ≡ map meant (keep (λ e. not (eqb e.number m.number)) es)
unfolding others keep
others_are [] from work m = refl
others_are (x ∷ l) from work m =
    by_test (eqb x.number m.number)
    (λ e. rw (e, when) (others_are l from work m))
    (λ e. rw (e, when) (ap (λ (es : List Entry). meant x ∷ es) (others_are l from work m)))

pub keep_snoc : {A : Type 0} (p : A → Bool) (xs : List A) (x : A)
    → keep p (xs ++ (x ∷ [])) ≡ keep p xs ++ when (p x) (x ∷ []) []
unfolding keep
keep_snoc p [] x = refl
keep_snoc p (y ∷ xs) x =
    by_test (p y)
    (λ e. rw (e, when) (ap (λ l. y ∷ l) (keep_snoc p xs x)))
    (λ e. rw (e, when) (keep_snoc p xs x))

-- The first k of the slice looked at: those that are not the piece stand in front.
pub record Keeping (start es : List Struct) (number kept k : ℕ) : Type 0 where
  pub sized : length es ≡ length start
  pub front : take kept es ≡ keep (λ e. not (eqb e.number number)) (take k start)
  pub rest : drop k es ≡ drop k start
  pub behind : kept ≤ k

pub keeping_none : (es : List Struct) (number : ℕ) → Keeping es es number 0 0
unfolding keep
keeping_none es number = record { sized = refl; front = refl; rest = refl; behind = omega arith }

module _ (start es : List Struct) (number kept k : ℕ) (g : Keeping start es number kept k) (h : k < length es) where
  same_one : entry_at es k ≡ entry_at start k
  same_one =
      let z : k + 0 ≡ k = omega arith in
      ap (entry_at es) (sym z) ∙ sym (get_or-drop k es 0 no_entry) ∙ ap (λ (l : List Struct). entry_at l 0) g.rest
      ∙ get_or-drop k start 0 no_entry ∙ ap (entry_at start) z

  one_more : take (k + 1) start ≡ take k start ++ (entry_at es k ∷ [])
  one_more =
      take_more start k no_entry (omega (arith, g.sized))
      ∙ ap (λ (x : Struct). take k start ++ (x ∷ [])) (sym same_one)

  next_rest : drop (k + 1) es ≡ drop (k + 1) start
  next_rest =
      ap (drop 1) (sym (drop_more es k no_entry h) ∙ g.rest ∙ drop_more start k no_entry (omega (arith, g.sized)))

  front_more : (c : Bool) → eqb (entry_at es k).number number ≡ c
      → take kept es ++ when (not c) (entry_at es k ∷ []) [] ≡ keep (λ e. not (eqb e.number number)) (take (k + 1) start)
  front_more c e =
      ap (λ (l : List Struct). l ++ when (not c) (entry_at es k ∷ []) []) g.front
      ∙ ap (λ (b : Bool). keep (λ e. not (eqb e.number number)) (take k start) ++ when (not b) (entry_at es k ∷ []) [])
      (sym e)
      ∙ sym (ap (keep (λ e. not (eqb e.number number))) one_more ∙ keep_snoc _ (take k start) (entry_at es k))

  pub keeping_skip : (entry_at es k).number ≡ number → Keeping start es number kept (k + 1)
  unfolding when
  keeping_skip e = record {
    sized = g.sized;
    front = sym (append-nil (take kept es)) ∙ front_more true (eq-eqb _ number e);
    rest = next_rest;
    behind = omega (arith, g.behind);
  }

  pub keeping_more : ((entry_at es k).number ≡ number → ⊥)
      → Keeping start (set es kept (entry_at es k)) number (kept + 1) (k + 1)
  unfolding when
  keeping_more ne = record {
    sized = length-set es kept (entry_at es k) ∙ g.sized;
    front =
        take_more_set es kept (entry_at es k) (omega (arith, g.behind)) ∙ front_more false (ne_eqb _ number ne);
    rest = drop-set-lt (k + 1) es kept (entry_at es k) (omega (arith, g.behind)) ∙ next_rest;
    behind = omega (arith, g.behind);
  }
