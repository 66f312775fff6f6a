-- Marks of a block's pieces, store by store: a member more, a link more. Assumes nothing.
use Rattle.std.proofs.Common.{ℕ, ◌+◌, ◌<◌, Bool, true, false, ◌&&◌, ◌||◌, List, [], ◌∷◌, ◌++◌, ◌≡◌, ◌∙◌, refl, sym, ap}
use Rattle.std.proofs.Common.{length, get_or, set, take, replicate, eqb, arith}
use Rattle.std.proofs.lemmas.List.{length-set, get_or-set_same, get_or-set_other, take_more, length-replicate}
use Rattle.std.proofs.lemmas.List.{get_or-replicate}
use borrow.Author.Tests.{eq-eqb, ne_eqb}
use Rattle.rules.specs.Words.{when, one_of}
use Rattle.rules.specs.Rings.{linked_by}
use Rattle.rules.specs.Tables.{no_link}
use Rattle.rules.specs.declared.Link.{Link}
use Rattle.laws.proofs.Words.{by_test, and_intro, or_left, when_true, when_false}
use Rattle.theory.proofs.Cases.{by_eq}
use Rattle.entries.specs.declared.list.Entry.{Entry}
use Rattle.entries.specs.Lent.{no_entry, entry_at}
use Rattle.blocksteps.specs.declared.aside.Mark.{Mark}
use Rattle.blocksteps.specs.declared.aside.Mark.TheVariants.{Outside, Member, Led}
use Rattle.blocksteps.specs.Aside.{Marks, no_mark, is_among, member_mark, led_mark}

-- One more mark.
pub marks-set : (marks : List Mark) (f g : ℕ → Mark) (j : ℕ) (v : Mark) → Marks marks f → j < 256 → g j ≡ v
    → ((i : ℕ) → (i ≡ j → ⊥) → g i ≡ f i) → Marks (set marks j v) g
marks-set marks f g j v h small same other = record {
  sized = length-set marks j v ∙ h.sized;
  each = λ i l.
      by_eq i j
      (λ e. rw e (get_or-set_same marks j v Outside (omega (arith, h.sized)) ∙ sym same))
      (λ e. get_or-set_other marks j i v Outside e ∙ h.each i l ∙ sym (other i e));
}

pub marks_same : (marks : List Mark) (f g : ℕ → Mark) → Marks marks f → ((i : ℕ) → g i ≡ f i) → Marks marks g
marks_same marks f g h k = record { sized = h.sized; each = λ i l. h.each i l ∙ sym (k i) }

one_of_snoc : {A : Type 0} (p : A → Bool) (xs : List A) (x : A) → one_of p (xs ++ (x ∷ [])) ≡ (p x || one_of p xs)
unfolding one_of
one_of_snoc p [] x = refl
one_of_snoc p (y ∷ xs) x =
    rw (one_of_snoc p xs x) (by_test (p y) (λ e. by_test (p x) (λ k. rw (e, k)) (λ k. rw (e, k)))
    (λ e. by_test (p x) (λ k. rw (e, k)) (λ k. rw (e, k))))

-- No marks.
pub marks_clear : Marks (replicate 256 Outside) no_mark
marks_clear = record {
  sized = length-replicate 256 Outside;
  each = λ i l. get_or-replicate 256 i Outside Outside l;
}

-- The members of the first k.
pub members_none : (marks : List Mark) (es : List Entry) → Marks marks no_mark → Marks marks (member_mark (take 0 es))
unfolding member_mark one_of when
members_none marks es h = marks_same marks no_mark (member_mark []) h (λ i. refl)

pub members_more : (marks : List Mark) (es : List Entry) (k : ℕ) → k < length es → (entry_at es k).number < 256
    → Marks marks (member_mark (take k es))
    → Marks (set marks (entry_at es k).number Member) (member_mark (take (k + 1) es))
unfolding member_mark
members_more marks es k h small g =
    let x : ℕ = (entry_at es k).number in
    let test : (i : ℕ) → is_among (take (k + 1) es) i ≡ (eqb i x || is_among (take k es) i) =
    λ i. ap (λ (l : List Entry). is_among l i) (take_more es k no_entry h)
    ∙ one_of_snoc (λ (e : Entry). eqb i e.number) (take k es) (entry_at es k) in
    marks-set marks (member_mark (take k es)) (member_mark (take (k + 1) es)) x Member g small
    (when_true _ Member Outside (test x ∙ or_left (eqb x x) _ (eq-eqb x x refl)))
    (λ i e. ap (λ (b : Bool). when b Member Outside)
    (test i ∙ ap (λ (b : Bool). b || is_among (take k es) i) (ne_eqb i x e)))

-- The first k links.
led_none : (es : List Entry) (i : ℕ) → one_of (λ e. linked_by [] i e.number) es ≡ false
unfolding one_of linked_by
led_none [] i = refl
led_none (x ∷ es) i = led_none es i

pub links_none : (marks : List Mark) (ls : List Link) (es : List Entry) → Marks marks (member_mark es)
    → Marks marks (led_mark (linked_by (take 0 ls)) es)
unfolding member_mark led_mark
links_none marks ls es h =
    marks_same marks (member_mark es) (led_mark (linked_by []) es) h (λ i. rw (led_none es i, when))

-- One link more at the end of the list.
pub link_push : (ls : List Link) (l : Link) (i j : ℕ)
    → linked_by (ls ++ (l ∷ [])) i j ≡ ((eqb l.before i && eqb l.after j) || linked_by ls i j)
unfolding linked_by
link_push ls l i j = one_of_snoc (λ (l : Link). eqb l.before i && eqb l.after j) ls l

pub link_more : (ls : List Link) (k i j : ℕ) → k < length ls
    → linked_by (take (k + 1) ls) i j
    ≡ ((eqb (get_or ls k no_link).before i && eqb (get_or ls k no_link).after j) || linked_by (take k ls) i j)
link_more ls k i j h =
    ap (λ (l : List Link). linked_by l i j) (take_more ls k no_link h) ∙ link_push (take k ls) (get_or ls k no_link) i j

-- Piece i is led by link k to one of the list, or by an earlier one.
led_more : (ls : List Link) (es : List Entry) (k i : ℕ) → k < length ls
    → one_of (λ e. linked_by (take (k + 1) ls) i e.number) es
    ≡ ((eqb (get_or ls k no_link).before i && is_among es (get_or ls k no_link).after)
    || one_of (λ e. linked_by (take k ls) i e.number) es)
unfolding one_of
led_more ls [] k i h = by_test (eqb (get_or ls k no_link).before i) (λ e. rw e) (λ e. rw e)
led_more ls (x ∷ es) k i h =
    rw (led_more ls es k i h, link_more ls k i x.number h)
    (mixed (eqb (get_or ls k no_link).before i) (eqb (get_or ls k no_link).after x.number)
    (linked_by (take k ls) i x.number) (is_among es (get_or ls k no_link).after)
    (one_of (λ e. linked_by (take k ls) i e.number) es))
  where
    mixed : (b a t x y : Bool) → (((b && a) || t) || ((b && x) || y)) ≡ ((b && (a || x)) || (t || y))
    mixed true true t x y = refl
    mixed true false true true y = refl
    mixed true false true false y = refl
    mixed true false false x y = refl
    mixed false a t x y = refl

-- The mark of a member, and of a piece that is none.
not_outside : (follows : ℕ → ℕ → Bool) (es : List Entry) (i : ℕ) → is_among es i ≡ true
    → led_mark follows es i ≡ Outside → ⊥
unfolding led_mark
not_outside follows es i e =
    rw (e, when)
    (by_test {P = when (one_of (λ e. follows i e.number) es) Led Member ≡ Outside → ⊥} (one_of (λ e. follows i e.number) es)
    (λ k. rw (k, when) (λ q. cc)) (λ k. rw (k, when) (λ q. cc)))

pub mark_out : (follows : ℕ → ℕ → Bool) (es : List Entry) (i : ℕ) → is_among es i ≡ false
    → led_mark follows es i ≡ Outside
unfolding led_mark
mark_out follows es i e = when_false _ _ Outside e

both_false : (x y : Bool) → y ≡ false → (x && y) ≡ false
both_false x y e = by_test x (λ k. rw (k, e)) (λ k. rw k)

module _ (marks : List Mark) (ls : List Link) (es : List Entry) (k : ℕ) (some : k < length ls)
    (h : Marks marks (led_mark (linked_by (take k ls)) es)) where
  abbrev b : ℕ
  b = (get_or ls k no_link).before

  abbrev a : ℕ
  a = (get_or ls k no_link).after

  abbrev now : ℕ → Mark
  now = led_mark (linked_by (take k ls)) es

  abbrev next : ℕ → Mark
  next = led_mark (linked_by (take (k + 1) ls)) es

  -- Where no link more leads from i into the list, its mark is the same.
  same_led : (i : ℕ) → (eqb b i && is_among es a) ≡ false → next i ≡ now i
  unfolding led_mark
  same_led i e =
      ap (λ (led : Bool). when (is_among es i) (when led Led Member) Outside)
      (led_more ls es k i some
      ∙ ap (λ (c : Bool). c || one_of (λ e. linked_by (take k ls) i e.number) es) e)

  -- No mark: no member.
  unmarked : (i : ℕ) → i < 256 → get_or marks i Outside ≡ Outside → is_among es i ≡ false
  unmarked i l z =
      by_test (is_among es i)
      (λ e. absurd (not_outside (linked_by (take k ls)) es i e (sym (h.each i l) ∙ z)))
      (λ e. e)

  marked : (i : ℕ) → i < 256 → (get_or marks i Outside ≡ Outside → ⊥) → is_among es i ≡ true
  marked i l ne =
      by_test (is_among es i)
      (λ e. e)
      (λ e. absurd (ne (h.each i l ∙ mark_out (linked_by (take k ls)) es i e)))

  -- Both its pieces are members.
  pub link_inside : b < 256 → a < 256 → (get_or marks b Outside ≡ Outside → ⊥) → (get_or marks a Outside ≡ Outside → ⊥)
      → Marks (set marks b Led) next
  unfolding led_mark
  link_inside sb sa nb na =
      marks-set marks now next b Led h sb
      (when_true _ _ Outside (marked b sb nb)
      ∙ when_true _ Led Member
      (led_more ls es k b some
      ∙ or_left _ _ (and_intro (eqb b b) _ (eq-eqb b b refl) (marked a sa na))))
      (λ i e. same_led i (ap (λ (c : Bool). c && is_among es a) (ne_eqb b i (λ q. e (sym q)))))

  -- The piece before it is none, or the piece after it is none.
  pub link_from_outside : b < 256 → get_or marks b Outside ≡ Outside → Marks marks next
  link_from_outside sb z =
      marks_same marks now next h
      (λ i.
      by_eq b i
      (λ e.
      let out : is_among es i ≡ false = rw e at (unmarked b sb z) in
      mark_out (linked_by (take (k + 1) ls)) es i out ∙ sym (mark_out (linked_by (take k ls)) es i out))
      (λ e. same_led i (ap (λ (c : Bool). c && is_among es a) (ne_eqb b i e))))

  pub link_to_outside : a < 256 → get_or marks a Outside ≡ Outside → Marks marks next
  link_to_outside sa z =
      marks_same marks now next h
      (λ i. same_led i (both_false (eqb b i) (is_among es a) (unmarked a sa z)))
