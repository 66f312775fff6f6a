-- Laws of the board: who has a slot after a stretch was given away, and that the board stays tidy: its stretches are not
-- empty, rise in time, and no two neighbours of one piece touch. Assumes nothing.
use Prim.Native.Nat.{ℕ, ◌≤◌, ◌<◌}
use mathlib.Core.Bool.{Bool, true, false, ◌&&◌}
use mathlib.Core.List.{List, [], ◌∷◌}
use mathlib.Core.Logic.{⊎_elim}
use mathlib.Core.Option.{Option, none, some}
use mathlib.Core.Path.{◌≡◌, refl, sym, ◌∙◌}
use native.Mathlib.Omega.{arith}
use borrow.Author.Tests.{ltb-true, ltb-false, leb-true, le-leb, lt-leb, lt-ltb, le-ltb, eqb-true, eqb-false}
use lib.Dec.{leb, ltb, eqb}
use Rattle.rules.specs.Words.{when}
use Rattle.laws.proofs.Words.{by_test, and_true, and_false, when_true, when_false}
use Rattle.theory.proofs.Cases.{by_le}
use Rattle.rules.specs.declared.Run.{Run as Stretch}
use Rattle.method.specs.Board.{stretch, touching, joined, give, holder}

-- Stretch q is over when r begins, and is another piece's if they touch.
abbrev pub Clear : Stretch → Stretch → Type 0
Clear q r = (q.until ≤ r.from) × (q.until ≡ r.from → q.piece ≡ r.piece → ⊥)

abbrev pub Behind : Stretch → List Stretch → Type 0
Behind r [] = Unit {0}
Behind r (q ∷ b) = Clear q r

abbrev pub Tidy : List Stretch → Type 0
Tidy [] = Unit {0}
Tidy (r ∷ b) = (r.from < r.until) × Behind r b × Tidy b

-- All that is on the board is over by moment t.
abbrev pub Ends : ℕ → List Stretch → Type 0
Ends t [] = Unit {0}
Ends t (r ∷ b) = r.until ≤ t

pub ends_later : (s t : ℕ) (b : List Stretch) → s ≤ t → Ends s b → Ends t b
ends_later s t [] h e = tt
ends_later s t (r ∷ b) h e = omega (arith, e)

joined_tidy : (p f u : ℕ) (b : List Stretch) → f < u → Tidy b → Ends f b → Tidy (joined p f u b) × Ends u (joined p f u b)
unfolding joined touching
joined_tidy p f u [] h tidy ends = ((h, tt, tt), omega arith)
joined_tidy p f u (r ∷ b) h tidy ends =
    by_test (eqb r.until f && eqb r.piece p)
    (λ e.
    let k = and_true (eqb r.until f) (eqb r.piece p) e in
    let same : r.piece ≡ p = eqb-true r.piece p k.1 in
    rw (e, when) ((omega (arith, tidy.0, ends), longer b same tidy.1, tidy.2), omega arith))
    (λ e. rw (e, when) ((h, (ends, apart e), tidy), omega arith))
  where
    longer : (b : List Stretch) → r.piece ≡ p → Behind r b → Behind (stretch p r.from u) b
    longer [] same k = tt
    longer (q ∷ b) same k = (k.0, λ touch one. k.1 touch (one ∙ sym same))

    apart : (eqb r.until f && eqb r.piece p) ≡ false → r.until ≡ f → r.piece ≡ p → ⊥
    apart e touch one =
        ⊎_elim (λ z. eqb-false r.until f z touch) (λ z. eqb-false r.piece p z one)
        (and_false (eqb r.until f) (eqb r.piece p) e)

pub give_tidy : (who : Option ℕ) (f u : ℕ) (b : List Stretch) → f ≤ u → Tidy b → Ends f b
    → Tidy (give who f u b) × Ends u (give who f u b)
unfolding give
give_tidy none f u b h tidy ends = (tidy, ends_later f u b h ends)
give_tidy (some p) f u b h tidy ends =
    by_test (ltb f u)
    (λ e. rw (e, when) (joined_tidy p f u b (ltb-true f u e) tidy ends))
    (λ e. rw (e, when) (tidy, ends_later f u b h ends))

module _ (opens : ℕ → Bool) where
  -- The open slots from f until u.
  abbrev pub between : ℕ → ℕ → ℕ → Bool
  between f u t = leb f t && ltb t u && opens t

  pub in_between : (f u t : ℕ) → f ≤ t → t < u → opens t ≡ true → between f u t ≡ true
  in_between f u t h k o = rw (le-leb f t h, lt-ltb t u k, o)

  pub before_between : (f u t : ℕ) → t < f → between f u t ≡ false
  before_between f u t h = rw (lt-leb f t h)

  pub after_between : (f u t : ℕ) → u ≤ t → between f u t ≡ false
  after_between f u t h = by_test (leb f t) (λ e. rw (e, le-ltb t u h)) (λ e. rw e)

  pub shut_between : (f u t : ℕ) → opens t ≡ false → between f u t ≡ false
  shut_between f u t o =
      by_test (leb f t) (λ e. by_test (ltb t u) (λ k. rw (e, k, o)) (λ k. rw (e, k))) (λ e. rw e)

  pub between_facts : (f u t : ℕ) → between f u t ≡ true → (f ≤ t) × (t < u) × (opens t ≡ true)
  between_facts f u t h =
      let a = and_true (leb f t && ltb t u) (opens t) h in
      let c = and_true (leb f t) (ltb t u) a.0 in
      (leb-true f t c.0, ltb-true t u c.1, a.1)

  -- Who has slot t after the slots from f until u were given to `who`.
  abbrev pub given : Option ℕ → ℕ → ℕ → ℕ → Option ℕ → Option ℕ
  given none f u t o = o
  given (some p) f u t o = when (between f u t) (some p) o

  pub given_out : (who : Option ℕ) (f u t : ℕ) (o : Option ℕ) → between f u t ≡ false → given who f u t o ≡ o
  given_out none f u t o h = refl
  given_out (some p) f u t o h = when_false (between f u t) (some p) o h

  pub given_same : (who : Option ℕ) (f u g v t : ℕ) (o : Option ℕ) → between f u t ≡ true → between g v t ≡ true
      → given who f u t o ≡ given who g v t o
  given_same none f u g v t o h k = refl
  given_same (some p) f u g v t o h k =
      when_true (between f u t) (some p) o h ∙ sym (when_true (between g v t) (some p) o k)

  -- Two stretches that touch are one.
  two_touch : (s f u t p : ℕ) (o : Option ℕ) → s ≤ f → f ≤ u
      → when (between s u t) (some p) o ≡ when (between f u t) (some p) (when (between s f t) (some p) o)
  two_touch s f u t p o h k =
      by_test (opens t)
      (λ z.
      by_le s t
      (λ a.
      by_le f t
      (λ b.
      by_le u t
      (λ c.
      when_false (between s u t) (some p) o (after_between s u t c)
      ∙ sym (when_false (between f u t) _ _ (after_between f u t c)
      ∙ when_false (between s f t) (some p) o (after_between s f t b)))
      (λ c.
      when_true (between s u t) (some p) o (in_between s u t a c z)
      ∙ sym (when_true (between f u t) _ _ (in_between f u t b c z))))
      (λ b.
      when_true (between s u t) (some p) o (in_between s u t a (omega arith) z)
      ∙ sym (when_false (between f u t) _ _ (before_between f u t b)
      ∙ when_true (between s f t) (some p) o (in_between s f t a b z))))
      (λ a.
      when_false (between s u t) (some p) o (before_between s u t a)
      ∙ sym (when_false (between f u t) _ _ (before_between f u t (omega arith))
      ∙ when_false (between s f t) (some p) o (before_between s f t a))))
      (λ z.
      when_false (between s u t) (some p) o (shut_between s u t z)
      ∙ sym (when_false (between f u t) _ _ (shut_between f u t z)
      ∙ when_false (between s f t) (some p) o (shut_between s f t z)))

  joined-holder : (p f u : ℕ) (b : List Stretch) → f ≤ u → Tidy b → (t : ℕ)
      → holder opens (joined p f u b) t ≡ when (between f u t) (some p) (holder opens b t)
  unfolding joined touching holder
  joined-holder p f u [] h tidy t = refl
  joined-holder p f u (r ∷ b) h tidy t =
      by_test (eqb r.until f && eqb r.piece p)
      (λ e.
      let k = and_true (eqb r.until f) (eqb r.piece p) e in
      let touch : r.until ≡ f = eqb-true r.until f k.0 in
      let same : r.piece ≡ p = eqb-true r.piece p k.1 in
      rw (e, when, same, touch)
      (two_touch r.from f u t p (holder opens b t) (omega (arith, tidy.0)) h))
      (λ e. rw (e, when))

  pub give-holder : (who : Option ℕ) (f u : ℕ) (b : List Stretch) → Tidy b → (t : ℕ)
      → holder opens (give who f u b) t ≡ given who f u t (holder opens b t)
  unfolding give
  give-holder none f u b tidy t = refl
  give-holder (some p) f u b tidy t =
      by_test (ltb f u)
      (λ e. rw (e, when) (joined-holder p f u b (omega (arith, ltb-true f u e)) tidy t))
      (λ e.
      let late : u ≤ f = ltb-false f u e in
      rw (e, when)
      (by_le f t
      (λ a. sym (when_false (between f u t) (some p) _ (after_between f u t (omega arith))))
      (λ a. sym (when_false (between f u t) (some p) _ (before_between f u t a)))))
