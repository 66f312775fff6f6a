-- Links disappear: where an entry is worked on only after each entry linked before it is finished, and an entry
-- before is sooner than the entry after, the plan is that of the rule WITHOUT links over raised ready moments. Whoever
-- may be worked on has passed its raised moment; and of those past it, the soonest unfinished one has all before it
-- finished. Assumes nothing.
use mathlib.Core.Path.{◌≡◌, refl, sym, ap, ◌∙◌}
use mathlib.Core.Logic.{◌⊎◌, inl, inr, ⊎_elim}
use mathlib.Core.Bool.{Bool, true, false, ◌&&◌}
use mathlib.Core.Option.{some}
use mathlib.Core.List.{List}
use Prim.Native.Nat.{ℕ, zero, suc, ◌≤◌, ◌<◌}
use native.Mathlib.Omega.{arith}
use lib.Dec.{ltb}
use borrow.Author.Tests.{ltb-true, ltb-false}
use Rattle.rules.specs.Words.{is_it}
use Rattle.laws.proofs.Words.{by_test, and_true, sum_lt}
use Rattle.theory.proofs.Cases.{by_le, by_eq}
use Rattle.theory.proofs.Count.{bit, bit_mono, bit_less, cnt_gain, cnt_false, cnt_hit}
use Rattle.theory.proofs.Lists.{◌∈◌, find, sum_of, Distinct, same_number}
use Rattle.theory.proofs.Order.{Urgency}
use Rattle.theory.proofs.Plans as Plans
use Rattle.theory.proofs.Plans.{Plan, did}
use Rattle.theory.proofs.Hours.{Hours}
use Rattle.theory.proofs.Allowed.{Allowed}
use Rattle.theory.proofs.Rule.{Chooses, work, rest, Candidate, Obeys, chosen}
use Rattle.theory.proofs.Obeyed.{choice_allowed}

module _ {E : Type 0} (num own dur : E → ℕ) (opens : ℕ → Bool) (before : E → E → Bool) where
  -- e may be worked on in slot t: its own moment has come, and each entry before it is finished
  pub record Linked (L : List E) (w : Plan) (t : ℕ) (e : E) : Type 0 where
    pub hour : opens t ≡ true
    pub ripe : own e ≤ t
    pub left : did w (num e) t < dur e
    pub ahead : (a : E) → a ∈ L → before a e ≡ true → dur a ≤ did w (num a) t

  abbrev pub ObeysLinks : (E → E → Bool) → List E → Plan → Type 0
  ObeysLinks sooner L w = (t : ℕ) → Chooses num sooner (Linked L w t) L (w t)

  -- a plan that is allowed by the own moments and keeps the links, whatever rule made it
  pub record KeepsLinks (L : List E) (w : Plan) : Type 0 where
    pub allowed : Allowed num own dur opens L w
    pub links : (a e : E) → a ∈ L → e ∈ L → before a e ≡ true → (t : ℕ) → w t ≡ some (num e) → dur a ≤ did w (num a) t

  -- the rule with links makes one
  pub obeys_keeps : (sooner : E → E → Bool) (L : List E) → Distinct num L → (w : Plan) → ObeysLinks sooner L w
      → KeepsLinks L w
  obeys_keeps sooner L d w rule = record {
    allowed =
        choice_allowed num own dur opens sooner L d w (Linked L w)
        (λ t e c. record { hour = c.hour; ripe = c.ripe; left = c.left }) rule;
    links = λ a e m n b t p. (chosen num sooner (Linked L w t) L d (w t) (rule t) e n p).ahead a m b;
  }

-- raised moments: the least with own ≤ raised and, where a is before e, a's raised moment and its duration in open
-- slots ≤ e's raised moment
pub record Raised {E : Type 0} (own raised dur : E → ℕ) (open_end : ℕ → ℕ → ℕ) (before : E → E → Bool) (L : List E)
    : Type 0 where
  pub above : (e : E) → e ∈ L → own e ≤ raised e
  pub later : (a e : E) → a ∈ L → e ∈ L → before a e ≡ true → open_end (raised a) (dur a) ≤ raised e
  pub least : (e : E) → e ∈ L → (t : ℕ) → own e ≤ t
      → ((a : E) → a ∈ L → before a e ≡ true → open_end (raised a) (dur a) ≤ t) → raised e ≤ t

module _ {E : Type 0} (num own raised dur : E → ℕ) (opens : ℕ → Bool) (open_end : ℕ → ℕ → ℕ)
    (sooner before : E → E → Bool) (L : List E) (w : Plan) where
  abbrev Can : ℕ → E → Type 0
  Can t = Candidate num raised dur opens w t

  abbrev pub Lin : ℕ → E → Type 0
  Lin t = Linked num own dur opens before L w t

  -- nothing was worked on before its raised moment in the slots before t
  abbrev pub Late : ℕ → Type 0
  Late t = (s : ℕ) → s < t → (a : E) → a ∈ L → w s ≡ some (num a) → (raised a ≤ s) × (opens s ≡ true)

  module _ (H : Hours opens open_end) (R : Raised own raised dur open_end before L)
      (some-work : (e : E) → e ∈ L → 1 ≤ dur e) where
    -- an entry finished by t has come to its end by t
    pub ended : (t : ℕ) → Late t → (a : E) → a ∈ L → dur a ≤ did w (num a) t → open_end (raised a) (dur a) ≤ t
    ended t late a m done =
        by_le t (raised a)
        (λ h. absurd (omega (arith, untouched t (omega arith) h, some-work a m)))
        (λ h.
        H.least (raised a) (dur a) t (omega arith)
        (omega (
          arith,
          cnt_gain (λ s. is_it (w s) (num a)) opens (raised a) t (omega arith)
              (λ k x y e. (late k y a m (Plans.works-some (w k) (num a) e)).1),
          untouched (raised a) (omega arith) (omega arith),
        )))
      where
        untouched : (u : ℕ) → u ≤ t → u ≤ raised a → did w (num a) u ≡ 0
        untouched u h k =
            cnt_false (λ s. is_it (w s) (num a)) u
            (λ s l.
            by_test (is_it (w s) (num a))
            (λ e. absurd (omega (arith, (late s (omega arith) a m (Plans.works-some (w s) (num a) e)).0)))
            (λ e. e))

    pub linked-raised : (t : ℕ) → Late t → (e : E) → e ∈ L → Lin t e → raised e ≤ t
    linked-raised t late e m c = R.least e m t c.ripe (λ a n b. ended t late a n (c.ahead a n b))

    -- a plan that keeps the links works on nothing before its raised moment
    module _ (keeps : KeepsLinks num own dur opens before L w) where
      kept_linked : (t : ℕ) (e : E) → e ∈ L → w t ≡ some (num e) → Lin t e
      kept_linked t e m p = record {
        hour = keeps.allowed.hours t (num e) p;
        ripe = keeps.allowed.after e m t p;
        left = omega (
          arith,
          keeps.allowed.most e m (suc t),
          cnt_hit (λ s. is_it (w s) (num e)) t (Plans.some-works (w t) (num e) p),
        );
        ahead = λ a n b. keeps.links a e n m b t p;
      }

      pub never_early : (t : ℕ) → Late t
      never_early zero s h a m p = absurd (omega arith)
      never_early (suc t) s h a m p =
          by_le t s
          (λ k.
          let z : s ≡ t = omega arith in
          let c : Lin t a = kept_linked t a m (rw z at p) in
          rw z (linked-raised t (never_early t) a m c, c.hour))
          (λ k. never_early t s k a m p)

      -- ALLOWED WITH LINKS IS ALLOWED BY THE RAISED MOMENTS
      pub raised_allowed : Allowed num raised dur opens L w
      raised_allowed = record {
        known = keeps.allowed.known;
        hours = keeps.allowed.hours;
        after = λ e m t p. (never_early (suc t) t (omega arith) e m p).0;
        most = keeps.allowed.most;
      }

    module _ (d : Distinct num L) (rule : ObeysLinks num own dur opens before sooner L w) (U : Urgency num sooner)
        (before-sooner : (a b : E) → a ∈ L → b ∈ L → before a b ≡ true → sooner a b ≡ true) where
      -- how many are sooner
      rank : E → ℕ
      rank f = sum_of (λ g. bit (sooner g f)) L

      rank_less : (a f : E) → a ∈ L → sooner a f ≡ true → rank a < rank f
      unfolding rank
      rank_less a f m h =
          sum_lt (λ g. bit (sooner g a)) (λ g. bit (sooner g f)) L
          (λ g n. bit_mono (sooner g a) (sooner g f) (λ k. U.trans g a f k h))
          a m
          (bit_less (sooner a a) (sooner a f) (λ k. U.asym a a k k) h)

      -- with a candidate there is one whose entries before are all finished, and it is no later
      abbrev Lead : ℕ → E → Type 0
      Lead t f = (g : E) × (g ∈ L) × Lin t g × ((g ≡ f) ⊎ (sooner g f ≡ true))

      lead_on : (t : ℕ) (a f : E) → sooner a f ≡ true → Lead t a → Lead t f
      lead_on t a f h l = (
        l.0,
        l.1,
        l.2,
        inr (⊎_elim (λ p. rw p h) (λ p. U.trans l.0 a f p h) l.3),
      )

      leader : (t n : ℕ) (f : E) → f ∈ L → rank f < n → Can t f → Lead t f
      leader t zero f m h c = absurd (omega arith)
      leader t (suc n) f m h c = step (leader t n) (find waiting L)
        where
          waiting : E → Bool
          waiting a = before a f && ltb (did w (num a) t) (dur a)

          step : ((a : E) → a ∈ L → rank a < n → Can t a → Lead t a)
              → ((a : E) × (a ∈ L) × (waiting a ≡ true)) ⊎ ((a : E) → a ∈ L → waiting a ≡ false) → Lead t f
          step deeper (inl (a, k, e)) =
              let b : before a f ≡ true = (and_true (before a f) (ltb (did w (num a) t) (dur a)) e).0 in
              let z : sooner a f ≡ true = before-sooner a f k m b in
              lead_on t a f z
              (deeper a k (omega (arith, rank_less a f k z))
              (record {
                hour = c.hour;
                ripe = omega (arith, H.from (raised a) (dur a), R.later a f k m b, c.ripe);
                left =
                    ltb-true (did w (num a) t) (dur a)
                    (and_true (before a f) (ltb (did w (num a) t) (dur a)) e).1;
              }))
          step deeper (inr nobody) = (
            f,
            m,
            record {
              hour = c.hour;
              ripe = omega (arith, R.above f m, c.ripe);
              left = c.left;
              ahead = λ a k b. ltb-false (did w (num a) t) (dur a) (rw b at (nobody a k));
            },
            inl refl,
          )

      -- LINKS DISAPPEAR
      pub links_disappear : Obeys num raised dur opens sooner L w
      links_disappear t = go (rule t)
        where
          led : (f : E) → f ∈ L → Can t f → Lead t f
          led f m c = leader t (suc (rank f)) f m (omega arith) c

          late : Late t
          late = never_early (obeys_keeps num own dur opens before sooner L d w rule) t

          go : Chooses num sooner (Lin t) L (w t) → Chooses num sooner (Can t) L (w t)
          go (work e m q c s) =
              work e m q
              (record { hour = c.hour; ripe = linked-raised t late e m c; left = c.left })
              (λ f n k apart.
              let l = led f n k in
              by_eq (num l.0) (num e)
              (λ z.
              let same : l.0 ≡ e = same_number num L d l.0 e l.1 m z in
              ⊎_elim (λ p. absurd (apart (ap num (sym p ∙ same)))) (λ p. rw same at p) l.3)
              (λ z.
              let ahead : sooner e l.0 ≡ true = s l.0 l.1 l.2 z in
              ⊎_elim (λ p. rw p at ahead) (λ p. U.trans e l.0 f ahead p) l.3))
          go (rest q n) = rest q (λ f m c. let l = led f m c in n l.0 l.1 l.2)
