-- The page's rule, slot by slot: the desk is_it on the soonest candidate, and rests only if there is none. A plan
-- that obeys it for a list in order of urgency IS the plan by layers, in every slot. Assumes nothing.
use mathlib.Core.Path.{◌≡◌, refl, sym, ap, ◌∙◌, fun_ext}
use mathlib.Core.Bool.{Bool, true, ◌&&◌}
use mathlib.Core.Option.{Option, none, some, some-injective}
use mathlib.Core.List.{List, [], ◌∷◌}
use mathlib.Core.List.Memᴰ.{head as here}
use mathlib.Core.List.Memᴰ.{tail as there}
use Prim.Native.Nat.{ℕ, ◌≤◌, ◌<◌}
use lib.Dec.{ltb}
use borrow.Author.Tests.{lt-ltb, ltb-true}
use Rattle.rules.specs.Words.{is_it}
use Rattle.laws.proofs.Words.{by_test, and_true, and_intro}
use Rattle.theory.proofs.Cases.{clash, test_ext}
use Rattle.theory.proofs.Count.{first_n_unique}
use Rattle.theory.proofs.Lists.{◌∈◌, by-mem, Distinct, same_number}
use Rattle.theory.proofs.Order.{Ordered}
use Rattle.theory.proofs.Plans as Plans
use Rattle.theory.proofs.Plans.{Plan, did, without}
use Rattle.theory.proofs.Layers as Layers

-- what a desk does in a slot, when C says who is a candidate: the soonest of them, or nothing where there is none
pub data Chooses {E : Type 0} (num : E → ℕ) (sooner : E → E → Bool) (C : E → Type 0) (L : List E) (o : Option ℕ)
    : Type 0 where
  work : (e : E) → e ∈ L → o ≡ some (num e) → C e
      → ((f : E) → f ∈ L → C f → (num f ≡ num e → ⊥) → sooner e f ≡ true) → Chooses num sooner C L o
  rest : o ≡ none → ((f : E) → f ∈ L → C f → ⊥) → Chooses num sooner C L o

-- who is worked on is a candidate
pub chosen : {E : Type 0} (num : E → ℕ) (sooner : E → E → Bool) (C : E → Type 0) (L : List E) → Distinct num L
    → (o : Option ℕ) → Chooses num sooner C L o → (e : E) → e ∈ L → o ≡ some (num e) → C e
chosen num sooner C L d o (work f n q c s) e m p =
    let same : f ≡ e = same_number num L d f e n m (some-injective (num f) (num e) (sym q ∙ p)) in
    rw same at c
chosen num sooner C L d o (rest q n) e m p = absurd (Plans.none-some o (num e) q p)

module _ {E : Type 0} (num ready dur : E → ℕ) (opens : ℕ → Bool) where
  -- the desk is open in slot t, e is ready, and w has not finished it before
  pub record Candidate (w : Plan) (t : ℕ) (e : E) : Type 0 where
    pub hour : opens t ≡ true
    pub ripe : ready e ≤ t
    pub left : did w (num e) t < dur e

  abbrev pub Obeys : (E → E → Bool) → List E → Plan → Type 0
  Obeys sooner L w = (t : ℕ) → Chooses num sooner (Candidate w t) L (w t)

  -- who is a candidate depends on what was done of it alone
  pub moved : (v w : Plan) (t : ℕ) (f : E) → did v (num f) t ≡ did w (num f) t → Candidate w t f → Candidate v t f
  moved v w t f e c = record { hour = c.hour; ripe = c.ripe; left = rw e c.left }

  -- the lowest layer of the rule: x with what the others leave
  module _ (sooner : E → E → Bool) (x : E) (L : List E) (d : Distinct num (x ∷ L)) where
    -- a plan that obeys the rule obeys it for the others without its least urgent entry
    peel : ((a b : E) → sooner a b ≡ true → sooner b a ≡ true → ⊥) → Ordered sooner (x ∷ L) → (w : Plan)
        → Obeys sooner (x ∷ L) w → Obeys sooner L (without (num x) w)
    peel asym o w rule t = go (rule t)
      where
        v : Plan
        v = without (num x) w

        same : (f : E) → f ∈ L → did v (num f) t ≡ did w (num f) t
        same f m = Plans.did_without (num x) w (num f) (d.0 f m) t

        old : (f : E) → f ∈ L → Candidate v t f → Candidate w t f
        old f m c = moved w v t f (sym (same f m)) c

        go : Chooses num sooner (Candidate w t) (x ∷ L) (w t) → Chooses num sooner (Candidate v t) L (v t)
        go (work e m q c s) =
            by-mem m
            (λ p.
            rest
            (Plans.without_hit (num x) w t (Plans.some-works (w t) (num x) (q ∙ ap some (ap num p))))
            (λ f n k.
            asym e f (s f (there n) (old f n k) (λ z. d.0 f n (z ∙ ap num p))) (rw p (o.0 f n))))
            (λ n.
            work e n
            (Plans.without_miss (num x) w t (Plans.other_works (w t) (num e) (num x) q (d.0 e n)) ∙ q)
            (moved v w t e (same e n) c)
            (λ f k h apart. s f (there k) (old f k h) apart))
        go (rest q n) =
            rest
            (Plans.without_miss (num x) w t (Plans.none_works (w t) (num x) q) ∙ q)
            (λ f m c. n f (there m) (old f m c))

    -- and x has the slots that the layer gives it
    module _ (w : Plan) (rule : Obeys sooner (x ∷ L) w) where
      abbrev v : Plan
      v = without (num x) w

      abbrev chance : ℕ → Bool
      chance = Layers.chance num ready dur opens x v

      worked_chance : (t : ℕ) → is_it (w t) (num x) ≡ true → (chance t && ltb (did w (num x) t) (dur x)) ≡ true
      worked_chance t h =
          let c : Candidate w t x =
          chosen num sooner (Candidate w t) (x ∷ L) d (w t) (rule t) x (here refl)
          (Plans.works-some (w t) (num x) h) in
          and_intro _ _
          (Layers.chance_when num ready dur opens x v t c.hour c.ripe
          (Plans.none_busy (v t) (Plans.without_hit (num x) w t h)))
          (lt-ltb (did w (num x) t) (dur x) c.left)

      chance_worked : (t : ℕ) → (chance t && ltb (did w (num x) t) (dur x)) ≡ true → is_it (w t) (num x) ≡ true
      chance_worked t h = go (rule t)
        where
          c : chance t ≡ true
          c = (and_true (chance t) (ltb (did w (num x) t) (dur x)) h).0

          waits : Candidate w t x
          waits = record {
            hour = Layers.chance_open num ready dur opens x v t c;
            ripe = Layers.chance_ready num ready dur opens x v t c;
            left =
                ltb-true (did w (num x) t) (dur x)
                (and_true (chance t) (ltb (did w (num x) t) (dur x)) h).1;
          }

          go : Chooses num sooner (Candidate w t) (x ∷ L) (w t) → is_it (w t) (num x) ≡ true
          go (work e m q k s) =
              by-mem m
              (λ p. Plans.some-works (w t) (num x) (q ∙ ap some (ap num p)))
              (λ n.
              clash
              (Plans.works_busy (v t) (num e)
              (Plans.without_other (num x) w t (num e) (d.0 e n) ∙ Plans.some-works (w t) (num e) q))
              (Layers.chance_free num ready dur opens x v t c))
          go (rest q n) = absurd (n x (here refl) waits)

      lowest : (t : ℕ) → w t ≡ Layers.layer num ready dur opens x v t
      unfolding Layers.takes
      lowest t =
          by_test (Layers.takes num ready dur opens x v t)
          (λ h.
          Plans.works-some (w t) (num x) (same ∙ h)
          ∙ sym (Layers.layer_hit num ready dur opens x v t h))
          (λ h.
          sym
          (Layers.layer_miss num ready dur opens x v t h
          ∙ Plans.without_miss (num x) w t (same ∙ h)
          ))
        where
          same : is_it (w t) (num x) ≡ Layers.takes num ready dur opens x v t
          same =
              first_n_unique (dur x) chance (λ s. is_it (w s) (num x))
              (λ s. test_ext _ _ (worked_chance s) (chance_worked s)) t

  module _ (sooner : E → E → Bool) where
    -- THE RULE IS THE LAYERS, over a list in order of urgency
    pub obeys_is_layers : ((a b : E) → sooner a b ≡ true → sooner b a ≡ true → ⊥) → (L : List E)
        → Distinct num L → Ordered sooner L → (w : Plan) → Obeys sooner L w → (t : ℕ)
        → w t ≡ Layers.layers num ready dur opens L t
    unfolding Layers.layers
    obeys_is_layers asym [] d o w rule t = go (rule t)
      where
        go : Chooses num sooner (Candidate w t) [] (w t) → w t ≡ none
        go (work e m q c s) = elim m [ ]
        go (rest q n) = q
    obeys_is_layers asym (x ∷ L) d o w rule t =
        let ih : (t : ℕ) → without (num x) w t ≡ Layers.layers num ready dur opens L t =
        obeys_is_layers asym L d.1 o.1 (without (num x) w) (peel sooner x L d asym o w rule) in
        lowest sooner x L d w rule t
        ∙ ap (λ (v : Plan). Layers.layer num ready dur opens x v t) (fun_ext ih)
