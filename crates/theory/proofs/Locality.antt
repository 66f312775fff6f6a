-- Locality: where all of C is ready only from moment e on, and A's plan is over by e, the two plans side by side are
-- the plan of both together. Assumes nothing.
use mathlib.Core.Path.{◌≡◌, sym, ap, ◌∙◌}
use mathlib.Core.Logic.{◌⊎◌, ⊎_elim}
use mathlib.Core.Bool.{Bool, true}
use mathlib.Core.Option.{Option, none, some}
use mathlib.Core.List.{List}
use Prim.Native.Nat.{ℕ, ◌≤◌, ◌<◌}
use native.Mathlib.Omega.{arith}
use Rattle.rules.specs.Words.{is_it, or_else}
use Rattle.theory.proofs.Count.{cnt_ext}
use Rattle.theory.proofs.Lists.{◌∈◌}
use Rattle.theory.proofs.Plans as Plans
use Rattle.theory.proofs.Plans.{Plan, busy, did}
use Rattle.theory.proofs.Obeyed.{obeys_fresh}
use Rattle.theory.proofs.Rule.{Chooses, work, rest, Candidate, Obeys, moved}

pub or_else-some : (o p : Option ℕ) (i : ℕ) → o ≡ some i → or_else o p ≡ o
unfolding or_else
or_else-some o p i e = rw e

pub or_else-none : (o p : Option ℕ) → o ≡ none → or_else o p ≡ p
unfolding or_else
or_else-none o p e = rw e

module _ {E : Type 0} (num ready dur : E → ℕ) (opens : ℕ → Bool) (sooner : E → E → Bool)
    (A C : List E) (apart : (a c : E) → a ∈ A → c ∈ C → num a ≡ num c → ⊥)
    (v w : Plan) (rule : Obeys num ready dur opens sooner A v) (rule' : Obeys num ready dur opens sooner C w)
    (e : ℕ) (over : (t : ℕ) → busy (v t) ≡ true → t < e) (later : (c : E) → c ∈ C → e ≤ ready c) where
  abbrev both : Plan
  both t = or_else (v t) (w t)

  -- nobody of C is worked on before e
  quiet : (t : ℕ) → t < e → w t ≡ none
  quiet t h = go (rule' t)
    where
      go : Chooses num sooner (Candidate num ready dur opens w t) C (w t) → w t ≡ none
      go (work c m q k s) = absurd (omega (arith, later c m, k.ripe))
      go (rest q n) = q

  same_first : (a : E) → a ∈ A → (t : ℕ) → did both (num a) t ≡ did v (num a) t
  same_first a m t = cnt_ext (λ s. is_it (both s) (num a)) (λ s. is_it (v s) (num a)) t (λ s h. at s)
    where
      at : (s : ℕ) → is_it (both s) (num a) ≡ is_it (v s) (num a)
      at s =
          Plans.by-who (v s)
          (λ q.
          ap (λ o. is_it o (num a)) (or_else-none (v s) (w s) q)
          ∙ obeys_fresh num ready dur opens sooner C w rule' (num a) (λ c n z. apart a c m n (sym z)) s
          ∙ sym (Plans.none_works (v s) (num a) q))
          (λ i q. ap (λ o. is_it o (num a)) (or_else-some (v s) (w s) i q))

  same_second : (c : E) → c ∈ C → (t : ℕ) → did both (num c) t ≡ did w (num c) t
  same_second c m t = cnt_ext (λ s. is_it (both s) (num c)) (λ s. is_it (w s) (num c)) t (λ s h. at s)
    where
      at : (s : ℕ) → is_it (both s) (num c) ≡ is_it (w s) (num c)
      at s =
          Plans.by-who (v s)
          (λ q. ap (λ o. is_it o (num c)) (or_else-none (v s) (w s) q))
          (λ i q.
          ap (λ o. is_it o (num c)) (or_else-some (v s) (w s) i q)
          ∙ obeys_fresh num ready dur opens sooner A v rule (num c) (λ a n z. apart a c n m z) s
          ∙ sym (Plans.none_works (w s) (num c) (quiet s (over s (Plans.some_busy (v s) i q)))))

  pub beside : (K : List E) → ((f : E) → f ∈ A → f ∈ K) → ((f : E) → f ∈ C → f ∈ K)
      → ((f : E) → f ∈ K → f ∈ A ⊎ f ∈ C) → Obeys num ready dur opens sooner K both
  beside K first second split t = go (rule t) (rule' t)
    where
      Can : Plan → E → Type 0
      Can u = Candidate num ready dur opens u t

      in_first : (f : E) → f ∈ A → Can both f → Can v f
      in_first f m k = moved num ready dur opens v both t f (sym (same_first f m t)) k

      in_second : (f : E) → f ∈ C → Can both f → Can w f
      in_second f m k = moved num ready dur opens w both t f (sym (same_second f m t)) k

      go : Chooses num sooner (Can v) A (v t) → Chooses num sooner (Can w) C (w t)
          → Chooses num sooner (Can both) K (both t)
      go (work a m q k s) r =
          work a (first a m) (or_else-some (v t) (w t) (num a) q ∙ q)
          (moved num ready dur opens both v t a (same_first a m t) k)
          (λ f n j z.
          ⊎_elim
          (λ i. s f i (in_first f i j) z)
          (λ i. absurd (omega (arith, later f i, j.ripe, over t (Plans.some_busy (v t) (num a) q))))
          (split f n))
      go (rest q n) (work c m p k s) =
          work c (second c m) (or_else-none (v t) (w t) q ∙ p)
          (moved num ready dur opens both w t c (same_second c m t) k)
          (λ f i j z.
          ⊎_elim (λ l. absurd (n f l (in_first f l j))) (λ l. s f l (in_second f l j) z) (split f i))
      go (rest q n) (rest p o) =
          rest (or_else-none (v t) (w t) q ∙ p)
          (λ f i j. ⊎_elim (λ l. n f l (in_first f l j)) (λ l. o f l (in_second f l j)) (split f i))
