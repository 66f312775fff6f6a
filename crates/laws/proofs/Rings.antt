-- Rings: the computed test agrees with "leads by links" both ways; where there is no ring, the number of pieces that lead
-- to a piece falls along every link back, and so does the number of pieces it leads to along every link forth. These two
-- counts carry every argument over links.
use Prim.Native.Nat.{ℕ, zero, suc, ◌+◌, ◌≤◌, ◌<◌}
use mathlib.Core.Bool.{Bool, true, false, ◌&&◌}
use mathlib.Core.List.Memᴰ.{head as here}
use mathlib.Core.List.Memᴰ.{tail as there}
use mathlib.Core.List.{List, [], ◌∷◌, Memᴰ as Mem}
use mathlib.Core.Logic.{◌⊎◌, inl, inr}
use mathlib.Core.Option.{none, some}
use mathlib.Core.Path.{◌≡◌, refl, sym, ap, ◌∙◌}
use native.Mathlib.Omega.{arith}
use borrow.Author.Tests.{ltb-true, ltb-false}
use lib.Dec.{ltb}
use lib.ListN.{length}
use Rattle.rules.specs.Words.{when, keep, row, below}
use Rattle.rules.specs.Rings.{via, first_on_ring, lowest_on_ring}
use Rattle.laws.specs.Leads.{Leads, direct, onward}
use Rattle.laws.proofs.Words.{by_test, and_true, and_intro, or_true, or_left, or_right, keep_lt, keep-length, length-below, below_mem}

none_or_some : {P : Type 0} {i : ℕ} → none ≡ some i → P
none_or_some e = let z : ◌≡◌ {A = ℕ} 0 1 = cc in absurd (omega arith)

some_inj : {i j : ℕ} → some i ≡ some j → i ≡ j
some_inj e = cc

-- What holds of a number once it holds of all with a smaller measure holds of all.
measured : {P : ℕ → Type 0} (μ : ℕ → ℕ) → ((j : ℕ) → ((i : ℕ) → μ i < μ j → P i) → P j) → (k j : ℕ) → μ j < k → P j
measured μ step zero j h = absurd (omega arith)
measured μ step (suc k) j h = step j (λ i l. measured μ step k i (omega arith))

pub by_measure : {P : ℕ → Type 0} (μ : ℕ → ℕ) → ((j : ℕ) → ((i : ℕ) → μ i < μ j → P i) → P j) → (j : ℕ) → P j
by_measure μ step j = measured μ step (suc (μ j)) j (omega arith)

module _ (follows : ℕ → ℕ → Bool) where
  pub leads_on : {i j k : ℕ} → Leads follows i j → Leads follows j k → Leads follows i k
  leads_on (direct e) m = onward e m
  leads_on (onward e l) m = onward e (leads_on l m)

  -- What the test finds are links.
  pub via-leads : (k i j : ℕ) → via follows k i j ≡ true → Leads follows i j
  unfolding via
  via-leads zero i j h = direct h
  via-leads (suc k) i j h = go (or_true (via follows k i j) (via follows k i k && via follows k k j) h)
      (λ e. via-leads k i j e) (λ e. via-leads k i k e) (λ e. via-leads k k j e)
    where
      go : (via follows k i j ≡ true) ⊎ ((via follows k i k && via follows k k j) ≡ true)
          → (via follows k i j ≡ true → Leads follows i j) → (via follows k i k ≡ true → Leads follows i k)
          → (via follows k k j ≡ true → Leads follows k j) → Leads follows i j
      go (inl e) f g h = f e
      go (inr e) f g h = let p = and_true (via follows k i k) (via follows k k j) e in leads_on (g p.0) (h p.1)

  pub via_more : (k i j : ℕ) → follows i j ≡ true → via follows k i j ≡ true
  unfolding via
  via_more zero i j h = h
  via_more (suc k) i j h = or_left (via follows k i j) (via follows k i k && via follows k k j) (via_more k i j h)

  -- One step of the test: straight on, or through piece m.
  through : (m i j : ℕ) → via follows m i m ≡ true → via follows m m j ≡ true → via follows (suc m) i j ≡ true
  unfolding via
  through m i j p q = or_right (via follows m i j) (via follows m i m && via follows m m j) (and_intro _ _ p q)

  Split : ℕ → ℕ → ℕ → Type 0
  Split m i j = (via follows m i j ≡ true) ⊎ ((via follows m i m ≡ true) × (via follows m m j ≡ true))

  split : (m i j : ℕ) → via follows (suc m) i j ≡ true → Split m i j
  unfolding via Split
  split m i j h = go (or_true (via follows m i j) (via follows m i m && via follows m m j) h)
    where
      go : (via follows m i j ≡ true) ⊎ ((via follows m i m && via follows m m j) ≡ true) → Split m i j
      go (inl e) = inl e
      go (inr e) = inr (and_true (via follows m i m) (via follows m m j) e)

  to_last : (m i : ℕ) → Split m i m → via follows m i m ≡ true
  unfolding Split
  to_last m i (inl e) = e
  to_last m i (inr e) = e.0

  from_last : (m j : ℕ) → Split m m j → via follows m m j ≡ true
  unfolding Split
  from_last m j (inl e) = e
  from_last m j (inr e) = e.1

  straight : (m i j : ℕ) → via follows m i j ≡ true → via follows (suc m) i j ≡ true
  unfolding via
  straight m i j p = or_left (via follows m i j) (via follows m i m && via follows m m j) p

  -- Two ways put together at piece k, by the ways through pieces below m that are put together there already.
  together : (m i k j : ℕ) → Split m i k → Split m k j
      → (via follows m i k ≡ true → via follows m k j ≡ true → via follows m i j ≡ true)
      → (via follows m i k ≡ true → via follows m k m ≡ true → via follows m i m ≡ true)
      → (via follows m m k ≡ true → via follows m k j ≡ true → via follows m m j ≡ true)
      → via follows (suc m) i j ≡ true
  unfolding Split
  together m i k j (inl a) (inl b) f g h = straight m i j (f a b)
  together m i k j (inl a) (inr b) f g h = through m i j (g a b.0) b.1
  together m i k j (inr a) (inl b) f g h = through m i j a.0 (h a.1 b)
  together m i k j (inr a) (inr b) f g h = through m i j a.0 b.1

  -- The test is closed under going on through any piece below its bound.
  pub via_on : (m i k j : ℕ) → k < m → via follows m i k ≡ true → via follows m k j ≡ true → via follows m i j ≡ true
  via_on zero i k j h p q = absurd (omega arith)
  via_on (suc m) i k j h p q = by_test (ltb k m)
      (λ e. together m i k j (split m i k p) (split m k j q) (via_on m i k j (ltb-true k m e))
      (via_on m i k m (ltb-true k m e)) (via_on m m k j (ltb-true k m e)))
      (λ e. let z : k ≡ m = omega (arith, ltb-false k m e) in
      through m i j (to_last m i (split m i m (rw z at p))) (from_last m j (split m m j (rw z at q))))

  -- Links lead between the n pieces only.
  module _ (n : ℕ) (inside : (i j : ℕ) → follows i j ≡ true → (i < n) × (j < n)) where
    -- All that leads by links is found.
    pub leads-via : {i j : ℕ} → Leads follows i j → via follows n i j ≡ true
    leads-via {i} {j} (direct e) = via_more n i j e
    leads-via {i} {j = k} (onward {j} e l) = via_on n i j k (inside i j e).1 (via_more n i j e) (leads-via l)

    pub leads_inside : {i j : ℕ} → Leads follows i j → (i < n) × (j < n)
    leads_inside {i} {j} (direct e) = inside i j e
    leads_inside {i} {j = k} (onward {j} e l) = ((inside i j e).0, (leads_inside l).1)

    -- No piece leads back to itself.
    module _ (free : (i : ℕ) → i < n → via follows n i i ≡ false) where
      -- The pieces that lead to i, and the pieces that i leads to.
      pub ahead : ℕ → ℕ
      ahead i = length (keep (λ p. via follows n p i) (below n))

      pub behind : ℕ → ℕ
      behind i = length (keep (λ p. via follows n i p) (below n))

      pub ahead_falls : (i j : ℕ) → follows i j ≡ true → ahead i < ahead j
      unfolding ahead
      ahead_falls i j e =
          keep_lt (λ p. via follows n p i) (λ p. via follows n p j) (below n)
          (λ p m h. via_on n p i j (inside i j e).0 h (via_more n i j e))
          i (below_mem n i (inside i j e).0) (free i (inside i j e).0) (via_more n i j e)

      pub behind_falls : (i j : ℕ) → follows i j ≡ true → behind j < behind i
      unfolding behind
      behind_falls i j e =
          keep_lt (λ p. via follows n j p) (λ p. via follows n i p) (below n)
          (λ p m h. via_on n i j p (inside i j e).1 (via_more n i j e) h)
          j (below_mem n j (inside i j e).1) (free j (inside i j e).1) (via_more n i j e)

      pub ahead_few : (i : ℕ) → ahead i ≤ n
      unfolding ahead
      ahead_few i = omega (arith, keep-length (λ p. via follows n p i) (below n), length-below n)

      -- A piece does not lead to itself, so it leads to fewer than n.
      pub behind_few : (i : ℕ) → i < n → behind i < n
      unfolding behind
      behind_few i h =
          let all : length (keep (λ p. via follows n i p) (below n)) < length (keep (λ p. true) (below n)) =
          keep_lt (λ p. via follows n i p) (λ p. true) (below n) (λ p m k. refl) i (below_mem n i h) (free i h) refl in
          omega (arith, keep-length (λ p. true) (below n), length-below n)

      -- What holds of a piece once it holds of every piece before it holds of all; and so for the pieces after it.
      pub along_before : {P : ℕ → Type 0} → ((j : ℕ) → j < n → ((i : ℕ) → follows i j ≡ true → P i) → P j)
          → (j : ℕ) → j < n → P j
      along_before {P} step =
          by_measure {P = λ j. j < n → P j} ahead
          (λ j smaller l. step j l (λ i e. smaller i (ahead_falls i j e) (inside i j e).0))

      pub along_after : {P : ℕ → Type 0} → ((i : ℕ) → i < n → ((j : ℕ) → follows i j ≡ true → P j) → P i)
          → (i : ℕ) → i < n → P i
      along_after {P} step =
          by_measure {P = λ i. i < n → P i} behind
          (λ i smaller l. step i l (λ j e. smaller j (behind_falls i j e) (inside i j e).1))

  -- No ring is found: none of the list leads to itself.
  first_none : (n : ℕ) (l : List ℕ) → first_on_ring follows n l ≡ none → (i : ℕ) → Mem i l → via follows n i i ≡ false
  unfolding first_on_ring when
  first_none n [] h i m = elim m [ ]
  first_none n (x ∷ xs) h i m = by_test (via follows n x x)
      (λ e. none_or_some (sym (rw (e, when) at h)))
      (λ e. go e m (first_none n xs (rw (e, when) at h)))
    where
      go : via follows n x x ≡ false → Mem i (x ∷ xs) → ((j : ℕ) → Mem j xs → via follows n j j ≡ false)
          → via follows n i i ≡ false
      go e (here q) ih = ap (λ k. via follows n k k) q ∙ e
      go e (there k) ih = ih i k

  -- The first of numbers in a row that leads to itself: the ones below it in the row do not.
  first_some : (n k a i : ℕ) → first_on_ring follows n (row a k) ≡ some i
      → (via follows n i i ≡ true) × (a ≤ i) × (i < a + k) × ((j : ℕ) → a ≤ j → j < i → via follows n j j ≡ false)
  unfolding first_on_ring row when
  first_some n zero a i h = none_or_some h
  first_some n (suc k) a i h = by_test (via follows n a a)
      (λ e. found e (some_inj (rw (e, when) at h)))
      (λ e. later e (first_some n k (suc a) i (rw (e, when) at h)))
    where
      found : via follows n a a ≡ true → a ≡ i
          → (via follows n i i ≡ true) × (a ≤ i) × (i < a + suc k) × ((j : ℕ) → a ≤ j → j < i → via follows n j j ≡ false)
      found e q = (rw q at e, omega arith, omega arith, λ j p r. absurd (omega arith))

      later : via follows n a a ≡ false
          → (via follows n i i ≡ true) × (suc a ≤ i) × (i < suc a + k) × ((j : ℕ) → suc a ≤ j → j < i → via follows n j j ≡ false)
          → (via follows n i i ≡ true) × (a ≤ i) × (i < a + suc k) × ((j : ℕ) → a ≤ j → j < i → via follows n j j ≡ false)
      later e w = (
        w.0,
        omega (arith, w.1),
        omega (arith, w.2),
        λ j p r. by_test (ltb a j)
            (λ q. w.3 j (ltb-true a j q) r)
            (λ q. let z : j ≡ a = omega (arith, ltb-false a j q) in ap (λ x. via follows n x x) z ∙ e),
      )

  pub ring_free : (n : ℕ) → lowest_on_ring follows n ≡ none → (i : ℕ) → i < n → via follows n i i ≡ false
  unfolding lowest_on_ring
  ring_free n h i l = first_none n (below n) h i (below_mem n i l)

  pub ring_found : (n i : ℕ) → lowest_on_ring follows n ≡ some i
      → (i < n) × (via follows n i i ≡ true) × ((j : ℕ) → j < i → via follows n j j ≡ false)
  unfolding lowest_on_ring below
  ring_found n i h =
      let w = first_some n n 0 i h in
      (omega (arith, w.2), w.0, λ j l. w.3 j (omega arith) l)
