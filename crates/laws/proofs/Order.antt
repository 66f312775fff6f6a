-- The order of urgency is a strict order in which any two different pieces stand one before the other, and a smaller
-- latest moment goes before. These laws are all that is used of `sooner`, and of `costs_less` of the block method: what
-- the order goes by is known here alone.
use Prim.Native.Nat.{ℕ, ◌<◌}
use mathlib.Core.Bool.{Bool, true, false, ◌&&◌, ◌||◌}
use mathlib.Core.Logic.{inl, inr}
use mathlib.Core.Path.{◌≡◌, refl}
use lib.Dec.{ltb}
use lib.Signed.{lt_z, le_z}
use Rattle.rules.specs.Job.{Job}
use Rattle.rules.specs.Moments.{latest, sooner}
use Rattle.rules.specs.Entries.{Entry, entry}
use Rattle.rules.specs.Blocks.{costs_less}
use Rattle.laws.proofs.Signed.{◌≼◌, ◌≺◌}
use Rattle.laws.proofs.Earlier as E

-- A piece is its own number.
abbrev pub itself : ℕ → ℕ
itself i = i

module _ (J : Job) where
  pub sooner_asym : (i j : ℕ) → sooner J i j ≡ true → sooner J j i ≡ false
  unfolding sooner E.earlier
  sooner_asym = E.earlier_asym (latest J) itself

  pub sooner_trans : (i j k : ℕ) → sooner J i j ≡ true → sooner J j k ≡ true → sooner J i k ≡ true
  unfolding sooner E.earlier
  sooner_trans = E.earlier_trans (latest J) itself

  -- Of two different pieces one goes before the other.
  pub sooner_total : (i j : ℕ) → (i ≡ j → ⊥) → sooner J i j ≡ false → sooner J j i ≡ true
  unfolding sooner E.earlier
  sooner_total = E.earlier_total (latest J) itself

  -- A smaller latest moment goes before, and so does a lower number unless its latest moment is greater.
  pub smaller_sooner : (i j : ℕ) → latest J i ≺ latest J j → sooner J i j ≡ true
  unfolding sooner E.earlier
  smaller_sooner i j h = E.fact_earlier (latest J) itself i j (inl h)

  pub lower_sooner : (i j : ℕ) → latest J i ≼ latest J j → i < j → sooner J i j ≡ true
  unfolding sooner E.earlier
  lower_sooner i j h l = E.fact_earlier (latest J) itself i j (inr (h, l))

  pub sooner-latest : (i j : ℕ) → sooner J i j ≡ true → latest J i ≼ latest J j
  unfolding sooner E.earlier
  sooner-latest = E.earlier_latest (latest J) itself

-- Of two entries the more urgent is the one that costs more at a block's end.
abbrev pub urgent : Entry → Entry → Bool
urgent a b = costs_less b a

abbrev pub number : Entry → ℕ
number e = e.number

pub urgent_asym : (a b : Entry) → urgent a b ≡ true → urgent b a ≡ false
unfolding costs_less E.earlier
urgent_asym = E.earlier_asym (λ (e : Entry). e.latest) number

pub urgent_trans : (a b c : Entry) → urgent a b ≡ true → urgent b c ≡ true → urgent a c ≡ true
unfolding costs_less E.earlier
urgent_trans = E.earlier_trans (λ (e : Entry). e.latest) number

pub urgent_total : (a b : Entry) → (number a ≡ number b → ⊥) → urgent a b ≡ false → urgent b a ≡ true
unfolding costs_less E.earlier
urgent_total = E.earlier_total (λ (e : Entry). e.latest) number

-- What a comparison of two entries looks at.
pub costs_less_is : (a b : Entry)
    → costs_less a b
    ≡ (lt_z b.latest a.latest || (le_z b.latest a.latest && ltb b.number a.number))
unfolding costs_less
costs_less_is a b = refl

-- The order of two entries is that of their pieces.
pub same_order : (J : Job) (i j : ℕ) → urgent (entry J i) (entry J j) ≡ sooner J i j
unfolding entry costs_less sooner
same_order J i j = refl
