-- The desks that work looked at one after the other: what is open once the first q of their pieces were closed or not.
use Prim.Native.Nat.{ℕ, suc, ◌+◌, ◌≤◌, ◌<◌}
use mathlib.Core.Bool.{Bool}
use mathlib.Core.List.{List}
use mathlib.Core.Path.{◌≡◌, refl}
use native.Mathlib.Numerals.{add-one}
use native.Mathlib.Omega.{arith}
use borrow.Author.Tests.{eq-eqb, ne_eqb}
use lib.ListN.{get_or}
use Rattle.laws.proofs.Words.{when_true, when_false}
use Rattle.steps.specs.Opening.{Among, Opening, Room, Hands, Working, spent_to, unfinished}
use Rattle.handing.proofs.Opened.{opening_alike}

module _ (m : ℕ) (afters : List ℕ) (count : ℕ) (chosen busy left : List ℕ) (opened : ℕ) (table place waits : List ℕ) where
  pub record Spent (q opened' : ℕ) (table' place' waits' : List ℕ) : Type 0 where
    pub opening : (n : ℕ) (U : ℕ → Bool) → n ≤ 256 → ((k : ℕ) → k < m → get_or afters k 0 < n)
        → Opening n opened table place U waits → Opening n opened' table' place' (spent_to chosen busy left U q) waits'
    pub pending : (k : ℕ) → q ≤ k → k < count → Among table' opened' (get_or chosen (get_or busy k 0) 0)

  pub spent_none : Working count chosen busy opened table → Spent 0 opened table place waits
  unfolding spent_to
  spent_none w = record {
    opening = λ n U few one o. opening_alike n opened table place U (spent_to chosen busy left U 0) waits (λ i h. refl) o;
    pending = λ k l h. w.there k h;
  }

  -- One desk more.
  module _ (w : Working count chosen busy opened table) (q opened₂ : ℕ) (table₂ place₂ waits₂ : List ℕ) (room : q < count)
      (s : Spent q opened₂ table₂ place₂ waits₂) where
    abbrev i : ℕ
    i = get_or chosen (get_or busy q 0) 0

    others : (U : ℕ → Bool) (j : ℕ) → (j ≡ i → ⊥)
        → spent_to chosen busy left U (suc q) j ≡ spent_to chosen busy left U q j
    unfolding spent_to
    others U j ne = when_false _ _ _ (ne_eqb j i ne)

    own : (U : ℕ → Bool) → spent_to chosen busy left U (suc q) i ≡ unfinished left i
    unfolding spent_to
    own U = when_true _ _ _ (eq-eqb i i refl)

    pub spent_more : (opened₃ : ℕ) (table₃ place₃ waits₃ : List ℕ)
        → Hands m afters i left opened₂ table₂ place₂ waits₂ opened₃ table₃ place₃ waits₃
        → Spent (q + 1) opened₃ table₃ place₃ waits₃
    spent_more opened₃ table₃ place₃ waits₃ h = rw (add-one q) (record {
      opening = λ n U few one o.
          h.opening n (spent_to chosen busy left U q) (spent_to chosen busy left U (suc q)) few one (others U) (own U)
          (s.opening n U few one o);
      pending = λ k l b.
          h.stays (get_or chosen (get_or busy k 0) 0) (s.pending k (omega arith) b)
          (λ z. let y : k ≡ q = w.apart k q b room z in omega arith);
    })

  pub spent_room : (q opened₂ : ℕ) (table₂ place₂ waits₂ : List ℕ) → Spent q opened₂ table₂ place₂ waits₂
      → Room m afters opened table place waits → Room m afters opened₂ table₂ place₂ waits₂
  spent_room q opened₂ table₂ place₂ waits₂ s r = record {
    pieces = r.pieces;
    among = spent_to chosen busy left r.among q;
    few = r.few;
    after_one = r.after_one;
    opening = s.opening r.pieces r.among r.few r.after_one r.opening;
  }

  -- All looked at, by the slots that are left then.
  pub spent_end : (q : ℕ) (rest : List ℕ) (opened₂ : ℕ) (table₂ place₂ waits₂ : List ℕ) → q ≡ count → rest ≡ left
      → Spent q opened₂ table₂ place₂ waits₂
      → (n : ℕ) (U : ℕ → Bool) → n ≤ 256 → ((k : ℕ) → k < m → get_or afters k 0 < n)
      → Opening n opened table place U waits → Opening n opened₂ table₂ place₂ (spent_to chosen busy rest U count) waits₂
  spent_end q rest opened₂ table₂ place₂ waits₂ e x s = rw (x, ← e) s.opening
