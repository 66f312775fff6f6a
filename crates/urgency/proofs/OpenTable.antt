-- The table of the open pieces from one step to the next: at first the pieces that wait for none, and after a step those
-- that are unfinished by the slots that are left then.
use Prim.Native.Nat.{ℕ, zero, suc}
use mathlib.Core.List.{List}
use mathlib.Core.Logic.{◌⊎◌, inl, inr}
use mathlib.Core.Path.{◌≡◌, refl, sym, ap, ◌∙◌}
use borrow.Author.Tests.{eqb-false}
use lib.Dec.{ltb, eqb}
use lib.ListN.{get_or}
use lib.Seq.{get_or-set_other}
use Rattle.rules.specs.Words.{when}
use Rattle.laws.proofs.Words.{by_test}
use Rattle.steps.specs.Opening.{unfinished, Opening, spent_to}
use Rattle.steps.specs.Work.{Work, work_to}
use Rattle.handing.proofs.Opened.{opening_alike}

-- A step works on the chosen pieces alone, so who is unfinished then is told by the slots that are left then.
module _ (durations : List ℕ) (t next : ℕ) (chosen busy left' : List ℕ) (w : Work) (j : ℕ) where
  spent_or_same : (k : ℕ) → (spent_to chosen busy left' (unfinished w.left) k j ≡ unfinished left' j) ⊎
      ((spent_to chosen busy left' (unfinished w.left) k j ≡ unfinished w.left j)
      × (get_or (work_to durations t next chosen busy k w).left j 0 ≡ get_or w.left j 0))
  unfolding spent_to work_to when
  spent_or_same zero = inr (refl, refl)
  spent_or_same (suc k) = by_test (eqb j (get_or chosen (get_or busy k 0) 0))
      (λ e. inl (rw e))
      (λ e. rw e (more (eqb-false j (get_or chosen (get_or busy k 0) 0) e) (spent_or_same k)))
    where
      more : (j ≡ get_or chosen (get_or busy k 0) 0 → ⊥)
          → (spent_to chosen busy left' (unfinished w.left) k j ≡ unfinished left' j) ⊎
          ((spent_to chosen busy left' (unfinished w.left) k j ≡ unfinished w.left j)
          × (get_or (work_to durations t next chosen busy k w).left j 0 ≡ get_or w.left j 0))
          → (spent_to chosen busy left' (unfinished w.left) k j ≡ unfinished left' j) ⊎
          ((spent_to chosen busy left' (unfinished w.left) k j ≡ unfinished w.left j)
          × (get_or (work_to durations t next chosen busy (suc k) w).left j 0 ≡ get_or w.left j 0))
      more ne (inl a) = inl a
      more ne (inr a) = inr (
        a.0,
        get_or-set_other (work_to durations t next chosen busy k w).left (get_or chosen (get_or busy k 0) 0) j _ 0 ne ∙ a.1,
      )

  spent_is : (k : ℕ) → left' ≡ (work_to durations t next chosen busy k w).left
      → unfinished left' j ≡ spent_to chosen busy left' (unfinished w.left) k j
  spent_is k e = go (spent_or_same k)
    where
      go : (spent_to chosen busy left' (unfinished w.left) k j ≡ unfinished left' j) ⊎
          ((spent_to chosen busy left' (unfinished w.left) k j ≡ unfinished w.left j)
          × (get_or (work_to durations t next chosen busy k w).left j 0 ≡ get_or w.left j 0))
          → unfinished left' j ≡ spent_to chosen busy left' (unfinished w.left) k j
      go (inl a) = sym a
      go (inr a) = ap (ltb 0) (ap (λ l. get_or l j 0) e ∙ a.1) ∙ sym a.0

pub opening_then : (durations : List ℕ) (t next count : ℕ) (chosen busy : List ℕ) (w w' : Work) (n opened : ℕ)
    (table place waits : List ℕ) → w' ≡ work_to durations t next chosen busy count w
    → Opening n opened table place (spent_to chosen busy w'.left (unfinished w.left) count) waits
    → Opening n opened table place (unfinished w'.left) waits
opening_then durations t next count chosen busy w w' n opened table place waits e o =
    opening_alike n opened table place (spent_to chosen busy w'.left (unfinished w.left) count)
    (unfinished w'.left) waits
    (λ i h. spent_is durations t next chosen busy w'.left w i count (ap (λ x. x.left) e)) o
