-- The score of a row of turns: each run counts one, and one more where the desk wakes with it (a turn with work
-- behind one without). So a row with runs has more score than runs. Assumes nothing.
use mathlib.Core.Path.{◌≡◌, refl}
use mathlib.Core.Logic.{◌⊎◌, inl, inr, ⊎_elim}
use mathlib.Core.Bool.{false, not}
use mathlib.Core.Option.{Option, none, some}
use mathlib.Core.List.{List, [], ◌∷◌, map}
use Prim.Native.Nat.{ℕ, suc, ◌+◌, ◌≤◌}
use native.Mathlib.Omega.{arith}
use lib.ListN.{length}
use lib.Dec.{eqb}
use borrow.Author.Tests.{eq-eqb}
use Rattle.rules.specs.Words.{is_it}
use Rattle.rules.specs.Runs.{Turn, Run, new_run, longer_run, closing, goes_on, runs_from}
use Rattle.theory.proofs.Count.{bit, bit_le}
use Rattle.theory.proofs.Plans.{busy}
use Rattle.theory.proofs.Turns.{runs_rest, runs-longer, runs_new, by_turn}

-- who, if anybody, has the run under way
unfoldable pub holder : Option Run → Option ℕ
holder none = none
holder (some r) = some r.piece

-- a run begins with o behind p; and it counts twice where the desk wakes with it
unfoldable pub starts : Option ℕ → Option ℕ → ℕ
starts p none = 0
starts p (some i) = bit (not (is_it p i))

unfoldable pub value : Option ℕ → Option ℕ → ℕ
value p none = 0
value none (some i) = 2
value (some j) (some i) = bit (not (eqb j i))

-- runs, and runs with wakings, of a row of turns behind p
unfoldable pub begun : Option ℕ → List (Option ℕ) → ℕ
begun p [] = 0
begun p (o ∷ os) = starts p o + begun o os

unfoldable pub score : Option ℕ → List (Option ℕ) → ℕ
score p [] = 0
score p (o ∷ os) = value p o + score o os

abbrev pub whos : List Turn → List (Option ℕ)
whos xs = map (λ x. x.who) xs

closing-length : (u : Option Run) (rs : List Run) → length (closing u rs) ≡ bit (busy (holder u)) + length rs
unfolding closing holder busy bit
closing-length none rs = omega arith
closing-length (some r) rs = omega arith

at_rest : (p : Option ℕ) → starts p none ≡ 0
unfolding starts
at_rest p = refl

going : (i : ℕ) → starts (some i) (some i) ≡ 0
unfolding starts is_it bit
going i = rw (eq-eqb i i refl)

beginning : (u : Option Run) (i : ℕ) → goes_on u i ≡ false → starts (holder u) (some i) ≡ 1
unfolding starts is_it bit goes_on holder
beginning none i h = refl
beginning (some r) i h = rw h

runs-begun : (u : Option Run) (xs : List Turn)
    → length (runs_from u xs) ≡ bit (busy (holder u)) + begun (holder u) (whos xs)
unfolding runs_from begun holder busy bit
runs-begun u [] = closing-length u []
runs-begun u (x ∷ xs) =
    by_turn (λ u. length (runs_from u (x ∷ xs)) ≡ bit (busy (holder u)) + begun (holder u) (whos (x ∷ xs))) x
    (λ u e.
    rw (runs_rest x xs u e, e)
    (omega (arith, closing-length u (runs_from none xs), runs-begun none xs, at_rest (holder u))))
    (λ r e.
    rw (runs-longer x xs r e, e)
    (omega (arith, runs-begun (some (longer_run r x.slot)) xs, going r.piece)))
    (λ u i e h.
    rw (runs_new x xs u i e h, e)
    (omega (
      arith,
      closing-length u (runs_from (some (new_run i x.slot)) xs),
      runs-begun (some (new_run i x.slot)) xs,
      beginning u i h,
    )))
    u

pub runs_are : (xs : List Turn) → length (runs_from none xs) ≡ begun none (whos xs)
unfolding holder busy bit
runs_are xs = omega (arith, runs-begun none xs)

-- the score counts each run, and a waking besides where there is a run
starts_value : (p o : Option ℕ) → starts p o ≤ value p o
unfolding starts value is_it bit
starts_value p none = omega arith
starts_value none (some i) = omega arith
starts_value (some j) (some i) = omega arith

begun-score : (p : Option ℕ) (os : List (Option ℕ)) → begun p os ≤ score p os
unfolding begun score
begun-score p [] = omega arith
begun-score p (o ∷ os) = omega (arith, starts_value p o, begun-score o os)

pub begun_waking : (os : List (Option ℕ)) → (begun none os ≡ 0) ⊎ (suc (begun none os) ≤ score none os)
unfolding begun score starts value is_it bit
begun_waking [] = inl refl
begun_waking (none ∷ os) =
    ⊎_elim (λ h. inl (omega arith)) (λ h. inr (omega arith)) (begun_waking os)
begun_waking (some i ∷ os) = inr (omega (arith, begun-score (some i) os))

-- what a turn may cost
pub value_rest : (p : Option ℕ) → value p none ≡ 0
unfolding value
value_rest p = refl

pub value_wake : (i : ℕ) → value none (some i) ≡ 2
unfolding value
value_wake i = refl

pub value_same : (i : ℕ) → value (some i) (some i) ≡ 0
unfolding value bit
value_same i = rw (eq-eqb i i refl)

pub value_change : (i j : ℕ) → value (some i) (some j) ≤ 1
unfolding value
value_change i j = bit_le (not (eqb i j))

pub value_most : (p : Option ℕ) (i : ℕ) → value p (some i) ≤ 2
value_most none i = omega (arith, value_wake i)
value_most (some j) i = omega (arith, value_change j i)

pub score-at : (p o o' : Option ℕ) (os : List (Option ℕ)) → o ≡ o' → score p (o ∷ os) ≡ value p o' + score o' os
unfolding score
score-at p o o' os e = rw e

-- behind work a row costs no more than behind rest
pub score-drop : (i : ℕ) (os : List (Option ℕ)) → score (some i) os ≤ score none os
unfolding score
score-drop i [] = omega arith
score-drop i (none ∷ os) = omega (arith, value_rest (some i), value_rest none)
score-drop i (some j ∷ os) = omega (arith, value_wake j, value_change i j)

-- a row of rests scores nothing
pub rests_score : (ts : List ℕ) → score none (map (λ (t : ℕ). none) ts) ≡ 0
unfolding score
rests_score [] = refl
rests_score (s ∷ ts) = omega (arith, value_rest none, rests_score ts)
