-- The run lengths of a piece add to the slots worked on it: no slot of work is lost between runs, and none is
-- counted twice. With the whole duration worked, they add to the duration. Assumes nothing.
use mathlib.Core.Path.{◌≡◌, ap}
use mathlib.Core.Bool.{Bool, true, ◌&&◌}
use mathlib.Core.Option.{Option, none, some}
use mathlib.Core.List.{List, [], ◌∷◌, map}
use Prim.Native.Nat.{ℕ, zero, suc, ◌+◌}
use native.Mathlib.Omega.{arith}
use lib.Dec.{eqb}
use Rattle.rules.specs.Words.{when, is_it, keep, row, below, sum}
use Rattle.rules.specs.Runs.{Turn, Run, new_run, longer_run, closing, runs_from}
use Rattle.laws.proofs.Words.{by_test, and_true, and_intro}
use Rattle.theory.proofs.Cases.{test_ext}
use Rattle.theory.proofs.Count.{bit, cnt, cnt_zero, cnt_suc, cnt_ext}
use Rattle.theory.proofs.Lists.{sum_of}
use Rattle.theory.proofs.Plans as Plans
use Rattle.theory.proofs.Plans.{Plan, did}
use Rattle.theory.proofs.Turns.{turn_of, turns_of, runs_rest, runs-longer, runs_new, by_turn}

-- the slots of piece i in a list of runs, as the rules add them
abbrev pub slots_of : ℕ → List Run → ℕ
slots_of i rs = sum (map (λ r. r.slots) (keep (λ r. eqb r.piece i) rs))

-- the slots of i in the run under way, and the turns with work on i
unfoldable under_way : ℕ → Option Run → ℕ
under_way i none = 0
under_way i (some r) = when (eqb r.piece i) r.slots 0

turns_with : ℕ → List Turn → ℕ
turns_with i xs = sum_of (λ (x : Turn). bit (is_it x.who i)) xs

closing_slots : (i : ℕ) (u : Option Run) (rs : List Run) → slots_of i (closing u rs) ≡ under_way i u + slots_of i rs
unfolding closing under_way keep sum
closing_slots i none rs = omega arith
closing_slots i (some r) rs =
    by_test (eqb r.piece i)
    (λ e. rw (e, when))
    (λ e. rw (e, when) (omega arith))

-- one slot longer, or begun
longer_slots : (i : ℕ) (r : Run) (t : ℕ)
    → under_way i (some (longer_run r t)) ≡ under_way i (some r) + bit (eqb r.piece i)
unfolding under_way bit when
longer_slots i r t =
    by_test (eqb r.piece i)
    (λ e. rw (e, when))
    (λ e. rw (e, when) (omega arith))

new_slots : (i j t : ℕ) → under_way i (some (new_run j t)) ≡ bit (eqb j i)
unfolding under_way bit when
new_slots i j t = by_test (eqb j i) (λ e. rw (e, when)) (λ e. rw (e, when))

runs_slots : (i : ℕ) (xs : List Turn) (u : Option Run) → slots_of i (runs_from u xs) ≡ under_way i u + turns_with i xs
unfolding runs_from turns_with sum keep is_it bit under_way
runs_slots i [] = λ u. omega (arith, closing_slots i u [])
runs_slots i (x ∷ xs) =
    by_turn (λ u. slots_of i (runs_from u (x ∷ xs)) ≡ under_way i u + turns_with i (x ∷ xs)) x
    (λ u e. rw (runs_rest x xs u e, e) (omega (arith, closing_slots i u (runs_from none xs), runs_slots i xs none)))
    (λ r e.
    rw (runs-longer x xs r e, e)
    (omega (arith, runs_slots i xs (some (longer_run r x.slot)), longer_slots i r x.slot)))
    (λ u j e h.
    rw (runs_new x xs u j e h, e)
    (omega (
      arith,
      closing_slots i u (runs_from (some (new_run j x.slot)) xs),
      runs_slots i xs (some (new_run j x.slot)),
      new_slots i j x.slot,
    )))

-- the turns of the open slots, counted by slot
turns_count : (opens : ℕ → Bool) (w : Plan) (i n a : ℕ)
    → turns_with i (map (turn_of w) (keep opens (row a n))) + cnt (λ t. opens t && is_it (w t) i) a
    ≡ cnt (λ t. opens t && is_it (w t) i) (a + n)
unfolding turns_with keep row sum bit
turns_count opens w i zero a = let z : a + 0 ≡ a = omega arith in rw z (omega arith)
turns_count opens w i (suc n) a =
    let z : a + suc n ≡ suc a + n = omega arith in
    let ih : turns_with i (map (turn_of w) (keep opens (row (suc a) n))) + cnt (λ t. opens t && is_it (w t) i) (suc a)
    ≡ cnt (λ t. opens t && is_it (w t) i) (suc a + n) = turns_count opens w i n (suc a) in
    rw z
    (by_test (opens a)
    (λ e. rw (e, when) (omega (arith, one_more e)))
    (λ e. rw (e, when) (omega (arith, one_more e))))
  where
    one_more : {b : Bool} → opens a ≡ b
        → cnt (λ t. opens t && is_it (w t) i) (suc a) ≡ cnt (λ t. opens t && is_it (w t) i) a + bit (b && is_it (w a) i)
    one_more {b} e = rw (← e) (cnt_suc (λ t. opens t && is_it (w t) i) a)

-- THE RUN LENGTHS OF A PIECE add to the slots worked on it
pub run_lengths : (opens : ℕ → Bool) (w : Plan) → ((t i : ℕ) → w t ≡ some i → opens t ≡ true) → (i h : ℕ)
    → slots_of i (runs_from none (turns_of opens w h)) ≡ did w i h
unfolding below under_way
run_lengths opens w hours i h =
    let z : 0 + h ≡ h = omega arith in
    let g : ℕ → Bool = λ t. opens t && is_it (w t) i in
    let all : cnt g h ≡ did w i h =
    cnt_ext g (λ t. is_it (w t) i) h
    (λ t l.
    test_ext (g t) (is_it (w t) i)
    (λ e. (and_true (opens t) (is_it (w t) i) e).1)
    (λ e. and_intro (opens t) (is_it (w t) i) (hours t i (Plans.works-some (w t) i e)) e)) in
    omega (
      arith,
      runs_slots i (turns_of opens w h) none,
      turns_count opens w i h 0,
      ap (cnt g) z,
      cnt_zero g,
    )
