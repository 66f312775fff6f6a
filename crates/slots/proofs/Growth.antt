-- The runs of a desk are those that grow with its slots, one slot after another; and over a stretch in which a desk keeps
-- its choice they grow by one step.
use Prim.Native.Nat.{ℕ, zero, suc, ◌+◌, ◌<◌}
use mathlib.Core.Bool.{true, false}
use mathlib.Core.List.{List, ◌∷◌, ◌++◌, map, append_assoc, append-nil, []}
use mathlib.Core.Option.{Option, none, some}
use mathlib.Core.Path.{◌≡◌, refl, sym, ap, ◌∙◌}
use native.Mathlib.Omega.{arith}
use borrow.Author.Tests.{eqb-true, eq-eqb, ne_eqb}
use lib.Dec.{eqb}
use Rattle.rules.specs.Words.{when, row, below}
use Rattle.rules.specs.Job.{Job}
use Rattle.rules.specs.Urgency.{worked, horizon}
use Rattle.rules.specs.Runs.{Turn, Run, new_run, longer_run, closing, goes_on, next_run, runs_from, turns, runs}
use Rattle.laws.proofs.Words.{by_test, and_true}
use Rattle.laws.proofs.Slots.{by_choice}
use Rattle.slots.specs.Growth.{goes_on_at, fresh_run, longer, grown, after_turn, runs_until}
use Rattle.laws.proofs.Hours.{all_open}

-- Only the last run of a list can grow.
pub grown_last : (A : List Run) (r : Run) (i t k : ℕ) → grown (A ++ (r ∷ [])) i t k ≡ A ++ grown (r ∷ []) i t k
unfolding grown
grown_last [] r i t k = refl
grown_last (x ∷ []) r i t k = refl
grown_last (x ∷ y ∷ A) r i t k = ap (λ l. x ∷ l) (grown_last (y ∷ A) r i t k)

pub grown_on : (A : List Run) (r : Run) (i t k : ℕ) → r.piece ≡ i → r.until ≡ t
    → grown (A ++ (r ∷ [])) i t k ≡ A ++ (longer r k ∷ [])
unfolding grown goes_on_at
grown_on A r i t k p q = grown_last A r i t k ∙ rw (eq-eqb _ i p, eq-eqb _ t q, when)

pub goes_on_lem : (r : Run) (i t : ℕ) → goes_on_at r i t ≡ true → (r.piece ≡ i) × (r.until ≡ t)
unfolding goes_on_at
goes_on_lem r i t h =
    let w = and_true (eqb r.piece i) (eqb r.until t) h in (eqb-true _ i w.0, eqb-true _ t w.1)

pub going_on : (r : Run) (i t : ℕ) → r.piece ≡ i → r.until ≡ t → goes_on_at r i t ≡ true
unfolding goes_on_at
going_on r i t p q = rw (eq-eqb r.piece i p, eq-eqb r.until t q)

other_piece : (r : Run) (i t : ℕ) → eqb r.piece i ≡ false → goes_on_at r i t ≡ false
unfolding goes_on_at
other_piece r i t h = rw h

pub grown_anew : (A : List Run) (r : Run) (i t k : ℕ) → goes_on_at r i t ≡ false
    → grown (A ++ (r ∷ [])) i t k ≡ (A ++ (r ∷ [])) ++ (fresh_run i t k ∷ [])
unfolding grown
grown_anew A r i t k p =
    grown_last A r i t k ∙ rw (p, when) (sym (append_assoc A (r ∷ []) (fresh_run i t k ∷ [])))

-- A list is empty, or it has a last run.
pub by_last : (P : List Run → Type 0) (A : List Run) → P [] → ((B : List Run) (r : Run) → P (B ++ (r ∷ []))) → P A
by_last P [] e f = e
by_last P (x ∷ xs) e f = by_last (λ l. P (x ∷ l)) xs (f [] x) (λ B r. f (x ∷ B) r)

-- Slots more on the same piece, straight on, make one run.
pub grown_twice : (A : List Run) (i t j k : ℕ) → grown (grown A i t j) i (t + j) k ≡ grown A i t (j + k)
unfolding grown
grown_twice A i t j k = by_last (λ l. grown (grown l i t j) i (t + j) k ≡ grown l i t (j + k)) A nothing last
  where
    further : t + j + k ≡ t + (j + k)
    further = omega arith

    fresh_on : (B : List Run) → grown (B ++ (fresh_run i t j ∷ [])) i (t + j) k ≡ B ++ (fresh_run i t (j + k) ∷ [])
    fresh_on B = grown_on B (fresh_run i t j) i (t + j) k refl refl ∙ rw further

    nothing : grown (grown [] i t j) i (t + j) k ≡ grown [] i t (j + k)
    nothing = fresh_on []

    last : (B : List Run) (r : Run) → grown (grown (B ++ (r ∷ [])) i t j) i (t + j) k ≡ grown (B ++ (r ∷ [])) i t (j + k)
    last B r = by_test (goes_on_at r i t)
        (λ e. let w = goes_on_lem r i t e in
        let u : r.until + j + k ≡ r.until + (j + k) = omega arith in
        let v : r.slots + j + k ≡ r.slots + (j + k) = omega arith in
        rw (grown_on B r i t j w.0 w.1, grown_on B r i t (j + k) w.0 w.1)
        (grown_on B (longer r j) i (t + j) k w.0 (ap (λ x. x + j) w.1) ∙ rw (u, v)))
        (λ e. rw (grown_anew B r i t j e, grown_anew B r i t (j + k) e) (fresh_on (B ++ (r ∷ []))))

-- The last run of a list is over before moment t.
abbrev Over : List Run → ℕ → Type 0
Over [] t = Unit {0}
Over (r ∷ []) t = r.until < t
Over (r ∷ s ∷ rs) t = Over (s ∷ rs) t

over_next : (A : List Run) (t : ℕ) → Over A t → Over A (suc t)
over_next [] t o = tt
over_next (r ∷ []) t o = omega arith
over_next (r ∷ s ∷ rs) t o = over_next (s ∷ rs) t o

over_last : (A : List Run) (r : Run) (t : ℕ) → r.until < t → Over (A ++ (r ∷ [])) t
over_last [] r t h = h
over_last (x ∷ []) r t h = h
over_last (x ∷ y ∷ A) r t h = over_last (y ∷ A) r t h

grown_over_lem : (A : List Run) (i t k : ℕ) → Over A t → grown A i t k ≡ A ++ (fresh_run i t k ∷ [])
unfolding grown goes_on_at
grown_over_lem [] i t k o = refl
grown_over_lem (r ∷ []) i t k o =
    by_test (eqb r.piece i)
    (λ a. rw (a, ne_eqb r.until t (λ (z : r.until ≡ t). omega arith), when))
    (λ a. rw (a, when))
grown_over_lem (r ∷ s ∷ rs) i t k o = ap (λ l. r ∷ l) (grown_over_lem (s ∷ rs) i t k o)

-- The slots from a on, one by one, with who is worked on in each.
module _ (w : ℕ → Option ℕ) where
  turn : ℕ → Turn
  turn t = record { slot = t; who = w t }

  grown_over : List Run → ℕ → ℕ → List Run
  grown_over rs t zero = rs
  grown_over rs t (suc n) = grown_over (after_turn rs (w t) t) (suc t) n

  -- What is closed already, the run under way and the runs of the slots to come are the runs as they grow.
  mutual
    unfolding runs_from row grown_over turn after_turn closing goes_on next_run when

    closed_grown : (n t : ℕ) (A : List Run) → Over A t → A ++ runs_from none (map turn (row t n)) ≡ grown_over A t n
    closed_grown zero t A o = append-nil A
    closed_grown (suc n) t A o = by_choice (w t)
        (λ e. rw e (closed_grown n (suc t) A (over_next A t o)))
        (λ i e. rw (e, grown_over_lem A i t 1 o) (under_way_grown n (suc t) A (fresh_run i t 1) (omega arith)))

    under_way_grown : (n t : ℕ) (A : List Run) (r : Run) → r.until ≡ t
        → A ++ runs_from (some r) (map turn (row t n)) ≡ grown_over (A ++ (r ∷ [])) t n
    under_way_grown zero t A r e = refl
    under_way_grown (suc n) t A r e = by_choice (w t)
        (λ q. rw q (sym (append_assoc A (r ∷ []) _) ∙ closed_grown n (suc t) (A ++ (r ∷ []))
        (over_last A r (suc t) (omega arith))))
        (λ i q. by_test (eqb r.piece i)
        (λ a. rw (q, a, grown_on A r i t 1 (eqb-true _ i a) e, e, when)
        (under_way_grown n (suc t) A (longer_run r t) (omega arith)))
        (λ a. rw (q, a, grown_anew A r i t 1 (other_piece r i t a), when)
        (sym (append_assoc A (r ∷ []) _) ∙ under_way_grown n (suc t) (A ++ (r ∷ [])) (new_run i t) (omega arith))))

-- The runs of a desk are those that grow until the horizon.
module _ (J : Job) (d : ℕ) where
  grown_until : (n t : ℕ) → grown_over (worked J d) (runs_until J d t) t n ≡ runs_until J d (t + n)
  unfolding grown_over runs_until
  grown_until zero t = let z : t + 0 ≡ t = omega arith in rw z
  grown_until (suc n) t = let z : t + suc n ≡ suc t + n = omega arith in rw z (grown_until n (suc t))

  pub runs-grown : runs J d ≡ runs_until J d (horizon J)
  unfolding runs turns below runs_until turn
  runs-grown =
      let z : 0 + horizon J ≡ horizon J = omega arith in
      rw (all_open J d 0 (horizon J)) (closed_grown (worked J d) (horizon J) 0 [] tt ∙ grown_until (horizon J) 0 ∙ rw z)

  -- Over a stretch in which the desk keeps its choice.
  pub runs_resting : (t k : ℕ) → ((j : ℕ) → j < k → worked J d (t + j) ≡ none) → runs_until J d (t + k) ≡ runs_until J d t
  unfolding runs_until after_turn
  runs_resting t zero h = let z : t + 0 ≡ t = omega arith in rw z
  runs_resting t (suc k) h =
      let z : t + suc k ≡ suc (t + k) = omega arith in
      rw (z, h k (omega arith)) (runs_resting t k (λ j l. h j (omega arith)))

  pub runs_working : (t k i : ℕ) → ((j : ℕ) → j < suc k → worked J d (t + j) ≡ some i)
      → runs_until J d (t + suc k) ≡ grown (runs_until J d t) i t (suc k)
  unfolding runs_until after_turn
  runs_working t zero i h =
      let a : t + 1 ≡ suc t = omega arith in
      let z : t + 0 ≡ t = omega arith in
      rw (a, rw z at (h 0 (omega arith)))
  runs_working t (suc k) i h =
      let z : t + suc (suc k) ≡ suc (t + suc k) = omega arith in
      let a : suc k + 1 ≡ suc (suc k) = omega arith in
      rw (z, h (suc k) (omega arith), runs_working t k i (λ j l. h j (omega arith)))
      (grown_twice (runs_until J d t) i t (suc k) 1 ∙ rw a)
