-- The slots worked at once, over the tables: after some of the desks that work the tables say how far the pieces are with
-- these desks moved on.
use Prim.Native.Nat.{ℕ, zero, suc, ◌+◌, ◌-◌, ◌≤◌, ◌<◌}
use mathlib.Core.Bool.{Bool, false}
use mathlib.Core.List.{List}
use mathlib.Core.Option.{some}
use mathlib.Core.Path.{◌≡◌, refl, sym, ap, ◌∙◌}
use native.Mathlib.Omega.{arith}
use borrow.Author.Tests.{eqb-true, eqb-false}
use lib.Dec.{eqb}
use lib.ListN.{length, get_or, set, length-set}
use lib.Seq.{get_or-set_same, get_or-set_other}
use Rattle.rules.specs.Words.{when}
use Rattle.rules.specs.Job.{Job, piece_count, desk, duration}
use Rattle.rules.specs.Tables.{Sound}
use Rattle.rules.specs.Urgency.{Progress, worked}
use Rattle.laws.proofs.Slots.{worked_chosen, some_inj}
use Rattle.laws.proofs.Words.{by_test}
use Rattle.slots.specs.Stretch.{at, Stretch, worked_for}
use Rattle.steps.specs.Work.{Work, forth, work_to}
use Rattle.steps.proofs.Moved.{also, moment_of, moment_early, standing, all_moved, unmoved, moved_from, moved_to, moved_on, moved_by, Desks}

-- The tables of n pieces say how far they are.
pub record WorkHeld (n : ℕ) (P : ℕ → Progress) (w : Work) : Type 0 where
  pub left_sized : length w.left ≡ 256
  pub start_sized : length w.start ≡ 256
  pub finish_sized : length w.finish ≡ 256
  pub left_is : (i : ℕ) → i < n → get_or w.left i 0 ≡ (P i).left
  pub start_is : (i : ℕ) → i < n → get_or w.start i 0 ≡ (P i).start
  pub finish_is : (i : ℕ) → i < n → get_or w.finish i 0 ≡ (P i).finish

-- The same for pieces that are equally far.
pub work_alike : (n : ℕ) (P Q : ℕ → Progress) (w : Work) → ((i : ℕ) → i < n → Q i ≡ P i) → WorkHeld n P w
    → WorkHeld n Q w
work_alike n P Q w e h = record {
  left_sized = h.left_sized;
  start_sized = h.start_sized;
  finish_sized = h.finish_sized;
  left_is = λ i l. h.left_is i l ∙ ap (λ p. p.left) (sym (e i l));
  start_is = λ i l. h.start_is i l ∙ ap (λ p. p.start) (sym (e i l));
  finish_is = λ i l. h.finish_is i l ∙ ap (λ p. p.finish) (sym (e i l));
}

-- A value stored for one piece: it counts for that piece, and the others keep theirs.
stored : (T : List ℕ) (n i x : ℕ) (f g : ℕ → ℕ) → i < length T → ((j : ℕ) → j < n → get_or T j 0 ≡ f j) → x ≡ g i
    → ((j : ℕ) → j < n → (j ≡ i → ⊥) → f j ≡ g j) → (j : ℕ) → j < n → get_or (set T i x) j 0 ≡ g j
stored T n i x f g b h e o j l = by_test (eqb j i)
    (λ q. let z : j ≡ i = eqb-true j i q in rw (z, get_or-set_same T i x 0 b) e)
    (λ q. let ne = eqb-false j i q in get_or-set_other T i j x 0 ne ∙ h j l ∙ o j l ne)

-- The same where it is stored only if a test holds.
stored_if : (b : Bool) (T : List ℕ) (n i x : ℕ) (f g : ℕ → ℕ) → i < length T → ((j : ℕ) → j < n → get_or T j 0 ≡ f j)
    → when b x (f i) ≡ g i → ((j : ℕ) → j < n → (j ≡ i → ⊥) → f j ≡ g j) → (j : ℕ) → j < n
    → get_or (when b (set T i x) T) j 0 ≡ g j
unfolding when
stored_if b T n i x f g l h e o j m = by_test b
    (λ t. rw t (stored T n i x f g l h (rw t at e) o j m))
    (λ t. rw t (h j m ∙ by_test (eqb j i)
    (λ q. let z : j ≡ i = eqb-true j i q in rw z (rw t at e))
    (λ q. o j m (eqb-false j i q))))

sized_if : (b : Bool) (T : List ℕ) (i x : ℕ) → length (when b (set T i x) T) ≡ length T
unfolding when
sized_if b T i x = by_test b (λ t. rw t (length-set T i x)) (λ t. rw t)

module _ (J : Job) (sound : Sound J) (n : ℕ) (durations : List ℕ) (t u k : ℕ) (e : t + k ≡ u) (p : 0 < k)
    (s : Stretch J t k) (count : piece_count J ≡ n) (few : n ≤ 256)
    (duration_is : (i : ℕ) → i < n → duration J i ≡ get_or durations i 0) where
  -- Desk d moved on, which works on piece i.
  work-desk : (M : ℕ → Bool) (d : ℕ) → M d ≡ false → (i : ℕ) → worked J d t ≡ some i → (w : Work)
      → WorkHeld n (standing J (moment_of t u M)) w
      → WorkHeld n (standing J (moment_of t u (also M d))) (forth durations t u i w)
  work-desk M d new i q w h =
      let inside : i < n = rw count at (worked_chosen J d t i q).waits.inside in
      let P = standing J (moment_of t u M) in
      let Q = standing J (moment_of t u (also M d)) in
      let from = moved_from J sound t u k e s M d new i q in
      let to : Q i ≡ worked_for (duration J i) t k (at J t i) =
      moved_to J sound t u k e s M d new i q ∙ moved_on J sound t u k e s M d new i q p in
      let others : (j : ℕ) → (j ≡ i → ⊥) → P j ≡ Q j =
      λ j ne. sym (unmoved J sound t u k e s M d new j (λ z. ne (some_inj (sym z ∙ q)))) in
      let whole : get_or w.left i 0 ≡ (at J t i).left = h.left_is i inside ∙ ap (λ r. r.left) from in
      let first : (P i).start ≡ (at J t i).start = ap (λ r. r.start) from in
      let test : Bool = eqb (get_or w.left i 0) (get_or durations i 0) in
      let slots : u - t ≡ k = omega arith in
      record {
        left_sized = length-set w.left i (get_or w.left i 0 - (u - t)) ∙ h.left_sized;
        start_sized = sized_if test w.start i t ∙ h.start_sized;
        finish_sized = length-set w.finish i u ∙ h.finish_sized;
        left_is = stored w.left n i (get_or w.left i 0 - (u - t)) (λ j. (P j).left) (λ j. (Q j).left)
            (omega (arith, h.left_sized)) h.left_is (rw (whole, slots) (sym (ap (λ r. r.left) to)))
            (λ j l ne. ap (λ r. r.left) (others j ne));
        start_is = stored_if test w.start n i t (λ j. (P j).start) (λ j. (Q j).start) (omega (arith, h.start_sized))
            h.start_is (rw (whole, first, ← duration_is i inside) (sym (ap (λ r. r.start) to)))
            (λ j l ne. ap (λ r. r.start) (others j ne));
        finish_is = stored w.finish n i u (λ j. (P j).finish) (λ j. (Q j).finish)
            (omega (arith, h.finish_sized)) h.finish_is (sym e ∙ sym (ap (λ r. r.finish) to))
            (λ j l ne. ap (λ r. r.finish) (others j ne));
      }

  -- The first c of the desks that work moved on.
  module _ (all : ℕ) (chosen busy : List ℕ) (D : Desks J t all chosen busy) where
    work_desks : (c : ℕ) → c ≤ all → (w : Work) → WorkHeld n (standing J (moment_of t u (moved_by busy 0))) w
        → WorkHeld n (standing J (moment_of t u (moved_by busy c))) (work_to durations t u chosen busy c w)
    unfolding work_to moved_by
    work_desks zero l w h = h
    work_desks (suc c) l w h =
        work-desk (moved_by busy c) (get_or busy c 0) (D.new c l) (get_or chosen (get_or busy c 0) 0) (D.works c l)
        (work_to durations t u chosen busy c w) (work_desks c (omega arith) w h)

    -- All of them: the tables say how far the pieces are at moment u.
    pub work_step : ((i : ℕ) → i < n → desk J i < 32) → (w : Work) → WorkHeld n (at J t) w
        → WorkHeld n (at J u) (work_to durations t u chosen busy all w)
    unfolding moved_by
    work_step few_desks w h =
        work_alike n (standing J (moment_of t u (moved_by busy all))) (at J u) (work_to durations t u chosen busy all w)
        (λ i l. sym (all_moved J sound t u k e s (moved_by busy all) i (D.rest (desk J i) (few_desks i l))))
        (work_desks all (omega arith) w
        (work_alike n (at J t) (standing J (moment_of t u (moved_by busy 0))) w
        (λ i l. ap (λ x. at J x i) (moment_early t u (moved_by busy 0) (desk J i) refl)) h))
