-- The desks moved on one after the other, in any order, from moment t to the end of a stretch: how far the pieces are
-- once some of the desks have been moved on.
use Prim.Native.Nat.{ℕ, zero, suc, ◌+◌, ◌≤◌, ◌<◌}
use mathlib.Core.Bool.{Bool, true, false}
use mathlib.Core.List.{List}
use mathlib.Core.Option.{none, some}
use mathlib.Core.Path.{◌≡◌, refl, sym, ap, ◌∙◌}
use native.Mathlib.Omega.{arith}
use borrow.Author.Tests.{ltb-true, ltb-false, eqb-true, eqb-false, eq-eqb, ne_eqb}
use lib.Dec.{ltb, eqb}
use lib.ListN.{get_or, get_or-eq_default}
use Rattle.rules.specs.Words.{when}
use Rattle.rules.specs.Job.{Job, piece_count, desk, duration}
use Rattle.rules.specs.Tables.{Sound}
use Rattle.rules.specs.Urgency.{Progress, untouched, work_at, worked}
use Rattle.laws.proofs.Slots.{worked_chosen, work-length, none_or_some}
use Rattle.laws.proofs.Words.{by_test, true_or_false, when_true, when_false}
use Rattle.slots.specs.Stretch.{at, Stretch, worked_for}
use Rattle.slots.proofs.Stretch.{not-worked, worked_through}

-- Some desks, and desk d too.
pub also : (ℕ → Bool) → ℕ → ℕ → Bool
also M d e = when (eqb e d) true (M e)

pub also_own : (M : ℕ → Bool) (d : ℕ) → also M d d ≡ true
unfolding also
also_own M d = when_true _ true (M d) (eq-eqb d d refl)

pub also_other : (M : ℕ → Bool) (d e : ℕ) → (e ≡ d → ⊥) → also M d e ≡ M e
unfolding also
also_other M d e ne = when_false _ true (M e) (ne_eqb e d ne)

-- The moment of desk e once the desks of M are at moment u and the others at moment t.
unfoldable pub moment_of : ℕ → ℕ → (ℕ → Bool) → ℕ → ℕ
moment_of t u M e = when (M e) u t

pub moment_early : (t u : ℕ) (M : ℕ → Bool) (e : ℕ) → M e ≡ false → moment_of t u M e ≡ t
unfolding moment_of
moment_early t u M e h = when_false _ u t h

pub moment_late : (t u : ℕ) (M : ℕ → Bool) (e : ℕ) → M e ≡ true → moment_of t u M e ≡ u
unfolding moment_of
moment_late t u M e h = when_true _ u t h

pub moment_own : (t u : ℕ) (M : ℕ → Bool) (d : ℕ) → moment_of t u (also M d) d ≡ u
moment_own t u M d = moment_late t u (also M d) d (also_own M d)

pub moment_other : (t u : ℕ) (M : ℕ → Bool) (d e : ℕ) → (e ≡ d → ⊥) → moment_of t u (also M d) e ≡ moment_of t u M e
unfolding moment_of
moment_other t u M d e ne = rw (also_other M d e ne)

module _ (J : Job) where
  -- How far the pieces are, each at its desk's moment.
  abbrev pub standing : (ℕ → ℕ) → ℕ → Progress
  standing τ i = at J (τ (desk J i)) i

  outside : (t i : ℕ) → piece_count J ≤ i → at J t i ≡ untouched 0
  outside t i h = get_or-eq_default (work_at J t) (untouched 0) (rw (work-length J t) h)

  module _ (sound : Sound J) (t u k : ℕ) (e : t + k ≡ u) (s : Stretch J t k) where
    -- Who is not worked on stays where it was.
    same : (j : ℕ) → (worked J (desk J j) t ≡ some j → ⊥) → at J u j ≡ at J t j
    same j ne = by_test (ltb j (piece_count J))
        (λ l. rw e at (not-worked J sound t k s j (ltb-true j _ l) ne))
        (λ l. let o = ltb-false j (piece_count J) l in outside u j o ∙ sym (outside t j o))

    -- All desks that work were moved on: then every piece is where it is at moment u.
    pub all_moved : (M : ℕ → Bool) (i : ℕ) → (M (desk J i) ≡ false → worked J (desk J i) t ≡ none)
        → standing (moment_of t u M) i ≡ at J u i
    all_moved M i rest = by_test (M (desk J i))
        (λ q. ap (λ x. at J x i) (moment_late t u M (desk J i) q))
        (λ q. ap (λ x. at J x i) (moment_early t u M (desk J i) q)
        ∙ sym (same i (λ w. none_or_some (sym (rest q) ∙ w))))

    -- Desk d is moved on, which was not yet: who it does not work on stays where it was.
    pub unmoved : (M : ℕ → Bool) (d : ℕ) → M d ≡ false → (j : ℕ) → (worked J d t ≡ some j → ⊥)
        → standing (moment_of t u (also M d)) j ≡ standing (moment_of t u M) j
    unmoved M d new j ne = by_test (eqb (desk J j) d)
        (λ q. let z : desk J j ≡ d = eqb-true (desk J j) d q in
        ap (λ x. at J x j) (rw z (moment_own t u M d)) ∙ same j (λ w. ne (rw z at w))
        ∙ sym (ap (λ x. at J x j) (rw z (moment_early t u M d new))))
        (λ q. ap (λ x. at J x j) (moment_other t u M d (desk J j) (eqb-false (desk J j) d q)))

    -- And who it works on was at moment t, and is now worked on for the whole stretch.
    module _ (M : ℕ → Bool) (d : ℕ) (new : M d ≡ false) (i : ℕ) (w : worked J d t ≡ some i) where
      own_desk : desk J i ≡ d
      own_desk = (worked_chosen J d t i w).waits.at_desk

      pub moved_from : standing (moment_of t u M) i ≡ at J t i
      moved_from = ap (λ x. at J x i) (rw own_desk (moment_early t u M d new))

      pub moved_to : standing (moment_of t u (also M d)) i ≡ at J u i
      moved_to = ap (λ x. at J x i) (rw own_desk (moment_own t u M d))

      pub moved_on : 0 < k → at J u i ≡ worked_for (duration J i) t k (at J t i)
      moved_on p =
          sym (ap (λ x. at J x i) e)
          ∙ worked_through J sound t k s p i (worked_chosen J d t i w).waits.inside
          (ap (λ x. worked J x t) own_desk ∙ w)

-- The desks in the first k places of the table of those that work.
unfoldable pub moved_by : List ℕ → ℕ → ℕ → Bool
moved_by busy zero = λ e. false
moved_by busy (suc k) = also (moved_by busy k) (get_or busy k 0)

pub not_moved : (busy : List ℕ) (k d : ℕ) → ((q : ℕ) → q < k → get_or busy q 0 ≡ d → ⊥) → moved_by busy k d ≡ false
unfolding moved_by
not_moved busy zero d h = refl
not_moved busy (suc k) d h =
    also_other (moved_by busy k) (get_or busy k 0) d (λ z. h k (omega arith) (sym z))
    ∙ not_moved busy k d (λ q l. h q (omega arith))

pub moved : (busy : List ℕ) (k q : ℕ) → q < k → moved_by busy k (get_or busy q 0) ≡ true
unfolding moved_by
moved busy zero q h = absurd (omega arith)
moved busy (suc k) q h = by_test (eqb (get_or busy q 0) (get_or busy k 0))
    (λ z. rw (eqb-true (get_or busy q 0) (get_or busy k 0) z) (also_own (moved_by busy k) (get_or busy k 0)))
    (λ z. let ne = eqb-false (get_or busy q 0) (get_or busy k 0) z in
    also_other (moved_by busy k) (get_or busy k 0) (get_or busy q 0) ne
    ∙ moved busy k q (by_test (eqb q k)
    (λ y. absurd (ne (ap (λ x. get_or busy x 0) (eqb-true q k y))))
    (λ y. let no = eqb-false q k y in lower q k h no)))
  where
    lower : (q k : ℕ) → q < suc k → (q ≡ k → ⊥) → q < k
    lower q k a b = by_test (ltb q k) (λ e. ltb-true q k e) (λ e. absurd (b (omega (arith, ltb-false q k e))))

pub found_moved : (busy : List ℕ) (k d : ℕ) → moved_by busy k d ≡ true → (q : ℕ) × (q < k) × (get_or busy q 0 ≡ d)
unfolding moved_by
found_moved busy zero d h = true_or_false (sym h)
found_moved busy (suc k) d h = by_test (eqb d (get_or busy k 0))
    (λ z. (k, omega arith, sym (eqb-true d (get_or busy k 0) z)))
    (λ z. let w = found_moved busy k d
    (sym (also_other (moved_by busy k) (get_or busy k 0) d (eqb-false d (get_or busy k 0) z)) ∙ h) in
    (w.0, omega (arith, w.1), w.2))

-- The desks that work from moment t on, each once, with whom they chose; the others rest.
pub record Desks (J : Job) (t count : ℕ) (chosen busy : List ℕ) : Type 0 where
  pub desk_most : (k : ℕ) → k < count → get_or busy k 0 < 32
  pub works : (k : ℕ) → k < count → worked J (get_or busy k 0) t ≡ some (get_or chosen (get_or busy k 0) 0)
  pub new : (k : ℕ) → k < count → moved_by busy k (get_or busy k 0) ≡ false
  pub rest : (d : ℕ) → d < 32 → moved_by busy count d ≡ false → worked J d t ≡ none
