-- Why the runs are few: a run begins with a piece that is begun, or where a desk goes on from a finished piece, so each
-- piece stands for at most two runs. `score` counts them for each piece.
use Prim.Native.Nat.{ℕ, zero, suc, ◌+◌, ◌-◌, ◌≤◌, ◌<◌}
use mathlib.Core.Bool.{Bool, true, false, not, ◌&&◌}
use mathlib.Core.Option.{some}
use mathlib.Core.Path.{◌≡◌, refl, sym, ap, ◌∙◌}
use native.Mathlib.Omega.{arith}
use borrow.Author.Tests.{ltb-true, lt-ltb, le-ltb, eqb-true, eqb-false, eq-eqb, ne_eqb}
use lib.Dec.{ltb, eqb}
use Rattle.rules.specs.Words.{when, is_it}
use Rattle.rules.specs.Job.{Job, piece_count, desk, duration}
use Rattle.rules.specs.Urgency.{worked, worked_on}
use Rattle.rules.specs.Tables.{Sound}
use Rattle.laws.proofs.Words.{by_test, and_true, and_intro}
use Rattle.laws.proofs.Progress.{left_falls}
use Rattle.laws.proofs.Sound.{fits}
use Rattle.laws.proofs.Slots.{by_choice, it_is, not_it, worked_chosen, work_on_lem, some_inj}
use Rattle.slots.specs.Stretch.{at}
use Rattle.slots.specs.Growth.{last_on, score}
use Rattle.slots.proofs.Last.{last_worked, last_rested, last_inside, untouched_yet, leaves_for_new}

-- One where a test holds.
abbrev one : Bool → ℕ
one b = when b 1 0

one_true : (b : Bool) → b ≡ true → one b ≡ 1
unfolding when
one_true b h = rw h

one_false : (b : Bool) → b ≡ false → one b ≡ 0
unfolding when
one_false b h = rw h

one_most : (b : Bool) → one b ≤ 1
unfolding when
one_most true = omega arith
one_most false = omega arith

one_more : (a b : Bool) → (a ≡ true → b ≡ true) → one a ≤ one b
unfolding when
one_more true b h = rw (h refl) (omega arith)
one_more false b h = omega arith

module _ (J : Job) where
  -- The piece is begun; and it is finished with its desk gone on to another.
  abbrev begun : ℕ → ℕ → Bool
  begun t i = ltb (at J t i).left (duration J i)

  abbrev passed : ℕ → ℕ → Bool
  passed t i = eqb (at J t i).left 0 && not (is_it (last_on J (desk J i) t) i)

  score_is : (t i : ℕ) → score J t i ≡ one (begun t i) + one (passed t i)
  unfolding score
  score_is t i = refl

  pub score_most : (t i : ℕ) → score J t i ≤ 2
  score_most t i = rw (score_is t i) (omega (arith, one_most (begun t i), one_most (passed t i)))

  not-passed : (t i : ℕ) → 0 < (at J t i).left → passed t i ≡ false
  not-passed t i h =
      let e : eqb (at J t i).left 0 ≡ false = ne_eqb _ 0 (λ (z : (at J t i).left ≡ 0). omega arith) in rw e

  pub score-unfinished : (t i : ℕ) → 0 < (at J t i).left → score J t i ≤ 1
  score-unfinished t i h =
      rw (score_is t i) (omega (arith, one_most (begun t i), one_false (passed t i) (not-passed t i h)))

  -- The count of a piece never falls.
  begun-stays : (t i : ℕ) → i < piece_count J → begun t i ≡ true → begun (suc t) i ≡ true
  begun-stays t i h e =
      lt-ltb (at J (suc t) i).left (duration J i)
      (omega (arith, left_falls J t i h, ltb-true (at J t i).left (duration J i) e))

  finished_next : (t i : ℕ) → i < piece_count J → (at J t i).left ≡ 0 → (at J (suc t) i).left ≡ 0
  finished_next t i h e = omega (arith, left_falls J t i h)

  passed-stays : (t i : ℕ) → i < piece_count J → passed t i ≡ true → passed (suc t) i ≡ true
  passed-stays t i h e =
      let w = and_true (eqb (at J t i).left 0) (not (is_it (last_on J (desk J i) t) i)) e in
      let done : (at J t i).left ≡ 0 = eqb-true _ 0 w.0 in
      and_intro _ _ (eq-eqb _ 0 (finished_next t i h done))
      (by_choice (worked J (desk J i) t)
      (λ q. rw (last_rested J (desk J i) t q) w.1)
      (λ x q. rw (last_worked J (desk J i) t x q)
      (ap not (not_it (some x) i (λ z. let c = (worked_chosen J (desk J i) t x q).waits.unfinished in
      omega (arith, rw (some_inj z) at c))))))

  score_next : (t i : ℕ) → i < piece_count J → score J t i ≤ score J (suc t) i
  score_next t i h =
      rw (score_is t i, score_is (suc t) i)
      (omega (
        arith,
        one_more (begun t i) (begun (suc t) i) (begun-stays t i h),
        one_more (passed t i) (passed (suc t) i) (passed-stays t i h),
      ))

  pub score_grows : (t k i : ℕ) → i < piece_count J → score J t i ≤ score J (t + k) i
  score_grows t zero i h = let z : t + 0 ≡ t = omega arith in rw z (omega arith)
  score_grows t (suc k) i h =
      let z : t + suc k ≡ suc (t + k) = omega arith in
      let ih : score J t i ≤ score J (t + k) i = score_grows t k i h in
      rw z (omega (arith, score_next (t + k) i h))

  -- Where a run begins, a piece of the desk counts one more.
  module _ (sound : Sound J) where
    abbrev pub Rises : ℕ → ℕ → Type 0
    Rises d t = (x : ℕ) × (x < piece_count J) × (desk J x ≡ d) × (score J t x < score J (suc t) x)

    -- It is begun with it ..
    new_rises : (d t i : ℕ) → worked J d t ≡ some i → (at J t i).left ≡ duration J i → Rises d t
    unfolding worked_on
    new_rises d t i e b =
        let w = (worked_chosen J d t i e).waits in
        let f : (at J (suc t) i).left ≡ (at J t i).left - 1 =
        ap (λ p. p.left) (work_on_lem J t i w.inside (ap (λ x. worked J x t) w.at_desk ∙ e)) in
        let u : 0 < (at J t i).left = w.unfinished in
        let was : score J t i ≡ 0 =
        rw (score_is t i)
        (omega (
          arith,
          one_false (begun t i) (le-ltb (at J t i).left (duration J i) (omega arith)),
          one_false (passed t i) (not-passed t i u),
        )) in
        let is : 1 ≤ score J (suc t) i =
        rw (score_is (suc t) i)
        (omega (arith, one_true (begun (suc t) i) (lt-ltb (at J (suc t) i).left (duration J i) (omega arith)))) in
        (i, w.inside, w.at_desk, omega arith)

    -- .. or it was finished before.
    old_rises : (d t i j : ℕ) → worked J d t ≡ some i → last_on J d t ≡ some j → (i ≡ j → ⊥) → (at J t j).left ≡ 0
        → Rises d t
    old_rises d t i j e l ne f =
        let w = last_inside J d t j l in
        let q : desk J j ≡ d = w.1 in
        let b : begun t j ≡ true =
        lt-ltb (at J t j).left (duration J j) (omega (arith, (fits J sound j w.0).duration_least)) in
        let was : passed t j ≡ false =
        rw (eq-eqb _ 0 f, q) (ap not (it_is (last_on J d t) j l)) in
        let is : passed (suc t) j ≡ true =
        rw (eq-eqb _ 0 (finished_next t j w.0 f), q, last_worked J d t i e)
        (ap not (not_it (some i) j (λ z. ne (some_inj z)))) in
        let less : score J t j < score J (suc t) j =
        rw (score_is t j, score_is (suc t) j)
        (omega (
          arith,
          one_true (begun t j) b,
          one_false (passed t j) was,
          one_true (begun (suc t) j) (begun-stays t j w.0 b),
          one_true (passed (suc t) j) is,
        )) in
        (j, w.0, q, less)

    pub run_rises : (d t i : ℕ) → worked J d t ≡ some i → (last_on J d t ≡ some i → ⊥) → Rises d t
    run_rises d t i e ne = by_choice (last_on J d t)
        (λ l. let w = (worked_chosen J d t i e).waits in
        new_rises d t i e (untouched_yet J d t i l w.inside w.at_desk))
        (λ j l. by_test (eqb (at J t j).left 0)
        (λ f. old_rises d t i j e l (λ z. ne (l ∙ ap some (sym z))) (eqb-true _ 0 f))
        (λ f. new_rises d t i e (leaves_for_new J sound d t j i l (omega (arith, eqb-false (at J t j).left 0 f)) e
        (λ z. ne (l ∙ ap some (sym z))))))
