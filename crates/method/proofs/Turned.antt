-- The board in the order of time: the last stretch first becomes the first stretch first, and nothing else changes. So the
-- runs of a tidy board are those that the code keeps. Assumes nothing.
use Prim.Native.Nat.{ℕ, zero, suc, ◌≤◌, ◌<◌}
use mathlib.Core.Bool.{Bool, true}
use mathlib.Core.List.{List, [], ◌∷◌, ◌++◌, map, reverse, append_assoc, append-nil, reverse-append, reverse-reverse}
use mathlib.Core.Option.{none, some}
use mathlib.Core.Path.{◌≡◌, refl, sym, ap, ◌∙◌}
use native.Mathlib.Omega.{arith}
use Rattle.rules.specs.Words.{when, or_else}
use Rattle.rules.specs.Runs.{runs_from}
use Rattle.laws.proofs.Words.{by_test, when_true, when_false}
use Rattle.theory.proofs.Plans.{Plan}
use Rattle.theory.proofs.Turns.{turns_of}
use Rattle.rules.specs.declared.Run.{Run as Stretch}
use Rattle.method.specs.Board.{board_of, run_of, holder}
use Rattle.method.proofs.Held.{Behind, Tidy, Ends, between, in_between, after_between, between_facts}
use Rattle.method.proofs.RunsLaid.{Before, Rises, Over, runs_laid}
use Rattle.method.proofs.Solved.{or_else_rest}

-- The stretches of a board in front of those that come after.
unfoldable turned : List Stretch → List Stretch → List Stretch
turned [] rs = rs
turned (r ∷ b) rs = turned b (r ∷ rs)

abbrev Joint : List Stretch → List Stretch → Type 0
Joint [] rs = Unit {0}
Joint (r ∷ b) rs = Before r rs

joint_more : (b : List Stretch) (r : Stretch) (rs : List Stretch) → Behind r b → Joint b (r ∷ rs)
joint_more [] r rs k = tt
joint_more (q ∷ b) r rs k = k

turned_rises : (b rs : List Stretch) → Tidy b → Rises rs → Joint b rs → Rises (turned b rs)
unfolding turned
turned_rises [] rs t z j = z
turned_rises (r ∷ b) rs t z j = turned_rises b (r ∷ rs) t.2 (t.0, j, z) (joint_more b r rs t.1)

ends_before : (b : List Stretch) (r : Stretch) → Behind r b → Ends r.from b
ends_before [] r k = tt
ends_before (q ∷ b) r k = k.0

turned_over : (h : ℕ) (b rs : List Stretch) → Tidy b → Ends h b → Over h rs → Over h (turned b rs)
unfolding turned
turned_over h [] rs t e o = o
turned_over h (r ∷ b) rs t e o =
    turned_over h b (r ∷ rs) t.2 (later b (ends_before b r t.1)) (e, o)
  where
    later : (b : List Stretch) → Ends r.from b → Ends h b
    later [] k = tt
    later (q ∷ b) k = omega (arith, k, t.0, e)

module _ (opens : ℕ → Bool) where
  -- Nobody has a slot after all stretches are over.
  none_after : (b : List Stretch) (s t : ℕ) → Tidy b → Ends s b → s ≤ t → holder opens b t ≡ none
  unfolding holder
  none_after [] s t z e h = refl
  none_after (r ∷ b) s t z e h =
      when_false (between opens r.from r.until t) _ _ (after_between opens r.from r.until t (omega arith))
      ∙ none_after b r.from t z.2 (ends_before b r z.1) (omega (arith, z.0))

  turned_holder : (b rs : List Stretch) → Tidy b → (t : ℕ)
      → holder opens (turned b rs) t ≡ or_else (holder opens b t) (holder opens rs t)
  unfolding turned holder or_else
  turned_holder [] rs z t = refl
  turned_holder (r ∷ b) rs z t =
      turned_holder b (r ∷ rs) z.2 t
      ∙ by_test (between opens r.from r.until t)
      (λ e.
      let k = between_facts opens r.from r.until t e in
      rw (none_after b r.from t z.2 (ends_before b r z.1) k.0, e, when, or_else))
      (λ e. rw (e, when))

  -- A board is over by moment h where nobody has a slot from h on.
  pub ends_by : (h : ℕ) (b : List Stretch) → ((t : ℕ) → opens t ≡ true) → Tidy b
      → ((t i : ℕ) → holder opens b t ≡ some i → t < h) → Ends h b
  unfolding holder
  ends_by h [] always z k = tt
  ends_by h (r ∷ b) always z k = last r.until refl
    where
      last : (u : ℕ) → r.until ≡ u → r.until ≤ h
      last zero e = omega arith
      last (suc t) e =
          omega (
            arith,
            e,
            k t r.piece
                (when_true (between opens r.from r.until t) _ _
                (in_between opens r.from r.until t (omega (arith, z.0, e)) (omega (arith, e)) (always t))),
          )

-- A board turned twice.
turned_is : (b rs : List Stretch) → turned b rs ≡ reverse b ++ rs
unfolding turned
turned_is [] rs = refl
turned_is (r ∷ b) rs =
    turned_is b (r ∷ rs)
    ∙ sym (ap (λ (l : List Stretch). l ++ rs) (reverse-append (r ∷ []) b) ∙ append_assoc (reverse b) (r ∷ []) rs)

turned_board : (runs : List Stretch) → turned (board_of runs) [] ≡ runs
turned_board runs = turned_is (reverse runs) [] ∙ append-nil (reverse (reverse runs)) ∙ reverse-reverse runs

-- THE RUNS OF A TIDY BOARD
pub board_runs : (opens : ℕ → Bool) → ((t : ℕ) → opens t ≡ true) → (w : Plan) (h : ℕ) (runs : List Stretch)
    → Tidy (board_of runs)
    → ((t : ℕ) → holder opens (board_of runs) t ≡ w t)
    → ((t i : ℕ) → w t ≡ some i → t < h)
    → runs_from none (turns_of opens w h) ≡ map run_of runs
unfolding holder
board_runs opens always w h runs z same short =
    let b : List Stretch = board_of runs in
    runs_laid opens always w h (turned b []) (turned_rises b [] z tt (joint_none b))
    (turned_over h b [] z (ends_by opens h b always z (λ t i e. short t i (sym (same t) ∙ e))) tt)
    (λ t. sym (turned_holder opens b [] z t ∙ or_else_rest (holder opens b t) ∙ same t))
    ∙ ap (map run_of) (turned_board runs)
  where
    joint_none : (b : List Stretch) → Joint b []
    joint_none [] = tt
    joint_none (r ∷ b) = tt
