-- The board in the list of its runs: a stretch put at the end, or a later end put into the last one. Assumes nothing.
use Rattle.std.proofs.Common.{ℕ, ◌+◌, ◌-◌, ◌≤◌, ◌<◌, true, false, ◌&&◌, eqb, ltb, ◌≡◌, ◌∙◌, refl, sym, ap, arith}
use Rattle.std.proofs.Common.{List, [], ◌∷◌, ◌++◌, length, get_or, set, take}
use Rattle.std.specs.Prelude.{reverse}
use Rattle.std.specs.List.{refill}
use Rattle.std.proofs.Math.Option.{some}
use Rattle.std.proofs.lemmas.List.{reverse-append, take_more, take_all, set_at, length-take-le}
use borrow.Author.Tests.{lt-ltb, le-ltb, eqb-true}
use Rattle.rules.specs.Tables.{no_run}
use Rattle.rules.specs.declared.Run.{Run as Stretch}
use Rattle.laws.proofs.Words.{true_or_false, and_true, when_true, when_false}
use Rattle.entries.proofs.ByKeys.{refilled}
use Rattle.method.specs.Board.{stretch, board_of, touching, joined, give}

-- The last of a list that is not empty.
abbrev pub last_of : List Stretch → Stretch
last_of runs = get_or runs (length runs - 1) no_run

abbrev front_of : List Stretch → List Stretch
front_of runs = take (length runs - 1) runs

split_last : (runs : List Stretch) → 0 < length runs → runs ≡ front_of runs ++ (last_of runs ∷ [])
split_last runs h =
    let one : length runs - 1 + 1 ≡ length runs = omega arith in
    sym (sym (take_more runs (length runs - 1) no_run (omega arith))
    ∙ ap (λ (k : ℕ). take k runs) one ∙ take_all (length runs) runs (omega arith))

pub board_last : (runs : List Stretch) → 0 < length runs → board_of runs ≡ last_of runs ∷ reverse (front_of runs)
board_last runs h =
    ap reverse (split_last runs h) ∙ reverse-append (front_of runs) (last_of runs ∷ [])

-- The last stretch is looked at, if there is one.
pub touching_last : (p f : ℕ) (runs : List Stretch) → 0 < length runs
    → touching p f (board_of runs) ≡ (eqb (last_of runs).until f && eqb (last_of runs).piece p)
unfolding touching
touching_last p f runs h = ap (touching p f) (board_last runs h)

pub touching_none : (p f : ℕ) (runs : List Stretch) → length runs ≡ 0 → touching p f (board_of runs) ≡ false
unfolding touching
touching_none p f [] h = refl
touching_none p f (r ∷ runs) h = absurd (omega arith)

pub touching_some : (p f : ℕ) (runs : List Stretch) → touching p f (board_of runs) ≡ true → 0 < length runs
unfolding touching
touching_some p f [] h = true_or_false (sym h)
touching_some p f (r ∷ runs) h = omega arith

-- Slots that are none.
pub no_slots : (p f u : ℕ) (b : List Stretch) → u ≤ f → b ≡ give (some p) f u b
unfolding give
no_slots p f u b h = sym (when_false (ltb f u) (joined p f u b) b (le-ltb f u h))

module _ (p f u : ℕ) (runs : List Stretch) (slots : f < u) where
  given : give (some p) f u (board_of runs) ≡ joined p f u (board_of runs)
  unfolding give
  given = when_true (ltb f u) (joined p f u (board_of runs)) (board_of runs) (lt-ltb f u slots)

  -- The last stretch made longer.
  pub longer : touching p f (board_of runs) ≡ true
      → board_of (set runs (length runs - 1) (stretch (last_of runs).piece (last_of runs).from u))
      ≡ give (some p) f u (board_of runs)
  unfolding joined touching
  longer h =
      let some_one : 0 < length runs = touching_some p f runs h in
      let e : (eqb (last_of runs).until f && eqb (last_of runs).piece p) ≡ true =
      sym (touching_last p f runs some_one) ∙ h in
      let same : (last_of runs).piece ≡ p =
      eqb-true (last_of runs).piece p (and_true (eqb (last_of runs).until f) (eqb (last_of runs).piece p) e).1 in
      let new : Stretch = stretch (last_of runs).piece (last_of runs).from u in
      ap (λ (l : List Stretch). reverse (set l (length runs - 1) new)) (split_last runs some_one)
      ∙ ap reverse (set_at (front_of runs) (last_of runs) [] new (length runs - 1)
      (length-take-le (length runs - 1) runs (omega arith)))
      ∙ reverse-append (front_of runs) (new ∷ [])
      ∙ ap (λ (q : ℕ). stretch q (last_of runs).from u ∷ reverse (front_of runs)) same
      ∙ sym (given ∙ ap (joined p f u) (board_last runs some_one) ∙ when_true _ _ _ e)

  -- A new stretch.
  pub behind : touching p f (board_of runs) ≡ false
      → board_of (runs ++ (stretch p f u ∷ [])) ≡ give (some p) f u (board_of runs)
  unfolding joined touching
  behind h = reverse-append runs (stretch p f u ∷ []) ∙ sym (given ∙ new_last (board_of runs) h)
    where
      new_last : (b : List Stretch) → touching p f b ≡ false → joined p f u b ≡ stretch p f u ∷ b
      new_last [] h = refl
      new_last (r ∷ b) h = when_false _ _ _ h

pub seen_last : (p f : ℕ) (runs : List Stretch) (x : Stretch) → 0 < length runs → x ≡ last_of runs
    → touching p f (board_of runs) ≡ (eqb x.until f && eqb x.piece p)
seen_last p f runs x h e =
    touching_last p f runs h ∙ ap (λ (r : Stretch). eqb r.until f && eqb r.piece p) (sym e)

-- A list written through a slice of it.
pub written_through : {A : Type 0} (n : ℕ) (xs ws : List A) → n ≡ length xs → length ws ≡ length xs → refill n xs ws ≡ ws
written_through n xs ws h k = refilled n xs ws (k ∙ sym h)
