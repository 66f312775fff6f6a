-- The runs of a tidy board, on a desk that is always open: its stretches are the longest stretches of slots in which the
-- desk works on one piece, so they are the rules' runs. Shown slot by slot. Assumes nothing.
use Prim.Native.Nat.{ℕ, zero, suc, ◌+◌, ◌-◌, ◌≤◌, ◌<◌}
use mathlib.Core.Bool.{Bool, true, false}
use mathlib.Core.List.{List, [], ◌∷◌, map}
use mathlib.Core.Option.{Option, none, some}
use mathlib.Core.Path.{◌≡◌, refl, sym, ap, ◌∙◌}
use native.Mathlib.Numerals.{add-one}
use native.Mathlib.Omega.{arith}
use borrow.Author.Tests.{ne_eqb}
use lib.Dec.{eqb}
use Rattle.rules.specs.Words.{when, keep, row, below}
use Rattle.rules.specs.Runs.{Turn, Run, new_run, longer_run, closing, goes_on, runs_from}
use Rattle.laws.proofs.Words.{when_true, when_false}
use Rattle.laws.proofs.Slots.{none_or_some, some_inj}
use Rattle.theory.proofs.Cases.{by_eq}
use Rattle.theory.proofs.Plans.{Plan}
use Rattle.theory.proofs.Turns.{turn_of, turns_of, runs_over, runs_rest, runs-longer, runs_new}
use Rattle.rules.specs.declared.Run.{Run as Stretch}
use Rattle.method.specs.Board.{run_of, holder}
use Rattle.method.proofs.Held.{Clear, between, in_between, before_between, after_between}

-- Stretches in the order of time: not empty, rising, and of two that touch each another piece's.
abbrev pub Before : Stretch → List Stretch → Type 0
Before r [] = Unit {0}
Before r (q ∷ rs) = Clear r q

abbrev pub Rises : List Stretch → Type 0
Rises [] = Unit {0}
Rises (r ∷ rs) = (r.from < r.until) × Before r rs × Rises rs

-- None begins before moment a, and all are over by moment h.
abbrev Starts : ℕ → List Stretch → Type 0
Starts a [] = Unit {0}
Starts a (r ∷ rs) = a ≤ r.from

abbrev pub Over : ℕ → List Stretch → Type 0
Over h [] = Unit {0}
Over h (r ∷ rs) = (r.until ≤ h) × Over h rs

starts_behind : (r : Stretch) (rs : List Stretch) (a : ℕ) → Before r rs → a ≤ r.until → Starts a rs
starts_behind r [] a b h = tt
starts_behind r (q ∷ rs) a b h = omega (arith, b.0)

module _ (opens : ℕ → Bool) (always : (t : ℕ) → opens t ≡ true) (w : Plan) where
  early : (rs : List Stretch) (a t : ℕ) → Rises rs → Starts a rs → t < a → holder opens rs t ≡ none
  unfolding holder
  early [] a t z s h = refl
  early (r ∷ rs) a t z s h =
      when_false (between opens r.from r.until t) _ _ (before_between opens r.from r.until t (omega arith))
      ∙ early rs r.until t z.2 (starts_behind r rs r.until z.1 (omega arith)) (omega (arith, z.0))

  within : (r : Stretch) (rs : List Stretch) (t : ℕ) → r.from ≤ t → t < r.until
      → holder opens (r ∷ rs) t ≡ some r.piece
  unfolding holder
  within r rs t h k =
      when_true (between opens r.from r.until t) _ _ (in_between opens r.from r.until t h k (always t))

  behind : (r : Stretch) (rs : List Stretch) (t : ℕ) → r.until ≤ t → holder opens (r ∷ rs) t ≡ holder opens rs t
  unfolding holder
  behind r rs t h =
      when_false (between opens r.from r.until t) _ _ (after_between opens r.from r.until t h)

  abbrev slots : ℕ → ℕ → List Turn
  slots a n = map (turn_of w) (keep opens (row a n))

  next_slot : (a n : ℕ) → slots a (suc n) ≡ turn_of w a ∷ slots (suc a) n
  unfolding keep row
  next_slot a n = rw (always a, when)

  -- From moment a on the desk works as the stretches say.
  abbrev Agrees : ℕ → List Stretch → Type 0
  Agrees a rs = (t : ℕ) → a ≤ t → w t ≡ holder opens rs t

  -- The part of a stretch before moment a, as a run under way.
  abbrev under_way : Stretch → ℕ → Run
  under_way r a = record { piece = r.piece; from = r.from; until = a; slots = a - r.from }

  run_same : (r : Stretch) (u v j k : ℕ) → u ≡ v → j ≡ k
      → ◌≡◌ {A = Run} (record { piece = r.piece; from = r.from; until = u; slots = j })
      (record { piece = r.piece; from = r.from; until = v; slots = k })
  run_same r u v j k e f = rw (e, f)

  longer_way : (r : Stretch) (a : ℕ) → r.from ≤ a → longer_run (under_way r a) a ≡ under_way r (suc a)
  longer_way r a h = run_same r (a + 1) (suc a) (a - r.from + 1) (suc a - r.from) (add-one a) (omega arith)

  new_way : (r : Stretch) (a : ℕ) → r.from ≡ a → new_run r.piece a ≡ under_way r (suc a)
  new_way r a e = rw (← e) (run_same r (r.from + 1) (suc r.from) 1 (suc r.from - r.from) (add-one r.from) (omega arith))

  -- With no run under way, and with one.
  abbrev Idle : ℕ → Type 0
  Idle n = (a : ℕ) (rs : List Stretch) → Rises rs → Starts a rs → Over (a + n) rs → Agrees a rs
      → runs_from none (slots a n) ≡ map run_of rs

  abbrev Busy : ℕ → Type 0
  Busy n = (a : ℕ) (r : Stretch) (rs : List Stretch) → Rises (r ∷ rs) → r.from ≤ a → a ≤ r.until
      → Over (a + n) (r ∷ rs) → Agrees a (r ∷ rs) → runs_from (some (under_way r a)) (slots a n) ≡ map run_of (r ∷ rs)

  over_next : (a n : ℕ) (rs : List Stretch) → Over (a + suc n) rs → Over (suc a + n) rs
  over_next a n [] o = tt
  over_next a n (r ∷ rs) o = (omega (arith, o.0), over_next a n rs o.1)

  starts_next : (a : ℕ) (r : Stretch) (rs : List Stretch) → Starts a (r ∷ rs) → (r.from ≡ a → ⊥) → Starts (suc a) (r ∷ rs)
  starts_next a r rs s ne = omega arith

  -- What comes at slot a, with a run under way or none, which does not go on.
  abbrev u_closed : Option Run → ℕ → ℕ → List Stretch → Type 0
  u_closed u a n rs = runs_from u (slots a (suc n)) ≡ closing u (map run_of rs)

  fresh : (n : ℕ) → Idle n → Busy n → (u : Option Run) (a : ℕ) (rs : List Stretch)
      → ((i : ℕ) → w a ≡ some i → goes_on u i ≡ false) → Rises rs → Starts a rs → Over (a + suc n) rs → Agrees a rs
      → u_closed u a n rs
  fresh n idle busy u a [] brk z s o g =
      rw (next_slot a n)
      (runs_rest (turn_of w a) (slots (suc a) n) u (g a (omega arith) ∙ early [] (suc a) a tt tt (omega arith))
      ∙ ap (closing u) (idle (suc a) [] tt tt tt (λ t h. g t (omega arith))))
  fresh n idle busy u a (r ∷ rs) brk z s o g =
      by_eq r.from a
      (λ e.
      let now : w a ≡ some r.piece = g a (omega arith) ∙ within r rs a (omega arith) (omega (arith, z.0)) in
      rw (next_slot a n)
      (runs_new (turn_of w a) (slots (suc a) n) u r.piece now (brk r.piece now)
      ∙ ap (closing u)
      (ap (λ v. runs_from (some v) (slots (suc a) n)) (new_way r a e)
      ∙ busy (suc a) r rs z (omega arith) (omega (arith, z.0)) (over_next a n (r ∷ rs) o) (λ t h. g t (omega arith)))))
      (λ e.
      rw (next_slot a n)
      (runs_rest (turn_of w a) (slots (suc a) n) u
      (g a (omega arith) ∙ early (r ∷ rs) (suc a) a z (starts_next a r rs s e) (omega arith))
      ∙ ap (closing u)
      (idle (suc a) (r ∷ rs) z (starts_next a r rs s e) (over_next a n (r ∷ rs) o) (λ t h. g t (omega arith)))))

  -- A run that is over at its stretch's end does not go on in the next slot.
  breaks : (r : Stretch) (rs : List Stretch) (a i : ℕ) → a ≡ r.until → Rises (r ∷ rs) → w a ≡ holder opens rs a
      → w a ≡ some i → eqb r.piece i ≡ false
  breaks r [] a i q z g e = none_or_some (sym (g ∙ early [] (suc a) a tt tt (omega arith)) ∙ e)
  breaks r (p ∷ rs) a i q z g e =
      by_eq p.from a
      (λ k.
      let same : p.piece ≡ i =
      some_inj (sym (g ∙ within p rs a (omega arith) (omega (arith, z.2.0))) ∙ e) in
      ne_eqb r.piece i (λ l. z.1.1 (sym q ∙ sym k) (l ∙ sym same)))
      (λ k.
      none_or_some
      (sym (g ∙ early (p ∷ rs) (suc a) a z.2 (starts_next a p rs (omega (arith, z.1.0)) k) (omega arith)) ∙ e))

  none_left : (a : ℕ) (rs : List Stretch) → Rises rs → Starts a rs → Over (a + 0) rs → [] ≡ map run_of rs
  none_left a [] z s o = refl
  none_left a (r ∷ rs) z s o = absurd (omega (arith, z.0, o.0))

  by_length : (n : ℕ) → Idle n × Busy n
  unfolding closing goes_on row keep
  by_length zero = (
    λ a rs z s o g. runs_over none ∙ none_left a rs z s o,
    λ a r rs z h k o g.
        let q : a ≡ r.until = omega (arith, o.0) in
        runs_over (some (under_way r a))
        ∙ ap (λ x. under_way r x ∷ []) q
        ∙ ap (λ x. run_of r ∷ x) (none_left a rs z.2 (starts_behind r rs a z.1 k) o.1),
  )
  by_length (suc n) =
      let ih = by_length n in (
        λ a rs z s o g. fresh n ih.0 ih.1 none a rs (λ i e. refl) z s o g,
        λ a r rs z h k o g.
            by_eq a r.until
            (λ q.
            fresh n ih.0 ih.1 (some (under_way r a)) a rs
            (λ i e. breaks r rs a i q z (g a (omega arith) ∙ behind r rs a (omega arith)) e) z.2 (starts_behind r rs a z.1 k) o.1
            (λ t l. g t l ∙ behind r rs t (omega arith))
            ∙ ap (λ x. under_way r x ∷ map run_of rs) q)
            (λ q.
            rw (next_slot a n)
            (runs-longer (turn_of w a) (slots (suc a) n) (under_way r a) (g a (omega arith) ∙ within r rs a h (omega arith))
            ∙ ap (λ v. runs_from (some v) (slots (suc a) n)) (longer_way r a h)
            ∙ ih.1 (suc a) r rs z (omega arith) (omega arith) (over_next a n (r ∷ rs) o) (λ t l. g t (omega arith)))),
      )

  -- The runs of the slots before moment h.
  pub runs_laid : (h : ℕ) (rs : List Stretch) → Rises rs → Over h rs → ((t : ℕ) → w t ≡ holder opens rs t)
      → runs_from none (turns_of opens w h) ≡ map run_of rs
  unfolding below
  runs_laid h rs z o g =
      let q : 0 + h ≡ h = omega arith in
      (by_length h).0 0 rs z (starts_zero rs) (rw q o) (λ t l. g t)
    where
      starts_zero : (rs : List Stretch) → Starts 0 rs
      starts_zero [] = tt
      starts_zero (r ∷ rs) = omega arith
