-- Each run tells the truth: in each open slot of it the desk works on its piece, and it counts those slots. Shown
-- slot by slot, by one principle that the other facts of runs use too. Assumes nothing.
use mathlib.Core.Path.{◌≡◌, refl, ap}
use mathlib.Core.Bool.{Bool, true, false}
use mathlib.Core.Option.{Option, none, some}
use mathlib.Core.List.{List, [], ◌∷◌, map}
use Prim.Native.Nat.{ℕ, zero, suc, ◌+◌, ◌≤◌, ◌<◌}
use native.Mathlib.Omega.{arith}
use native.Mathlib.Numerals.{add-one}
use Rattle.rules.specs.Words.{when, keep, row}
use Rattle.rules.specs.Runs.{Turn, Run, new_run, longer_run, closing, runs_from}
use Rattle.laws.proofs.Words.{by_test}
use Rattle.theory.proofs.Cases.{by_le, clash}
use Rattle.theory.proofs.Count.{cnt, cnt_hit, cnt_gain, cnt_mono, cnt_false}
use Rattle.theory.proofs.Lists.{◌∈◌, by-mem}
use Rattle.theory.proofs.Plans.{Plan}
use Rattle.theory.proofs.Turns.{turn_of, runs_over, runs_rest, runs-longer, runs_new, by_turn}

-- what holds of the run under way, if there is one
abbrev pub Under : (Run → Type 0) → Option Run → Type 0
Under Q none = Unit {0}
Under Q (some r) = Q r

pub closing_all : (Q : Run → Type 0) (u : Option Run) (rs : List Run) → Under Q u → ((r : Run) → r ∈ rs → Q r)
    → (r : Run) → r ∈ closing u rs → Q r
unfolding closing
closing_all Q none rs q all r m = all r m
closing_all Q (some x) rs q all r m = by-mem m (λ p. rw p q) (λ n. all r n)

module _ (opens : ℕ → Bool) (w : Plan) where
  -- the runs of the open slots from a on, n slots in all, with u under way
  abbrev pub runs_in : Option Run → ℕ → ℕ → List Run
  runs_in u a n = runs_from u (map (turn_of w) (keep opens (row a n)))

  -- what holds of the runs is shown slot by slot
  module _ (P : Option Run → ℕ → ℕ → List Run → Type 0)
      (over : (u : Option Run) (a : ℕ) → P u a 0 (closing u []))
      (shut : (u : Option Run) (a n : ℕ) (rs : List Run) → opens a ≡ false → P u (suc a) n rs → P u a (suc n) rs)
      (rests : (u : Option Run) (a n : ℕ) (rs : List Run) → opens a ≡ true → w a ≡ none → P none (suc a) n rs
      → P u a (suc n) (closing u rs))
      (longer : (r : Run) (a n : ℕ) (rs : List Run) → opens a ≡ true → w a ≡ some r.piece
      → P (some (longer_run r a)) (suc a) n rs → P (some r) a (suc n) rs)
      (new : (u : Option Run) (i a n : ℕ) (rs : List Run) → opens a ≡ true → w a ≡ some i
      → P (some (new_run i a)) (suc a) n rs → P u a (suc n) (closing u rs)) where
    pub by_slot : (n a : ℕ) (u : Option Run) → P u a n (runs_in u a n)
    unfolding keep row
    by_slot zero a u = rw (runs_over u) (over u a)
    by_slot (suc n) a u =
        by_test (opens a)
        (λ o.
        let xs : List Turn = map (turn_of w) (keep opens (row (suc a) n)) in
        rw (o, when)
        (by_turn (λ u. P u a (suc n) (runs_from u (turn_of w a ∷ xs))) (turn_of w a)
        (λ u e. rw (runs_rest (turn_of w a) xs u e) (rests u a n (runs_from none xs) o e (by_slot n (suc a) none)))
        (λ r e.
        rw (runs-longer (turn_of w a) xs r e)
        (longer r a n (runs_from (some (longer_run r a)) xs) o e (by_slot n (suc a) (some (longer_run r a)))))
        (λ u i e h.
        rw (runs_new (turn_of w a) xs u i e h)
        (new u i a n (runs_from (some (new_run i a)) xs) o e (by_slot n (suc a) (some (new_run i a)))))
        u))
        (λ o. rw (o, when) (shut u a n (runs_in u (suc a) n) o (by_slot n (suc a) u)))

  -- a run tells the truth: it is not empty, begins and ends with a slot of work, in each open slot of it the desk works
  -- on its piece, and it counts those slots
  pub record TrueRun (r : Run) : Type 0 where
    pub begins : w r.from ≡ some r.piece
    pub ends : (t : ℕ) × (r.until ≡ suc t) × (r.from ≤ t) × (opens t ≡ true) × (w t ≡ some r.piece)
    pub works : (t : ℕ) → r.from ≤ t → t < r.until → opens t ≡ true → w t ≡ some r.piece
    pub counts : cnt opens r.until ≡ cnt opens r.from + r.slots

  -- the run under way is true so far, and the desk was closed since
  abbrev Good : Option Run → ℕ → Type 0
  Good u a = Under (λ r. TrueRun r × (r.until ≤ a) × ((t : ℕ) → r.until ≤ t → t < a → opens t ≡ false)) u

  good_shut : (u : Option Run) (a : ℕ) → opens a ≡ false → Good u a → Good u (suc a)
  good_shut none a o g = tt
  good_shut (some r) a o g = (
    g.0,
    omega (arith, g.1),
    λ t h k.
        by_le a t
        (λ z. let e : t ≡ a = omega arith in rw e o)
        (λ z. g.2 t h z),
  )

  good_longer : (r : Run) (a : ℕ) → opens a ≡ true → w a ≡ some r.piece → Good (some r) a
      → Good (some (longer_run r a)) (suc a)
  good_longer r a o e g = (
    record {
      begins = g.0.begins;
      ends = (a, add-one a, omega (arith, g.0.ends.2, g.0.ends.1, g.1), o, e);
      works = λ t h k p.
          by_le a t
          (λ z. let q : t ≡ a = omega arith in rw q e)
          (λ z.
          by_le r.until t
          (λ y. clash p (g.2 t y z))
          (λ y. g.0.works t h y p));
      counts =
          omega (
            arith,
            g.0.counts,
            ap (cnt opens) (add-one a),
            cnt_hit opens a o,
            cnt_mono opens r.until a g.1,
            cnt_gain opens (λ t. false) r.until a g.1 (λ t h k p. clash p (g.2 t h k)),
            cnt_false (λ t. false) a (λ t h. refl),
            cnt_false (λ t. false) r.until (λ t h. refl),
          );
    },
    omega arith,
    λ t h k. absurd (omega arith),
  )

  good_new : (i a : ℕ) → opens a ≡ true → w a ≡ some i → Good (some (new_run i a)) (suc a)
  good_new i a o e = (
    record {
      begins = e;
      ends = (a, add-one a, omega arith, o, e);
      works = λ t h k p. let q : t ≡ a = omega arith in rw q e;
      counts = omega (arith, ap (cnt opens) (add-one a), cnt_hit opens a o);
    },
    omega arith,
    λ t h k. absurd (omega arith),
  )

  pub runs_good : (n a : ℕ) (u : Option Run) → Good u a → (r : Run) → r ∈ runs_in u a n → TrueRun r
  runs_good =
      by_slot (λ u a n rs. Good u a → (r : Run) → r ∈ rs → TrueRun r)
      (λ u a g. closing_all TrueRun u [] (good_true u a g) (λ r m. elim m [ ]))
      (λ u a n rs o ih g. ih (good_shut u a o g))
      (λ u a n rs o e ih g. closing_all TrueRun u rs (good_true u a g) (ih tt))
      (λ r a n rs o e ih g. ih (good_longer r a o e g))
      (λ u i a n rs o e ih g. closing_all TrueRun u rs (good_true u a g) (ih (good_new i a o e)))
    where
      good_true : (u : Option Run) (a : ℕ) → Good u a → Under TrueRun u
      good_true none a g = tt
      good_true (some r) a g = g.0
