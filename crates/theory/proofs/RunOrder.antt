-- The runs of a plan in time: they rise and do not overlap, and each slot worked lies in a run of its piece. So one
-- past the last slot of a piece's last run is its finish. Assumes nothing.
use mathlib.Core.Path.{◌≡◌, refl, sym, ap, ◌∙◌}
use mathlib.Core.Bool.{Bool, true}
use mathlib.Core.Option.{Option, none, some, some-injective}
use mathlib.Core.List.{List, [], ◌∷◌, map}
use mathlib.Core.List.Memᴰ.{head as here}
use mathlib.Core.List.Memᴰ.{tail as there}
use Prim.Native.Nat.{ℕ, suc, ◌+◌, ◌≤◌, ◌<◌}
use native.Mathlib.Omega.{arith}
use native.Mathlib.Nat.{le_antisymm}
use lib.Dec.{eqb}
use borrow.Author.Tests.{eqb-true, eq-eqb}
use Rattle.rules.specs.Words.{keep, below, greatest}
use Rattle.rules.specs.Runs.{Run, closing, runs_from}
use Rattle.laws.proofs.Words.{mem_map, mem_keep, keep_mem, greatest_mem, greatest_least}
use Rattle.theory.proofs.Cases.{by_le, clash}
use Rattle.theory.proofs.Lists.{◌∈◌, by-mem, map_mem}
use Rattle.theory.proofs.Plans as Plans
use Rattle.theory.proofs.Plans.{Plan, did}
use Rattle.theory.proofs.Finish.{Finish, finish_last, finish_over}
use Rattle.theory.proofs.Turns.{turns_of}
use Rattle.theory.proofs.RunTruth.{Under, closing_all, runs_in, by_slot, TrueRun, runs_good}

-- each run is over before the next begins
abbrev pub Rising : List Run → Type 0
Rising [] = Unit {0}
Rising (x ∷ rs) = ((r : Run) → r ∈ rs → x.until ≤ r.from) × Rising rs

module _ (opens : ℕ → Bool) (w : Plan) where
  -- none begins before the one under way, or before the first slot looked at
  abbrev Floor : Option Run → ℕ → Run → Type 0
  Floor none a r = a ≤ r.from
  Floor (some v) a r = v.from ≤ r.from

  abbrev Past : Option Run → ℕ → Type 0
  Past u a = Under (λ r. (r.from ≤ a) × (r.until ≤ a)) u

  past_on : (u : Option Run) (a : ℕ) → Past u a → Past u (suc a)
  past_on none a p = tt
  past_on (some r) a p = (omega (arith, p.0), omega (arith, p.1))

  runs_rise : (n a : ℕ) (u : Option Run) → Past u a
      → Rising (runs_in opens w u a n) × ((r : Run) → r ∈ runs_in opens w u a n → Floor u a r)
  unfolding closing
  runs_rise =
      by_slot opens w (λ u a n rs. Past u a → Rising rs × ((r : Run) → r ∈ rs → Floor u a r))
      (λ u a p. closed u a a [] p (omega arith) (tt, λ r m. elim m [ ]))
      (λ u a n rs o ih p. let z = ih (past_on u a p) in (z.0, λ r m. floor_down u a r (z.1 r m)))
      (λ u a n rs o e ih p. closed u a (suc a) rs p (omega arith) (ih tt))
      (λ r a n rs o e ih p. ih (omega (arith, p.0), omega arith))
      (λ u i a n rs o e ih p. closed u a a rs p (omega arith) (ih (omega arith, omega arith)))
    where
      floor_down : (u : Option Run) (a : ℕ) (r : Run) → Floor u (suc a) r → Floor u a r
      floor_down none a r h = omega arith
      floor_down (some v) a r h = h

      closed : (u : Option Run) (a b : ℕ) (rs : List Run) → Past u a → a ≤ b
          → Rising rs × ((r : Run) → r ∈ rs → b ≤ r.from)
          → Rising (closing u rs) × ((r : Run) → r ∈ closing u rs → Floor u a r)
      closed none a b rs p h z = (z.0, λ r m. omega (arith, z.1 r m))
      closed (some v) a b rs p h z = (
        (λ r m. omega (arith, z.1 r m, p.1), z.0),
        λ r m. by-mem m (λ q. rw q (omega arith)) (λ n. omega (arith, z.1 r n, p.0)),
      )

  -- the slot t is one of i's in some run; a run under way ends up in one
  abbrev pub Covered : ℕ → ℕ → List Run → Type 0
  Covered t i rs = (r : Run) × (r ∈ rs) × (r.piece ≡ i) × (r.from ≤ t) × (t < r.until)

  abbrev Kept : Option Run → List Run → Type 0
  Kept u rs = Under (λ v. (r : Run) × (r ∈ rs) × (r.piece ≡ v.piece) × (r.from ≤ v.from) × (v.until ≤ r.until)) u

  abbrev Covers : Option Run → ℕ → ℕ → List Run → Type 0
  Covers u a n rs =
      Kept u rs × ((t i : ℕ) → a ≤ t → t < a + n → opens t ≡ true → w t ≡ some i → Covered t i rs)

  runs_cover : (n a : ℕ) (u : Option Run) → Past u a → Covers u a n (runs_in opens w u a n)
  unfolding closing
  runs_cover =
      by_slot opens w (λ u a n rs. Past u a → Covers u a n rs)
      (λ u a p. (kept u [], λ t i h k. absurd (omega arith)))
      (λ u a n rs o ih p.
      let z = ih (past_on u a p) in (
        z.0,
        λ t i h k q e.
            by_le t a
            (λ y. let s : t ≡ a = omega arith in clash (rw s at q) o)
            (λ y. z.1 t i y (omega arith) q e),
      ))
      (λ u a n rs o e ih p. (
        kept u rs,
        λ t i h k q f.
            by_le t a
            (λ y. let s : t ≡ a = omega arith in absurd (Plans.none-some (w a) i e (rw s at f)))
            (λ y. wider u rs t i ((ih tt).1 t i y (omega arith) q f)),
      ))
      (λ r a n rs o e ih p.
      let z = ih (omega (arith, p.0), omega arith) in
      let m = z.0 in (
        (m.0, m.1, m.2, m.3, omega (arith, m.4, p.1)),
        λ t i h k q f.
            by_le t a
            (λ y.
            let s : t ≡ a = omega arith in (
              m.0,
              m.1,
              m.2 ∙ some-injective r.piece i (sym e ∙ (rw s at f)),
              omega (arith, m.3, p.0),
              omega (arith, m.4),
            ))
            (λ y. z.1 t i y (omega arith) q f),
      ))
      (λ u i a n rs o e ih p.
      let z = ih (omega arith, omega arith) in
      let m = z.0 in (
        kept u rs,
        λ t j h k q f.
            wider u rs t j
            (by_le t a
            (λ y.
            let s : t ≡ a = omega arith in (
              m.0,
              m.1,
              m.2 ∙ some-injective i j (sym e ∙ (rw s at f)),
              omega (arith, m.3),
              omega (arith, m.4),
            ))
            (λ y. z.1 t j y (omega arith) q f)),
      ))
    where
      kept : (u : Option Run) (rs : List Run) → Kept u (closing u rs)
      kept none rs = tt
      kept (some v) rs = (v, here refl, refl, omega arith, omega arith)

      wider : (u : Option Run) (rs : List Run) (t i : ℕ) → Covered t i rs → Covered t i (closing u rs)
      wider none rs t i c = c
      wider (some v) rs t i c = (c.0, there c.1, c.2, c.3, c.4)

  runs_bounded : (n a : ℕ) (u : Option Run) → Past u a → (r : Run) → r ∈ runs_in opens w u a n → r.until ≤ a + n
  runs_bounded =
      by_slot opens w (λ u a n rs. Past u a → (r : Run) → r ∈ rs → r.until ≤ a + n)
      (λ u a p. closing_all (λ r. r.until ≤ a + 0) u [] (ended u a (a + 0) p (omega arith)) (λ r m. elim m [ ]))
      (λ u a n rs o ih p r m. omega (arith, ih (past_on u a p) r m))
      (λ u a n rs o e ih p.
      closing_all (λ r. r.until ≤ a + suc n) u rs (ended u a (a + suc n) p (omega arith))
      (λ r m. omega (arith, ih tt r m)))
      (λ r a n rs o e ih p s m. omega (arith, ih (omega (arith, p.0), omega arith) s m))
      (λ u i a n rs o e ih p.
      closing_all (λ r. r.until ≤ a + suc n) u rs (ended u a (a + suc n) p (omega arith))
      (λ r m. omega (arith, ih (omega arith, omega arith) r m)))
    where
      ended : (u : Option Run) (a b : ℕ) → Past u a → a ≤ b → Under (λ r. r.until ≤ b) u
      ended none a b p h = tt
      ended (some v) a b p h = omega (arith, p.1)

  -- the runs of the open slots before h
  module _ (h : ℕ) where
    abbrev rs : List Run
    rs = runs_from none (turns_of opens w h)

    pub runs-true : (r : Run) → r ∈ rs → TrueRun opens w r
    unfolding below
    runs-true = runs_good opens w h 0 none tt

    pub runs_rising : Rising rs
    unfolding below
    runs_rising = (runs_rise h 0 none tt).0

    pub runs_within : (r : Run) → r ∈ rs → r.until ≤ h
    unfolding below
    runs_within r m = omega (arith, runs_bounded h 0 none tt r m)

    pub runs_covering : (t i : ℕ) → t < h → opens t ≡ true → w t ≡ some i → Covered t i rs
    unfolding below
    runs_covering t i k o e = (runs_cover h 0 none tt).1 t i (omega arith) (omega arith) o e

    -- one past the last slot of i's runs is its finish
    pub runs-finish : (i d c : ℕ) → Finish w i d c → 1 ≤ d → ((t : ℕ) → did w i t ≤ d)
        → ((t : ℕ) → w t ≡ some i → opens t ≡ true) → c ≤ h
        → greatest 0 (map (λ r. r.until) (keep (λ r. eqb r.piece i) rs)) ≡ c
    runs-finish i d c f some-work most hours l =
        le_antisymm
        (greatest_least 0 c untils (omega arith)
        (λ x m.
        let a = map_mem (λ (r : Run). r.until) own x m in
        let k = mem_keep (λ r. eqb r.piece i) rs a.0 a.1 in
        ended x a.0 a.2 k.0 (eqb-true a.0.piece i k.1)))
        (let z = finish_last w i d c f some-work in
        let v = runs_covering z.0 i (omega (arith, z.1)) (hours z.0 z.2) z.2 in
        omega (
          arith,
          z.1,
          v.4,
          greatest_mem 0 untils v.0.until
              (mem_map (λ (r : Run). r.until) own v.0
              (keep_mem (λ r. eqb r.piece i) rs v.0 v.1 (eq-eqb v.0.piece i v.2))),
        ))
      where
        own : List Run
        own = keep (λ r. eqb r.piece i) rs

        untils : List ℕ
        untils = map (λ r. r.until) own

        ended : (x : ℕ) (r : Run) → x ≡ r.until → r ∈ rs → r.piece ≡ i → x ≤ c
        ended x r e m p =
            let t = (runs-true r m).ends in
            by_le x c (λ z. z)
            (λ z.
            absurd
            (finish_over w i d c f most t.0 (omega (arith, e, t.1)) (t.4 ∙ ap some p)))
