-- The bound on runs: a desk with m entries, m at least 1, has at most 2 m - 1 runs. Each layer adds at most 2 to the
-- score of the row: it fills every free open slot from its first chance to its last slot; to fill the free slots
-- between two busy stretches costs one run and saves one waking, and only the first and the last filling may cost
-- one more. Assumes nothing.
use mathlib.Core.Path.{◌≡◌, refl, ap, ◌∙◌, fun_ext}
use mathlib.Core.Logic.{◌⊎◌, inl, inr, ⊎_elim}
use mathlib.Core.Bool.{Bool, true}
use mathlib.Core.Option.{Option, none, some}
use mathlib.Core.List.{List, [], ◌∷◌, map}
use mathlib.Core.List.Memᴰ.{head as here}
use mathlib.Core.List.Memᴰ.{tail as there}
use Prim.Native.Nat.{ℕ, ◌+◌, ◌-◌, ◌*◌, ◌≤◌, ◌<◌}
use native.Mathlib.Omega.{arith}
use lib.ListN.{length}
use Rattle.rules.specs.Words.{keep, below}
use Rattle.rules.specs.Runs.{runs_from}
use Rattle.laws.proofs.Words.{map_same, mem_keep}
use Rattle.theory.proofs.Cases.{by_le}
use Rattle.theory.proofs.Count.{cnt, cnt_mono}
use Rattle.theory.proofs.Lists.{◌∈◌, by-mem, Distinct}
use Rattle.theory.proofs.Order.{Urgency, sorted, sorted_length}
use Rattle.theory.proofs.Plans as Plans
use Rattle.theory.proofs.Plans.{Plan}
use Rattle.theory.proofs.Layers as Layers
use Rattle.theory.proofs.Rule.{Obeys}
use Rattle.theory.proofs.Obeyed.{obeys_layers}
use Rattle.theory.proofs.Turns.{turns_of, whos_turns, Rise, rise_open}
use Rattle.theory.proofs.Score.{begun, score, runs_are, begun_waking, value_rest, value_wake, value_same}
use Rattle.theory.proofs.Score.{value_change, value_most, score-at, score-drop, rests_score}

module _ {E : Type 0} (num ready dur : E → ℕ) (opens : ℕ → Bool) (x : E) (w : Plan) where
  abbrev b : Plan
  b = Layers.layer num ready dur opens x w

  abbrev chance : ℕ → Bool
  chance = Layers.chance num ready dur opens x w

  -- once x has its duration, the layer is the plan below it
  over : (ts : List ℕ) → ((t : ℕ) → t ∈ ts → dur x ≤ cnt chance t) → map b ts ≡ map w ts
  over ts h =
      map_same b w ts
      (λ t m. Layers.layer_miss num ready dur opens x w t (Layers.takes_over num ready dur opens x w t (h t m)))

  -- while it has not, every open slot since it was ready is busy
  during : (s : ℕ) → opens s ≡ true → ready x ≤ s → cnt chance s < dur x
      → ((w s ≡ none) × (b s ≡ some (num x))) ⊎ ((j : ℕ) × (w s ≡ some j) × (b s ≡ some j))
  during s o r l =
      Plans.by-who (w s)
      (λ e.
      inl (
        e,
        Layers.layer_hit num ready dur opens x w s
            (Layers.takes_when num ready dur opens x w s
            (Layers.chance_when num ready dur opens x w s o r (Plans.none_busy (w s) e)) l),
      ))
      (λ j e.
      inr (
        j,
        e,
        Layers.layer_miss num ready dur opens x w s
            (Layers.takes_behind num ready dur opens x w s (Plans.some_busy (w s) j e))
            ∙ e,
      ))

  onward : (s : ℕ) (ts : List ℕ) → Rise (s ∷ ts) → dur x ≤ cnt chance s → (t : ℕ) → t ∈ s ∷ ts → dur x ≤ cnt chance t
  onward s ts r k t m =
      by-mem m (λ p. rw p k) (λ n. omega (arith, cnt_mono chance s t (omega (arith, r.0 t n))))

  since : (ts : List ℕ) → Rise ts → ((t : ℕ) → t ∈ ts → opens t ≡ true) → ((t : ℕ) → t ∈ ts → ready x ≤ t)
      → ((j : ℕ) → score (some j) (map b ts) ≤ score (some j) (map w ts) + 1)
      × (score (some (num x)) (map b ts) ≤ score none (map w ts))
  unfolding score
  since [] r o h = (λ j. omega arith, omega arith)
  since (s ∷ ts) r o h =
      let ih = since ts r.1 (λ t m. o t (there m)) (λ t m. h t (there m)) in
      by_le (dur x) (cnt chance s)
      (λ k.
      let same : map b (s ∷ ts) ≡ map w (s ∷ ts) =
      over (s ∷ ts) (onward s ts r k) in (
        λ j. omega (arith, ap (score (some j)) same),
        omega (arith, ap (score (some (num x))) same, score-drop (num x) (map w (s ∷ ts))),
      ))
      (λ k.
      ⊎_elim
      (λ e. (
        λ j.
            omega (
              arith,
              score-at (some j) (b s) (some (num x)) (map b ts) e.1,
              score-at (some j) (w s) none (map w ts) e.0,
              value_change j (num x),
              value_rest (some j),
              ih.1,
            ),
        omega (
          arith,
          score-at (some (num x)) (b s) (some (num x)) (map b ts) e.1,
          score-at none (w s) none (map w ts) e.0,
          value_same (num x),
          value_rest none,
          ih.1,
        ),
      ))
      (λ e. (
        λ j.
            omega (
              arith,
              score-at (some j) (b s) (some e.0) (map b ts) e.2,
              score-at (some j) (w s) (some e.0) (map w ts) e.1,
              ih.0 e.0,
            ),
        omega (
          arith,
          score-at (some (num x)) (b s) (some e.0) (map b ts) e.2,
          score-at none (w s) (some e.0) (map w ts) e.1,
          value_wake e.0,
          value_change (num x) e.0,
          ih.0 e.0,
        ),
      ))
      (during s (o s (here refl)) (h s (here refl)) k))

  -- one layer more costs at most 2
  layer_score : (ts : List ℕ) → Rise ts → ((t : ℕ) → t ∈ ts → opens t ≡ true) → (p : Option ℕ)
      → score p (map b ts) ≤ score p (map w ts) + 2
  unfolding score
  layer_score [] r o p = omega arith
  layer_score (s ∷ ts) r o p =
      by_le (ready x) s
      (λ h.
      let ih = since ts r.1 (λ t m. o t (there m)) (λ t m. omega (arith, r.0 t m)) in
      by_le (dur x) (cnt chance s)
      (λ k.
      let same : map b (s ∷ ts) ≡ map w (s ∷ ts) = over (s ∷ ts) (onward s ts r k) in
      omega (arith, ap (score p) same))
      (λ k.
      ⊎_elim
      (λ e.
      omega (
        arith,
        score-at p (b s) (some (num x)) (map b ts) e.1,
        score-at p (w s) none (map w ts) e.0,
        value_most p (num x),
        value_rest p,
        ih.1,
      ))
      (λ e.
      omega (
        arith,
        score-at p (b s) (some e.0) (map b ts) e.2,
        score-at p (w s) (some e.0) (map w ts) e.1,
        ih.0 e.0,
      ))
      (during s (o s (here refl)) h k)))
      (λ h.
      omega (
        arith,
        score-at p (b s) (w s) (map b ts)
            (Layers.layer_miss num ready dur opens x w s (Layers.takes_early num ready dur opens x w s h)),
        layer_score ts r.1 (λ t m. o t (there m)) (w s),
      ))

module _ {E : Type 0} (num ready dur : E → ℕ) (opens : ℕ → Bool) where
  layers_score : (L : List E) (ts : List ℕ) → Rise ts → ((t : ℕ) → t ∈ ts → opens t ≡ true)
      → score none (map (Layers.layers num ready dur opens L) ts) ≤ 2 * length L
  unfolding Layers.layers
  layers_score [] ts r o = omega (arith, rests_score ts)
  layers_score (x ∷ L) ts r o =
      omega (
        arith,
        layer_score num ready dur opens x (Layers.layers num ready dur opens L) ts r o none,
        layers_score L ts r o,
      )

  -- AT MOST 2 m - 1 RUNS
  pub runs_most : (sooner : E → E → Bool) → Urgency num sooner → (L : List E) → Distinct num L → 1 ≤ length L
      → (w : Plan) → Obeys num ready dur opens sooner L w → (h : ℕ)
      → length (runs_from none (turns_of opens w h)) ≤ 2 * length L - 1
  runs_most sooner U L d some-entry w rule h =
      let v : Plan = Layers.layers num ready dur opens (sorted sooner L) in
      let ts : List ℕ = keep opens (below h) in
      let same : w ≡ v = fun_ext (obeys_layers num ready dur opens sooner U L d w rule) in
      let most : score none (map v ts) ≤ 2 * length L =
      omega (
        arith,
        layers_score (sorted sooner L) ts (rise_open opens h)
            (λ t m. (mem_keep opens (below h) t m).1),
        sorted_length sooner L,
      ) in
      let runs : length (runs_from none (turns_of opens w h)) ≡ begun none (map v ts) =
      rw same (runs_are (turns_of opens v h) ∙ ap (begun none) (whos_turns v ts)) in
      ⊎_elim (λ z. omega arith) (λ z. omega arith) (begun_waking (map v ts))
