-- The plan by layers obeys the rule; so the rule has exactly one plan, whatever the order in which the entries are
-- listed. From the rule alone: such a plan is allowed, and rests in an open slot only if all that is ready is done.
-- Assumes nothing.
use mathlib.Core.Path.{◌≡◌, refl, sym, ap, ◌∙◌, subst, fun_ext}
use mathlib.Core.Bool.{Bool, true, false}
use mathlib.Core.Option.{none, some, some-injective}
use mathlib.Core.List.{List, [], ◌∷◌}
use mathlib.Core.List.Memᴰ.{head as here}
use mathlib.Core.List.Memᴰ.{tail as there}
use Prim.Native.Nat.{ℕ, zero, suc, ◌≤◌, min}
use native.Mathlib.Omega.{arith}
use Rattle.rules.specs.Words.{is_it}
use Rattle.laws.proofs.Words.{by_test}
use Rattle.theory.proofs.Cases.{by_le, clash}
use Rattle.theory.proofs.Count.{cnt, cnt_zero, cnt_hit, cnt_miss}
use Rattle.theory.proofs.Lists.{◌∈◌, by-mem, Distinct}
use Rattle.theory.proofs.Order.{Urgency, Ordered, sorted, sorted_mem, mem_sorted, sorted_distinct}
use Rattle.theory.proofs.Order.{sorted_ordered}
use Rattle.theory.proofs.Plans as Plans
use Rattle.theory.proofs.Plans.{Plan, did}
use Rattle.theory.proofs.Layers as Layers
use Rattle.theory.proofs.Allowed.{Allowed}
use Rattle.theory.proofs.Rule.{Chooses, work, rest, Candidate, Obeys, moved, chosen, obeys_is_layers}

module _ {E : Type 0} (num ready dur : E → ℕ) (opens : ℕ → Bool) (sooner : E → E → Bool) where
  -- one more layer obeys the rule for one more entry
  module _ (x : E) (L : List E) (d : Distinct num (x ∷ L)) (last : (f : E) → f ∈ L → sooner f x ≡ true) (w : Plan)
      (fresh : (s : ℕ) → is_it (w s) (num x) ≡ false) (t : ℕ) where
    abbrev v : Plan
    v = Layers.layer num ready dur opens x w

    abbrev Can : Plan → E → Type 0
    Can u = Candidate num ready dur opens u t

    same : (f : E) → f ∈ L → did v (num f) t ≡ did w (num f) t
    same f m = Layers.did_layer_other num ready dur opens x w (num f) (d.0 f m) t

    old : (f : E) → f ∈ L → Can v f → Can w f
    old f m c = moved num ready dur opens w v t f (sym (same f m)) c

    own : did v (num x) t ≡ min (cnt (Layers.chance num ready dur opens x w) t) (dur x)
    own = Layers.did_layer_self num ready dur opens x w fresh t

    layer_hits : Layers.takes num ready dur opens x w t ≡ true → Chooses num sooner (Can w) L (w t)
        → Chooses num sooner (Can v) (x ∷ L) (v t)
    layer_hits h c =
        work x (here refl) (Layers.layer_hit num ready dur opens x w t h)
        (record {
          hour = Layers.chance_open num ready dur opens x w t chance;
          ripe = Layers.chance_ready num ready dur opens x w t chance;
          left = omega (arith, own, Layers.takes_left num ready dur opens x w t h);
        })
        (λ f m k apart. by-mem m (λ p. absurd (apart (ap num p))) (λ n. absurd (nobody c f n (old f n k))))
      where
        chance : Layers.chance num ready dur opens x w t ≡ true
        chance = Layers.takes_chance num ready dur opens x w t h

        nobody : Chooses num sooner (Can w) L (w t) → (f : E) → f ∈ L → Can w f → ⊥
        nobody (work e m q k s) f n j =
            clash (Plans.some_busy (w t) (num e) q) (Layers.chance_free num ready dur opens x w t chance)
        nobody (rest q n) f m j = n f m j

    layer_misses : Layers.takes num ready dur opens x w t ≡ false → Chooses num sooner (Can w) L (w t)
        → Chooses num sooner (Can v) (x ∷ L) (v t)
    layer_misses h (work e m q c s) =
        work e (there m) (Layers.layer_miss num ready dur opens x w t h ∙ q)
        (moved num ready dur opens v w t e (same e m) c)
        (λ f n k apart.
        by-mem n
        (λ p. rw p (last e m))
        (λ n'. s f n' (old f n' k) apart))
    layer_misses h (rest q n) =
        rest (Layers.layer_miss num ready dur opens x w t h ∙ q)
        (λ f m c.
        by-mem m
        (λ p. done (rw p at c))
        (λ n'. n f n' (old f n' c)))
      where
        done : Can v x → ⊥
        done c =
            clash
            (Layers.takes_when num ready dur opens x w t
            (Layers.chance_when num ready dur opens x w t c.hour c.ripe (Plans.none_busy (w t) q))
            (omega (arith, own, c.left)))
            h

  pub layer_obeys : (x : E) (L : List E) → Distinct num (x ∷ L) → ((f : E) → f ∈ L → sooner f x ≡ true) → (w : Plan)
      → ((s : ℕ) → is_it (w s) (num x) ≡ false) → Obeys num ready dur opens sooner L w
      → Obeys num ready dur opens sooner (x ∷ L) (Layers.layer num ready dur opens x w)
  layer_obeys x L d last w fresh rule t =
      by_test (Layers.takes num ready dur opens x w t)
      (λ h. layer_hits x L d last w fresh t h (rule t))
      (λ h. layer_misses x L d last w fresh t h (rule t))

  -- THE LAYERS OBEY THE RULE
  pub layers_obey : (L : List E) → Distinct num L → Ordered sooner L
      → Obeys num ready dur opens sooner L (Layers.layers num ready dur opens L)
  unfolding Layers.layers
  layers_obey [] d o t = rest refl (λ f m c. elim m [ ])
  layers_obey (x ∷ L) d o t =
      layer_obeys x L d o.0 (Layers.layers num ready dur opens L)
      (Layers.layers_fresh num ready dur opens L (num x) d.0) (layers_obey L d.1 o.1) t

  -- the rule looks at who is in the list, and at nothing else of it
  pub obeys_members : (L K : List E) → ((e : E) → e ∈ L → e ∈ K) → ((e : E) → e ∈ K → e ∈ L) → (w : Plan)
      → Obeys num ready dur opens sooner L w → Obeys num ready dur opens sooner K w
  obeys_members L K to from w rule t = go (rule t)
    where
      go : Chooses num sooner (Candidate num ready dur opens w t) L (w t)
          → Chooses num sooner (Candidate num ready dur opens w t) K (w t)
      go (work e m q c s) = work e (to e m) q c (λ f n. s f (from f n))
      go (rest q n) = rest q (λ f m. n f (from f m))

  pub obeys_ext : (L : List E) (v w : Plan) → ((t : ℕ) → v t ≡ w t) → Obeys num ready dur opens sooner L v
      → Obeys num ready dur opens sooner L w
  obeys_ext L v w same rule =
      subst (λ (u : Plan). Obeys num ready dur opens sooner L u) (fun_ext {f = v} {g = w} same) rule

  -- a number of no entry is never worked on
  pub obeys_fresh : (L : List E) (w : Plan) → Obeys num ready dur opens sooner L w → (i : ℕ)
      → ((e : E) → e ∈ L → num e ≡ i → ⊥) → (t : ℕ) → is_it (w t) i ≡ false
  obeys_fresh L w rule i apart t =
      by_test (is_it (w t) i) (λ h. absurd (go (rule t) (Plans.works-some (w t) i h))) (λ h. h)
    where
      go : Chooses num sooner (Candidate num ready dur opens w t) L (w t) → w t ≡ some i → ⊥
      go (work e m q c s) p = apart e m (some-injective (num e) i (sym q ∙ p))
      go (rest q n) p = Plans.none-some (w t) i q p

  -- in an open slot the desk rests only if each entry that is ready is done
  pub obeys_idle : (L : List E) (w : Plan) → Obeys num ready dur opens sooner L w → (t : ℕ) → opens t ≡ true
      → w t ≡ none → (e : E) → e ∈ L → ready e ≤ t → dur e ≤ did w (num e) t
  obeys_idle L w rule t h q e m k =
      by_le (dur e) (did w (num e) t) (λ z. z)
      (λ z. absurd (nobody (rule t) (record { hour = h; ripe = k; left = z })))
    where
      nobody : Chooses num sooner (Candidate num ready dur opens w t) L (w t) → Candidate num ready dur opens w t e → ⊥
      nobody (work f n p c s) k = Plans.none-some (w t) (num f) q p
      nobody (rest p n) k = n e m k

  -- whoever chooses among candidates, of whom it may ask more than the rule does, makes an allowed plan
  module _ (L : List E) (d : Distinct num L) (w : Plan) (C : ℕ → E → Type 0)
      (less : (t : ℕ) (e : E) → C t e → Candidate num ready dur opens w t e)
      (choice : (t : ℕ) → Chooses num sooner (C t) L (w t)) where
    worked_candidate : (t : ℕ) (e : E) → e ∈ L → w t ≡ some (num e) → Candidate num ready dur opens w t e
    worked_candidate t e m p = less t e (chosen num sooner (C t) L d (w t) (choice t) e m p)

    worked_most : (e : E) → e ∈ L → (t : ℕ) → did w (num e) t ≤ dur e
    worked_most e m zero = omega (arith, cnt_zero (λ s. is_it (w s) (num e)))
    worked_most e m (suc t) =
        by_test (is_it (w t) (num e))
        (λ h.
        omega (
          arith,
          cnt_hit (λ s. is_it (w s) (num e)) t h,
          (worked_candidate t e m (Plans.works-some (w t) (num e) h)).left,
        ))
        (λ h. omega (arith, cnt_miss (λ s. is_it (w s) (num e)) t h, worked_most e m t))

    pub choice_allowed : Allowed num ready dur opens L w
    choice_allowed = record {
      known = λ t i p. known t i p (choice t);
      hours = λ t i p.
          let r = known t i p (choice t) in
          (worked_candidate t r.0 r.1 (p ∙ ap some (sym r.2))).hour;
      after = λ e m t p. (worked_candidate t e m p).ripe;
      most = worked_most;
    }
      where
        known : (t i : ℕ) → w t ≡ some i → Chooses num sooner (C t) L (w t) → (e : E) × (e ∈ L) × (num e ≡ i)
        known t i p (work e m q c s) = (e, m, some-injective (num e) i (sym q ∙ p))
        known t i p (rest q n) = absurd (Plans.none-some (w t) i q p)

  module _ (L : List E) (d : Distinct num L) (w : Plan) (rule : Obeys num ready dur opens sooner L w) where
    pub obeys_candidate : (t : ℕ) (e : E) → e ∈ L → w t ≡ some (num e) → Candidate num ready dur opens w t e
    obeys_candidate = worked_candidate L d w (Candidate num ready dur opens w) (λ t e c. c) rule

    pub obeys_allowed : Allowed num ready dur opens L w
    obeys_allowed = choice_allowed L d w (Candidate num ready dur opens w) (λ t e c. c) rule

  module _ (U : Urgency num sooner) where
    -- THE RULE IS THE LAYERS over the sorted list, so it has exactly one plan
    pub obeys_layers : (L : List E) → Distinct num L → (w : Plan) → Obeys num ready dur opens sooner L w → (t : ℕ)
        → w t ≡ Layers.layers num ready dur opens (sorted sooner L) t
    obeys_layers L d w rule t =
        obeys_is_layers num ready dur opens sooner U.asym (sorted sooner L)
        (sorted_distinct sooner num L d) (sorted_ordered sooner num U L d) w
        (obeys_members L (sorted sooner L) (sorted_mem sooner L) (mem_sorted sooner L) w rule) t

    pub sorted_obeys : (L : List E) → Distinct num L
        → Obeys num ready dur opens sooner L (Layers.layers num ready dur opens (sorted sooner L))
    sorted_obeys L d =
        obeys_members (sorted sooner L) L (mem_sorted sooner L) (sorted_mem sooner L)
        (Layers.layers num ready dur opens (sorted sooner L))
        (layers_obey (sorted sooner L) (sorted_distinct sooner num L d) (sorted_ordered sooner num U L d))

    pub obeys_unique : (L : List E) → Distinct num L → (v w : Plan) → Obeys num ready dur opens sooner L v
        → Obeys num ready dur opens sooner L w → (t : ℕ) → v t ≡ w t
    obeys_unique L d v w p q t = obeys_layers L d v p t ∙ sym (obeys_layers L d w q t)

    -- the order of the list does not matter
    pub order_free : (L K : List E) → Distinct num L → Distinct num K → ((e : E) → e ∈ L → e ∈ K)
        → ((e : E) → e ∈ K → e ∈ L) → (t : ℕ)
        → Layers.layers num ready dur opens (sorted sooner L) t ≡ Layers.layers num ready dur opens (sorted sooner K) t
    order_free L K d c to from t =
        obeys_layers K c (Layers.layers num ready dur opens (sorted sooner L))
        (obeys_members L K to from (Layers.layers num ready dur opens (sorted sooner L)) (sorted_obeys L d)) t

    pub sorted_allowed : (L : List E) → Distinct num L
        → Allowed num ready dur opens L (Layers.layers num ready dur opens (sorted sooner L))
    sorted_allowed L d =
        obeys_allowed L d (Layers.layers num ready dur opens (sorted sooner L)) (sorted_obeys L d)
