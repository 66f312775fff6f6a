-- The rule looks at an entry's number, ready moment and duration and at who is sooner, and at nothing else of it:
-- entries written in another way, as records for instance, have the same plan. Assumes nothing.
use mathlib.Core.Path.{◌≡◌, sym, ap, ◌∙◌}
use mathlib.Core.Bool.{Bool, true}
use mathlib.Core.Option.{some}
use mathlib.Core.List.{List, [], ◌∷◌, map}
use Prim.Native.Nat.{ℕ}
use Rattle.laws.proofs.Words.{mem_map}
use Rattle.theory.proofs.Lists.{map_mem, Distinct}
use Rattle.theory.proofs.Plans.{Plan}
use Rattle.theory.proofs.Rule.{Chooses, work, rest, Candidate, Obeys}

module _ {E F : Type 0} (f : E → F) (num ready dur : E → ℕ) (num' ready' dur' : F → ℕ)
    (same-num : (e : E) → num' (f e) ≡ num e) where
  pub distinct_map : (L : List E) → Distinct num L → Distinct num' (map f L)
  distinct_map [] d = tt
  distinct_map (x ∷ L) d = (
    λ a m e. let r = map_mem f L a m in
        d.0 r.0 r.1 (sym (same-num r.0) ∙ sym (ap num' r.2) ∙ e ∙ same-num x),
    distinct_map L d.1,
  )

  module _ (opens : ℕ → Bool) (sooner : E → E → Bool) (sooner' : F → F → Bool)
      (same-ready : (e : E) → ready' (f e) ≡ ready e) (same-dur : (e : E) → dur' (f e) ≡ dur e)
      (same-sooner : (a b : E) → sooner' (f a) (f b) ≡ sooner a b) where
    to : (w : Plan) (t : ℕ) (e : E) → Candidate num ready dur opens w t e → Candidate num' ready' dur' opens w t (f e)
    to w t e c = record {
      hour = c.hour;
      ripe = rw (same-ready e) c.ripe;
      left = rw (same-num e, same-dur e) c.left;
    }

    from : (w : Plan) (t : ℕ) (e : E) → Candidate num' ready' dur' opens w t (f e) → Candidate num ready dur opens w t e
    from w t e c = record {
      hour = c.hour;
      ripe = rw (same-ready e) at c.ripe;
      left = rw (same-num e, same-dur e) at c.left;
    }

    pub obeys_map : (L : List E) (w : Plan) → Obeys num ready dur opens sooner L w
        → Obeys num' ready' dur' opens sooner' (map f L) w
    obeys_map L w rule t = go (rule t)
      where
        old : (g : F) → (e : E) → g ≡ f e → Candidate num' ready' dur' opens w t g → Candidate num ready dur opens w t e
        old g e p c = from w t e (rw p at c)

        go : Chooses num sooner (Candidate num ready dur opens w t) L (w t)
            → Chooses num' sooner' (Candidate num' ready' dur' opens w t) (map f L) (w t)
        go (work e m q c s) =
            work (f e) (mem_map f L e m) (q ∙ ap some (sym (same-num e))) (to w t e c)
            (λ g n k apart.
            let r = map_mem f L g n in
            let z : sooner e r.0 ≡ true =
            s r.0 r.1 (old g r.0 r.2 k)
            (λ x. apart (ap num' r.2 ∙ same-num r.0 ∙ x ∙ sym (same-num e))) in
            rw (r.2, same-sooner e r.0) z)
        go (rest q n) =
            rest q (λ g m c. let r = map_mem f L g m in n r.0 r.1 (old g r.0 r.2 c))
