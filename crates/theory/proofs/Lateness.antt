-- Optimality: no allowed plan has a smaller worst lateness. If the rule's plan finishes e at c, then at the moment
-- before c not all work on the entries at least as urgent as e is done; by dominance no other plan has done it all
-- either, so it finishes one of them at c or later, and that one's latest moment is no later than e's. Assumes
-- nothing.
use mathlib.Core.Path.{◌≡◌, refl}
use mathlib.Core.Logic.{◌⊎◌, inl, inr}
use mathlib.Core.Bool.{Bool, true, false, ◌&&◌}
use mathlib.Core.List.{List, [], ◌∷◌, map}
use mathlib.Core.List.Memᴰ.{head as here}
use mathlib.Core.List.Memᴰ.{tail as there}
use Prim.Native.Nat.{ℕ, ◌≤◌, ◌<◌}
use native.Mathlib.Omega.{arith}
use lib.Dec.{ltb}
use lib.IntN.{ℤ, pos, ◌-ℤ◌}
use lib.Signed.{le_z}
use borrow.Author.Tests.{ltb-true, ltb-false, le-leb}
use Rattle.rules.specs.Words.{is_it, greatest_z, worst_of}
use Rattle.laws.proofs.Words.{and_true, mem_map, sum_le, sum_lt}
use Rattle.laws.proofs.Signed.{minus, le_z_le, le_le_z, greatest_z_start, greatest_z_mem, greatest_z_least}
use Rattle.theory.proofs.Cases.{by_le}
use Rattle.theory.proofs.Count.{cnt, cnt_mono}
use Rattle.theory.proofs.Lists.{◌∈◌, by-mem, map_mem, find, Distinct}
use Rattle.theory.proofs.Order.{Urgency, UpClosed}
use Rattle.theory.proofs.Plans.{Plan, did}
use Rattle.theory.proofs.Allowed.{Allowed}
use Rattle.theory.proofs.Rule.{Obeys}
use Rattle.theory.proofs.Obeyed.{obeys_allowed}
use Rattle.theory.proofs.Finish.{Finish, finish_last}
use Rattle.theory.proofs.Work.{on, part, part_true, part_mono, work-sum}
use Rattle.theory.proofs.Dominance.{obeys_dominates}

le_z_trans : (x y z : ℤ) → le_z x y ≡ true → le_z y z ≡ true → le_z x z ≡ true
le_z_trans x y z h k = le_le_z x z (omega (arith, le_z_le x y h, le_z_le y z k))

le_z_refl : (z : ℤ) → le_z z z ≡ true
le_z_refl z = le_le_z z z (omega arith)

-- a later finish against an earlier latest moment is a greater lateness
late_mono : (b c : ℕ) (y z : ℤ) → b ≤ c → le_z z y ≡ true → le_z (pos b -ℤ y) (pos c -ℤ z) ≡ true
late_mono b c y z h k =
    le_le_z (pos b -ℤ y) (pos c -ℤ z)
    (omega (arith, le_z_le z y k, le_z_le (pos b) (pos c) (le-leb b c h), minus (pos b) y, minus (pos c) z))

-- the worst of a list is at least each of it, and no more than a bound of each
worst_mem : {E : Type 0} (g : E → ℤ) (L : List E) (e : E) → e ∈ L → le_z (g e) (worst_of (map g L)) ≡ true
unfolding worst_of
worst_mem {E = E} g [] e m = elim m [ ]
worst_mem g (x ∷ L) e m =
    le_le_z (g e) (greatest_z (g x) (map g L))
    (by-mem m
    (λ p. rw p (greatest_z_start (g x) (map g L)))
    (λ n. greatest_z_mem (g x) (map g L) (g e) (mem_map g L e n)))

worst_most : {E : Type 0} (g h : E → ℤ) (L : List E)
    → ((e : E) → e ∈ L → le_z (g e) (worst_of (map h L)) ≡ true) → le_z (worst_of (map g L)) (worst_of (map h L)) ≡ true
unfolding worst_of
worst_most g h [] under = refl
worst_most g h (x ∷ L) under =
    le_le_z (greatest_z (g x) (map g L)) b
    (greatest_z_least (g x) b (map g L)
    (le_z_le (g x) b (under x (here refl)))
    (λ y m. let r = map_mem g L y m in rw r.2 (le_z_le (g r.0) b (under r.0 (there r.1)))))
  where
    b : ℤ
    b = greatest_z (h x) (map h L)

module _ {E : Type 0} (num ready dur : E → ℕ) (opens : ℕ → Bool) (sooner : E → E → Bool) (U : Urgency num sooner)
    (L : List E) (d : Distinct num L) (w : Plan) (rule : Obeys num ready dur opens sooner L w)
    (q : Plan) (a : Allowed num ready dur opens L q) where
  -- while the rule's plan has something of X to do, so has every other
  pub behind : (X : E → Bool) → UpClosed sooner L X → (t : ℕ) (e : E) → e ∈ L → X e ≡ true
      → did w (num e) t < dur e → (f : E) × (f ∈ L) × (X f ≡ true) × (did q (num f) t < dur f)
  behind X up t e m h left = go (find waiting L)
    where
      waiting : E → Bool
      waiting f = X f && ltb (did q (num f) t) (dur f)

      go : ((f : E) × (f ∈ L) × (waiting f ≡ true)) ⊎ ((f : E) → f ∈ L → waiting f ≡ false)
          → (f : E) × (f ∈ L) × (X f ≡ true) × (did q (num f) t < dur f)
      go (inl (f, n, k)) =
          let b = and_true (X f) (ltb (did q (num f) t) (dur f)) k in
          (f, n, b.0, ltb-true (did q (num f) t) (dur f) b.1)
      go (inr nobody) = absurd (omega (
        arith,
        work-sum num X L d w t,
        work-sum num X L d q t,
        obeys_dominates num ready dur opens sooner U L d w rule X up q a t,
        sum_lt (λ f. part (X f) (did w (num f) t)) (λ f. part (X f) (dur f)) L
            (λ f n. part_mono (X f) (did w (num f) t) (dur f)
            (λ z. (obeys_allowed num ready dur opens sooner L d w rule).most f n t))
            e m
            (omega (arith, part_true (X e) (did w (num e) t) h, part_true (X e) (dur e) h)),
        sum_le (λ f. part (X f) (dur f)) (λ f. part (X f) (did q (num f) t)) L
            (λ f n. part_mono (X f) (dur f) (did q (num f) t)
            (λ z. ltb-false (did q (num f) t) (dur f) (rw z at (nobody f n)))),
      ))

  -- e's finish is no later than that of some entry of X in the other plan
  pub as_late : ((e : E) → e ∈ L → 1 ≤ dur e) → (X : E → Bool) → UpClosed sooner L X
      → (finish : E → ℕ) → ((f : E) → f ∈ L → Finish q (num f) (dur f) (finish f))
      → (e : E) → e ∈ L → X e ≡ true → (c : ℕ) → Finish w (num e) (dur e) c
      → (f : E) × (f ∈ L) × (X f ≡ true) × (c ≤ finish f)
  as_late some-work X up finish done e m h c fin =
      let l = finish_last w (num e) (dur e) c fin (some-work e m) in
      let left : did w (num e) l.0 < dur e =
      by_le (dur e) (did w (num e) l.0)
      (λ z. absurd (omega (arith, fin.first l.0 z, l.1)))
      (λ z. z) in
      let b = behind X up l.0 e m h left in (
        b.0,
        b.1,
        b.2,
        by_le c (finish b.0) (λ z. z)
            (λ z.
            absurd
            (omega (
              arith,
              l.1,
              b.3,
              (done b.0 b.1).done,
              cnt_mono (λ s. is_it (q s) (num b.0)) (finish b.0) l.0 (omega (arith, l.1)),
            ))),
      )

  -- by every moment t, no plan has worked more on the entries with latest moment at most x
  pub work_by_latest : (latest : E → ℤ)
      → ((e f : E) → e ∈ L → f ∈ L → sooner e f ≡ true → le_z (latest e) (latest f) ≡ true) → (x : ℤ) (t : ℕ)
      → cnt (λ s. on num (λ e. le_z (latest e) x) L (q s)) t ≤ cnt (λ s. on num (λ e. le_z (latest e) x) L (w s)) t
  work_by_latest latest sooner-latest x t =
      obeys_dominates num ready dur opens sooner U L d w rule (λ e. le_z (latest e) x)
      (λ e f m n h k. le_z_trans (latest e) (latest f) x (sooner-latest e f m n h) k) q a t

  -- OPTIMALITY: a bound on the lateness of every entry in another plan is one in the rule's plan
  module _ (latest : E → ℤ)
      (sooner-latest : (e f : E) → e ∈ L → f ∈ L → sooner e f ≡ true → le_z (latest e) (latest f) ≡ true)
      (some-work : (e : E) → e ∈ L → 1 ≤ dur e)
      (finish other : E → ℕ)
      (finishes : (e : E) → e ∈ L → Finish w (num e) (dur e) (finish e))
      (others : (e : E) → e ∈ L → Finish q (num e) (dur e) (other e)) where
    pub later_one : (e : E) → e ∈ L
        → (f : E) × (f ∈ L) × (le_z (pos (finish e) -ℤ latest e) (pos (other f) -ℤ latest f) ≡ true)
    later_one e m =
        let r = as_late some-work (λ f. le_z (latest f) (latest e))
        (λ x y i j h k. le_z_trans (latest x) (latest y) (latest e) (sooner-latest x y i j h) k)
        other others e m (le_z_refl (latest e)) (finish e) (finishes e m) in
        (r.0, r.1, late_mono (finish e) (other r.0) (latest e) (latest r.0) r.3 r.2)

    pub no_smaller : (bound : ℤ) → ((f : E) → f ∈ L → le_z (pos (other f) -ℤ latest f) bound ≡ true)
        → (e : E) → e ∈ L → le_z (pos (finish e) -ℤ latest e) bound ≡ true
    no_smaller bound under e m =
        let r = later_one e m in
        le_z_trans (pos (finish e) -ℤ latest e) (pos (other r.0) -ℤ latest r.0) bound
        r.2 (under r.0 r.1)

    -- the worst lateness of the rule's plan is the least
    pub worst_least : le_z (worst_of (map (λ e. pos (finish e) -ℤ latest e) L))
        (worst_of (map (λ e. pos (other e) -ℤ latest e) L)) ≡ true
    worst_least =
        worst_most (λ e. pos (finish e) -ℤ latest e) (λ e. pos (other e) -ℤ latest e) L
        (no_smaller (worst_of (map (λ e. pos (other e) -ℤ latest e) L))
        (worst_mem (λ e. pos (other e) -ℤ latest e) L))
