-- What is passed on along the links of one finished piece: every piece waits for as many less as there are links to it,
-- and is ready no sooner than they ask.
use Prim.Native.Nat.{ℕ, zero, suc, ◌+◌, ◌-◌, ◌≤◌, ◌<◌, max}
use mathlib.Core.Bool.{◌&&◌}
use mathlib.Core.List.{List, ◌∷◌, ◌++◌, map, map-append, []}
use mathlib.Core.Path.{◌≡◌, refl, sym, ap, ◌∙◌}
use native.Mathlib.Omega.{arith}
use borrow.Author.Tests.{eqb-true, eqb-false}
use lib.Dec.{eqb}
use lib.ListN.{length, get_or, set, length-set}
use lib.Seq.{get_or-set_same, get_or-set_other}
use Rattle.rules.specs.Words.{when, below}
use Rattle.rules.specs.Job.{Job, piece_count, desk}
use Rattle.rules.specs.Moments.{delay}
use Rattle.rules.specs.Tables.{Sound, link_in}
use Rattle.rules.specs.declared.Link.{Link}
use Rattle.laws.proofs.Sound.{link_fit}
use Rattle.laws.proofs.Words.{by_test, mem_map, below_mem}
use Rattle.slots.specs.Standing.{links_to, asked_by}
use Rattle.laws.proofs.Delay.{delay_is}
use Rattle.steps.specs.Handover.{Ties, Waiting, delay_of, passed, pass_from}
use Rattle.steps.proofs.Tables.{below_more}

-- What links ask, with one link more behind them.
module _ (J : Job) (p c i : ℕ) where
  to_more : (ls : List Link) (l : Link)
      → links_to p i (ls ++ (l ∷ [])) ≡ links_to p i ls + when (eqb l.before p && eqb l.after i) 1 0
  unfolding links_to
  to_more [] l = omega arith
  to_more (x ∷ ls) l =
      let ih : links_to p i (ls ++ (l ∷ [])) ≡ links_to p i ls + when
      (eqb l.before p && eqb l.after i) 1 0 = to_more ls l in
      omega arith

  asked_more : (ls : List Link) (l : Link)
      → asked_by J p c i (ls ++ (l ∷ [])) ≡ max (asked_by J p c i ls)
      (when (eqb l.before p && eqb l.after i) (c + delay J l) 0)
  unfolding asked_by
  asked_more [] l = omega arith
  asked_more (x ∷ ls) l =
      let ih : asked_by J p c i (ls ++ (l ∷ []))
      ≡ max (asked_by J p c i ls) (when (eqb l.before p && eqb l.after i) (c + delay J l) 0) = asked_more ls l in
      omega arith

-- A table after one store.
set_at : (T : List ℕ) (a x i : ℕ) → i < length T → get_or (set T a x) i 0 ≡ when (eqb a i) x (get_or T i 0)
unfolding when
set_at T a x i h = by_test (eqb a i)
    (λ e. let z : a ≡ i = eqb-true a i e in rw (e, z) (get_or-set_same T i x 0 h))
    (λ e. rw e (get_or-set_other T a i x 0 (λ z. eqb-false a i e (sym z))))

-- One link passed.
module _ (l : Ties) (c k i : ℕ) (s : Waiting) where
  abbrev target : ℕ
  target = get_or l.afters k 0

  passed_waits : i < length s.waits → get_or (passed l c k s).waits i 0 ≡ get_or s.waits i 0 - when (eqb target i) 1 0
  unfolding when
  passed_waits h = by_test (eqb target i)
      (λ e. let z : target ≡ i = eqb-true target i e in
      set_at s.waits target (get_or s.waits target 0 - 1) i h ∙ rw (e, z))
      (λ e. set_at s.waits target (get_or s.waits target 0 - 1) i h ∙ rw e (omega arith))

  passed-ready : i < length s.ready
      → get_or (passed l c k s).ready i 0 ≡ max (get_or s.ready i 0) (when (eqb target i) (c + delay_of l k) 0)
  unfolding when
  passed-ready h = by_test (eqb target i)
      (λ e. let z : target ≡ i = eqb-true target i e in
      set_at s.ready target (max (get_or s.ready target 0) (c + delay_of l k)) i h ∙ rw (e, z))
      (λ e. set_at s.ready target (max (get_or s.ready target 0) (c + delay_of l k)) i h ∙ rw e (omega arith))

-- The links of the job as the tables have them.
module _ (J : Job) (sound : Sound J) (n m : ℕ) (l : Ties) (count : piece_count J ≡ n) (few : n ≤ 256)
    (desk_is : (i : ℕ) → i < n → desk J i ≡ get_or l.desks i 0)
    (links_are : J.links ≡ map (link_in l.befores l.afters l.handovers) (below m)) where
  abbrev link : ℕ → Link
  link = link_in l.befores l.afters l.handovers

  fit : (k : ℕ) → k < m → ((link k).before < n) × ((link k).after < n)
  fit k h =
      let w = link_fit J sound (link k) (rw links_are (mem_map link (below m) k (below_mem m k h))) in
      (rw count at w.before_one, rw count at w.after_one)

  delay_of_lem : (k : ℕ) → k < m → delay_of l k ≡ delay J (link k)
  unfolding delay_of link_in
  delay_of_lem k h = let w = fit k h in sym (delay_is J (link k) ∙ rw (desk_is _ w.0, desk_is _ w.1))

  -- The links of piece p among the first k passed on.
  module _ (p c : ℕ) where
    one : ℕ → Waiting → Waiting
    one k s = when (eqb (get_or l.befores k 0) p) (passed l c k s) s

    one_sized : (k : ℕ) (s : Waiting)
        → (length (one k s).waits ≡ length s.waits) × (length (one k s).ready ≡ length s.ready)
    unfolding one when
    one_sized k s = by_test (eqb (get_or l.befores k 0) p)
        (λ e. rw e (length-set s.waits _ _, length-set s.ready _ _))
        (λ e. rw e (refl, refl))

    one_waits : (k i : ℕ) (s : Waiting) → i < length s.waits
        → get_or (one k s).waits i 0 ≡ get_or s.waits i 0 - when (eqb (link k).before p && eqb (link k).after i) 1 0
    unfolding one link_in when
    one_waits k i s h = by_test (eqb (get_or l.befores k 0) p)
        (λ e. rw e (passed_waits l c k i s h))
        (λ e. rw e (omega arith))

    one_ready : (k i : ℕ) (s : Waiting) → k < m → i < length s.ready
        → get_or (one k s).ready i 0
        ≡ max (get_or s.ready i 0) (when (eqb (link k).before p && eqb (link k).after i) (c + delay J (link k)) 0)
    unfolding one link_in when
    one_ready k i s b h = by_test (eqb (get_or l.befores k 0) p)
        (λ e. rw (e, ← delay_of_lem k b) (passed-ready l c k i s h))
        (λ e. rw e (omega arith))

    links_more : (k : ℕ) → map link (below (suc k)) ≡ map link (below k) ++ (link k ∷ [])
    links_more k = ap (map link) (below_more k) ∙ map-append link (below k) (k ∷ [])

    pub pass_sized : (k : ℕ) (s : Waiting)
        → (length (pass_from l p c k s).waits ≡ length s.waits) ×
        (length (pass_from l p c k s).ready ≡ length s.ready)
    unfolding pass_from one
    pass_sized zero s = (refl, refl)
    pass_sized (suc k) s =
        let ih = pass_sized k (one k s) in
        let o = one_sized k s in
        (ih.0 ∙ o.0, ih.1 ∙ o.1)

    pub pass_waits : (k i : ℕ) (s : Waiting) → k ≤ m → i < length s.waits
        → get_or (pass_from l p c k s).waits i 0 ≡ get_or s.waits i 0 - links_to p i (map link (below k))
    unfolding pass_from links_to below one
    pass_waits zero i s b h = omega arith
    pass_waits (suc k) i s b h =
        let ih : get_or (pass_from l p c k (one k s)).waits i 0 ≡ get_or (one k s).waits i 0 - links_to p i
        (map link (below k)) =
        pass_waits k i (one k s) (omega arith) (rw (one_sized k s).0 h) in
        omega (arith, one_waits k i s h, to_more J p c i (map link (below k)) (link k), ap (links_to p i) (links_more k))

    pub pass_ready : (k i : ℕ) (s : Waiting) → k ≤ m → i < length s.ready
        → get_or (pass_from l p c k s).ready i 0 ≡ max (get_or s.ready i 0) (asked_by J p c i (map link (below k)))
    unfolding pass_from asked_by below one
    pass_ready zero i s b h = omega arith
    pass_ready (suc k) i s b h =
        let ih : get_or (pass_from l p c k (one k s)).ready i 0 ≡ max (get_or (one k s).ready i 0)
        (asked_by J p c i (map link (below k))) =
        pass_ready k i (one k s) (omega arith) (rw (one_sized k s).1 h) in
        omega (
          arith,
          one_ready k i s b h,
          asked_more J p c i (map link (below k)) (link k),
          ap (asked_by J p c i)
              (links_more k),
        )
