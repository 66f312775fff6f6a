-- Moments raised along the links, piece by piece in order: they stay below the raised ready moments, and a piece has its own
-- once every piece before it had its turn.
use Prim.Native.Nat.{ℕ, suc, ◌+◌, ◌≤◌, ◌<◌, max}
use mathlib.Core.List.{List, Memᴰ as Mem}
use mathlib.Core.Logic.{⊎_elim}
use mathlib.Core.Option.{none}
use mathlib.Core.Path.{◌≡◌, refl, sym, ap, ◌∙◌}
use native.Mathlib.Nat.{le_antisymm}
use native.Mathlib.Omega.{arith}
use borrow.Author.Tests.{eq-eqb, ne_eqb}
use lib.Dec.{eqb}
use lib.ListN.{length, get_or, set, length-set}
use lib.Seq.{get_or-set_same, get_or-set_other}
use Rattle.rules.specs.Job.{Job, piece_count, piece, desk, duration, links_into, no_piece}
use Rattle.rules.specs.Hours.{open_end}
use Rattle.rules.specs.Moments.{delay}
use Rattle.rules.specs.Rings.{ring_piece}
use Rattle.rules.specs.Tables.{job_of, befores_of, afters_of, finishes_of, no_link, no_span, Sound}
use Rattle.rules.specs.Urgency.{finish}
use Rattle.rules.specs.Entries.{raised}
use Rattle.rules.specs.declared.Link.{Link}
use Rattle.rules.specs.declared.Piece.{Piece}
use Rattle.rules.specs.declared.Span.{Span}
use Rattle.laws.proofs.Words.{when_true, when_false}
use Rattle.laws.proofs.Columns.{get_or-befores, get_or-afters, get_or-releases, get_or-finishes}
use Rattle.laws.proofs.Sound.{LinkFits, link_fit, into_link, link_into, mem_place, place_mem}
use Rattle.laws.proofs.Raised.{elsewhere_link, link_elsewhere, own_link, link_own, ready_release, ready_after_lem}
use Rattle.laws.proofs.Raised.{ready_least, raised-ready, raised_after, raised_least}
use Rattle.theory.proofs.Cases.{by_eq}
use Rattle.demands.proofs.Finishes.{finish_most}
use Rattle.links.specs.Chains.{Chained}
use Rattle.links.specs.Links.{InOrder}
use Rattle.links.specs.declared.chains.Chains.{Chains}
use Rattle.links.proofs.ChainLaws.{OnChain, chain_start, on_link, on_falls, on_next, on_or_behind, on_last}
use Rattle.laws.proofs.Delay.{delay_between}
use Rattle.laws.proofs.Hours.{end_is, end_grows}
use Rattle.method.specs.Hours.{desk_end}
use Rattle.ready.specs.Planned.{Planned, Released, leaves, asks, Below, Risen, HoldsRaised}
use Rattle.ready.proofs.Bounds.{raised_most}

module _ (J : Job) (sound : Sound J) (free : ring_piece J ≡ none) where
  -- What a link asks: of two pieces on one desk, and of two desks.
  asks_own : (table : List ℕ) (l : Link) → desk J l.before ≡ desk J l.after
      → asks J table l ≡ open_end J (desk J l.after) (get_or table l.before 0) (duration J l.before)
  unfolding asks leaves desk_end
  asks_own table l e =
      when_true _ _ _ (eq-eqb _ _ e)
      ∙ sym (end_is J (desk J l.after) (get_or table l.before 0) (duration J l.before))

  asks_other : (table : List ℕ) (l : Link) → (desk J l.before ≡ desk J l.after → ⊥)
      → asks J table l ≡ finish J l.before + delay J l
  unfolding asks leaves
  asks_other table l ne =
      when_false _ _ _ (ne_eqb _ _ ne) ∙ ap (λ (k : ℕ). finish J l.before + k) (sym (delay_between J l ne))

  -- It grows with the moment of the piece before, and is granted by the raised ready moments.
  asks_grow : (s t : List ℕ) (l : Link) → get_or s l.before 0 ≤ get_or t l.before 0 → asks J s l ≤ asks J t l
  asks_grow s t l h =
      by_eq (desk J l.before) (desk J l.after)
      (λ e.
      omega (
        arith,
        asks_own s l e,
        asks_own t l e,
        end_grows J (desk J l.after) (get_or s l.before 0) (get_or t l.before 0) (duration J l.before) h,
      ))
      (λ e. omega (arith, asks_other s l e, asks_other t l e))

  asks_low : (t : List ℕ) (l : Link) → Mem l J.links → get_or t l.before 0 ≤ raised J l.before
      → asks J t l ≤ raised J l.after
  asks_low t l m h =
      let into : Mem l (links_into J l.after) = link_into J l.after l m refl in
      by_eq (desk J l.before) (desk J l.after)
      (λ e.
      omega (
        arith,
        asks_own t l e,
        end_grows J (desk J l.after) (get_or t l.before 0) (raised J l.before) (duration J l.before) h,
        raised_after J sound free l.after l (link_own J l.after l into e),
      ))
      (λ e.
      omega (
        arith,
        asks_other t l e,
        ready_after_lem J l.after l (link_elsewhere J l.after l into e),
        raised-ready J sound free l.after,
      ))

  -- A piece has its raised ready moment once its release and all links into it are granted, these with raised ready moments
  -- where they come from its own desk.
  enough : (t : List ℕ) (i c : ℕ) → i < piece_count J → (piece J i).release ≤ c
      → ((l : Link) → Mem l J.links → l.after ≡ i → asks J t l ≤ c)
      → ((l : Link) → Mem l J.links → l.after ≡ i → desk J l.before ≡ desk J i
      → raised J l.before ≤ get_or t l.before 0)
      → raised J i ≤ c
  enough t i c h rel all own =
      raised_least J sound free i c
      (ready_least J i c rel
      (λ l m.
      let e = elsewhere_link J i l m in
      let w = into_link J i l e.0 in
      omega (arith, all l w.0 w.1, asks_other t l (λ q. e.1 (q ∙ ap (desk J) w.1)))))
      (λ l m.
      let o = own_link J i l m in
      let w = into_link J i l o.0 in
      let same : desk J i ≡ desk J l.after = ap (desk J) (sym w.1) in
      let grows = end_grows J (desk J l.after) (raised J l.before) (get_or t l.before 0) (duration J l.before)
      (own l w.0 w.1 o.1) in
      rw same (omega (arith, all l w.0 w.1, asks_own t l (o.1 ∙ same), grows)))

-- A walk along the links of piece i: those from `bound` on have been looked at.
pub record Rising (i : ℕ) (ps : List Piece) (ls : List Link) (start table : List ℕ) (at : ℕ) : Type 0 where
  pub bound : ℕ
  pub walk : OnChain (befores_of ls) i (length ls) at bound
  pub low : Below (job_of ps ls) table
  pub grown : (j : ℕ) → j < length ps → get_or start j 0 ≤ get_or table j 0
  pub granted : (k : ℕ) → k < length ls → get_or (befores_of ls) k 0 ≡ i → bound ≤ k
      → asks (job_of ps ls) start (get_or ls k no_link) ≤ get_or table (get_or ls k no_link).after 0

module _ {ps : List Piece} {ls : List Link} (spans : List Span) (P : Planned ps ls (finishes_of spans)) where
  abbrev J : Job
  J = job_of ps ls

  abbrev link : ℕ → Link
  link k = get_or ls k no_link

  fit : (k : ℕ) → k < length ls → LinkFits (length ps) (link k)
  fit k h = link_fit J P.sound (link k) (place_mem no_link ls k h)

  finish_is : (i : ℕ) → i < length ps → (get_or spans i no_span).finish ≡ finish J i
  finish_is i h = sym (get_or-finishes spans i) ∙ P.finished i h

  -- No sum on the way is out of range.
  pub early : (table : List ℕ) (i : ℕ) → i < length ps → Below J table
      → (get_or table i 0 ≤ 1000000) × ((get_or spans i no_span).finish ≤ 1000000)
  early table i h l = (
    omega (arith, l.each i h, raised_most J P.sound P.free i h),
    omega (arith, finish_is i h, finish_most J P.sound P.free i h),
  )

  module _ {chains : Chains} (C : Chained (befores_of ls) (length ls) chains.last chains.prior)
      {i : ℕ} (one : i < length ps) where
    pub rising_none : (start : List ℕ) (at : ℕ) → at ≡ get_or chains.last i 0 → Below J start → Rising i ps ls start start at
    rising_none start at e h = record {
      bound = length ls;
      walk = chain_start C at e (omega (arith, one, P.sound.few_pieces));
      low = h;
      grown = λ j l. omega arith;
      granted = λ k h e l. absurd (omega arith);
    }

    -- At link k.
    module _ {start table : List ℕ} {k : ℕ} (R : Rising i ps ls start table (suc k)) where
      here : (k < length ls) × (get_or (befores_of ls) k 0 ≡ i)
      here = on_link C R.walk

      pub rising_place : k < length ls
      rising_place = here.0

      pub rising_after : (link k).after < length ps
      rising_after = (fit k here.0).after_one

      pub rising_falls : get_or chains.prior k 0 < suc k
      rising_falls = on_falls C R.walk

      from_here : (link k).before ≡ i
      from_here = sym (get_or-befores ls k) ∙ here.1

      -- What the code works out for it.
      pub code-asks : leaves (eqb (get_or ps i no_piece).desk (get_or ps (link k).after no_piece).desk) (get_or table i 0)
          (get_or ps i no_piece).duration (get_or spans i no_span).finish (link k).handover
          ≡ asks J table (link k)
      unfolding asks
      code-asks = rw (from_here, finish_is i one)

      grows : asks J start (link k) ≤ asks J table (link k)
      grows = asks_grow J P.sound P.free start table (link k) (R.grown (link k).before (fit k here.0).before_one)

      lower : asks J table (link k) ≤ raised J (link k).after
      lower = asks_low J P.sound P.free table (link k) (place_mem no_link ls k here.0)
          (R.low.each (link k).before (fit k here.0).before_one)

      pub rising_more : (at v new : ℕ) → at ≡ get_or chains.prior k 0 → v ≡ asks J table (link k)
          → new ≡ max (get_or table (link k).after 0) v → Rising i ps ls start (set table (link k).after new) at
      rising_more at v new e asked is =
          let a : ℕ = (link k).after in
          let at_a : get_or (set table a new) a 0 ≡ new =
          get_or-set_same table a new 0 (omega (arith, R.low.sized, rising_after, P.sound.few_pieces)) in
          let up : (j : ℕ) → get_or table j 0 ≤ get_or (set table a new) j 0 =
          λ j. by_eq j a (λ q. rw q (omega arith)) (λ q. omega (arith, get_or-set_other table a j new 0 q)) in
          record {
            bound = k;
            walk = on_next C R.walk at e;
            low = record {
              sized = length-set table a new ∙ R.low.sized;
              each = λ j h.
                  by_eq j a
                  (λ q. rw q (omega (arith, lower, R.low.each a rising_after)))
                  (λ q. omega (arith, get_or-set_other table a j new 0 q, R.low.each j h));
            };
            grown = λ j h. omega (arith, R.grown j h, up j);
            granted = λ j h b l. ⊎_elim
                (λ q. rw q (omega (arith, grows)))
                (λ q. omega (arith, R.granted j h b q, up (link j).after))
                (on_or_behind C R.walk j b l);
          }

    pub rising_end : {start table : List ℕ} → Rising i ps ls start table 0 → Risen J i start table
    rising_end R = record {
      low = R.low;
      grown = R.grown;
      granted = λ l m e.
          let w = mem_place no_link ls l m in
          let b : get_or (befores_of ls) w.0 0 ≡ i = get_or-befores ls w.0 ∙ ap (λ (x : Link). x.before) w.2 ∙ e in
          rw w.2 at (R.granted w.0 w.1 b (on_last C R.walk w.0 b));
    }

-- PIECE BY PIECE: those that had their turn have their raised ready moments, and what they leave is granted.
pub record Settled (ps : List Piece) (ls : List Link) (order table : List ℕ) (p : ℕ) : Type 0 where
  pub low : Below (job_of ps ls) table
  pub release : (i : ℕ) → i < length ps → (get_or ps i no_piece).release ≤ get_or table i 0
  pub settled : (q : ℕ) → q < p → q < length ps
      → raised (job_of ps ls) (get_or order q 0) ≤ get_or table (get_or order q 0) 0
  pub granted : (q : ℕ) → q < p → q < length ps → (l : Link) → Mem l ls → l.before ≡ get_or order q 0
      → asks (job_of ps ls) table l ≤ get_or table l.after 0

module _ {ps : List Piece} {ls : List Link} {order : List ℕ} (sound : Sound (job_of ps ls))
    (free : ring_piece (job_of ps ls) ≡ none)
    (ordered : InOrder (length ps) (length ls) (befores_of ls) (afters_of ls) order) where
  abbrev K : Job
  K = job_of ps ls

  pub settled_none : (table : List ℕ) → Released ps table → Settled ps ls order table 0
  settled_none table h = record {
    low = record {
      sized = h.sized;
      each = λ i l.
          omega (arith, h.each i l, get_or-releases ps i, ready_release K i, raised-ready K sound free i);
    };
    release = λ i l. omega (arith, h.each i l, get_or-releases ps i);
    settled = λ q l. absurd (omega arith);
    granted = λ q l. absurd (omega arith);
  }

  -- The place of a piece before stands earlier.
  placed : (l : Link) → Mem l ls → (p : ℕ) → p < length ps → l.after ≡ get_or order p 0
      → (q : ℕ) × (q < p) × (q < length ps) × (l.before ≡ get_or order q 0)
  placed l x p h e =
      let w = mem_place no_link ls l x in
      let s = ordered.everyone l.before (link_fit K sound l x).before_one in
      let b : get_or order s.0 0 ≡ get_or (befores_of ls) w.0 0 =
      s.2 ∙ ap (λ (y : Link). y.before) (sym w.2) ∙ sym (get_or-befores ls w.0) in
      let a : get_or order p 0 ≡ get_or (afters_of ls) w.0 0 =
      sym e ∙ ap (λ (y : Link). y.after) (sym w.2) ∙ sym (get_or-afters ls w.0) in
      (s.0, ordered.rises w.0 w.1 s.0 p s.1 h b a, s.1, sym s.2)

  module _ (p : ℕ) (on : p < length ps) {start : List ℕ} (g : Settled ps ls order start p) where
    abbrev i : ℕ
    i = get_or order p 0

    pub turn_inside : i < length ps
    turn_inside = ordered.inside p on

    -- The piece whose turn it is has its raised ready moment.
    stands : raised K i ≤ get_or start i 0
    stands = enough K sound free start i (get_or start i 0) turn_inside (g.release i turn_inside)
        (λ l x e. let w = placed l x p on e in
        let q : get_or start l.after 0 ≡ get_or start i 0 = ap (λ (j : ℕ). get_or start j 0) e in
        omega (arith, g.granted w.0 w.1 w.2 l x w.3))
        (λ l x e o. let w = placed l x p on e in
        rw w.3 (g.settled w.0 w.1 w.2))

    module _ {table : List ℕ} (h : Risen K i start table) where
      -- Of a piece that had its raised ready moment the moment stays.
      stays : (j : ℕ) → j < length ps → raised K j ≤ get_or start j 0 → get_or table j 0 ≤ get_or start j 0
      stays j l r = omega (arith, h.low.each j l, r)

      has : (q : ℕ) → q < p + 1 → q < length ps → raised K (get_or order q 0) ≤ get_or start (get_or order q 0) 0
      has q l o = by_eq q p (λ e. rw e stands) (λ e. g.settled q (omega (arith, l)) o)

      pub settled_more : Settled ps ls order table (p + 1)
      settled_more = record {
        low = h.low;
        release = λ j l. omega (arith, g.release j l, h.grown j l);
        settled = λ q l o. omega (arith, has q l o, h.grown (get_or order q 0) (ordered.inside q o));
        granted = λ q l o x m e.
            let b = (link_fit K sound x m).before_one in
            let a = (link_fit K sound x m).after_one in
            let same = asks_grow K sound free table start x (stays x.before b (rw e (has q l o))) in
            by_eq q p
            (λ z. omega (arith, same, h.granted x m (e ∙ ap (λ y. get_or order y 0) z)))
            (λ z. omega (arith, same, g.granted q (omega (arith, l)) o x m e, h.grown x.after a));
      }

  pub settled_end : (table : List ℕ) (p : ℕ) → Settled ps ls order table p → length ps ≤ p → HoldsRaised K table
  settled_end table p g h = record {
    sized = g.low.sized;
    each = λ i l.
        let w = ordered.everyone i l in
        le_antisymm (g.low.each i l) (rw w.2 at (g.settled w.0 (omega (arith, w.1)) w.1));
  }
