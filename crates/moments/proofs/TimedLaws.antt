-- One piece in its turn: the least of its due and of what the links from it leave is its latest moment, since the pieces
-- after it had theirs.
use Prim.Native.Nat.{ℕ, suc, ◌+◌, ◌≤◌, ◌<◌}
use mathlib.Core.List.{List, [], ◌∷◌, ◌++◌, Memᴰ as Mem}
use mathlib.Core.Logic.{⊎_elim}
use mathlib.Core.Path.{◌≡◌, refl, sym, ap, ◌∙◌}
use native.Mathlib.Omega.{arith}
use borrow.Author.Tests.{eqb-true, eqb-false}
use lib.Dec.{eqb}
use lib.IntN.{ℤ, pos, negsuc, ◌-ℤ◌, nat_abs}
use lib.ListN.{length, get_or, get_or-append, set, take}
use lib.Seq.{get_or-set_same, get_or-set_other}
use mir.Syntax.{w32}
use mir.Val.{SFits}
use Rattle.std.specs.Int.{int_min}
use Rattle.std.proofs.lemmas.List.{get_or-take, length-take-le, length_push, get_or_push}
use lib.Signed.{lt_z}
use Rattle.rules.specs.Words.{when, lesser_z}
use Rattle.rules.specs.Job.{Job, piece}
use Rattle.rules.specs.Moments.{takes_off, latest}
use Rattle.rules.specs.Tables.{job_of, befores_of, afters_of, no_link}
use Rattle.rules.specs.declared.Link.{Link}
use Rattle.rules.specs.declared.Piece.{Piece}
use Rattle.laws.proofs.Columns.{get_or-befores, get_or-afters}
use Rattle.laws.proofs.Delay.{takes_off_most}
use Rattle.laws.proofs.Latest.{asked_most, latest_equation, latest_due, latest_after, latest_near}
use Rattle.laws.proofs.Signed.{up, dn, ◌≼◌, same, minus, lesser_left, lesser_right, lesser_most}
use Rattle.laws.proofs.Sound.{mem_place, place_mem, from_link, link_fit}
use Rattle.laws.proofs.Words.{by_test}
use Rattle.links.specs.declared.chains.Chains.{Chains}
use Rattle.links.specs.declared.rings.Walk.{Walk}
use Rattle.links.proofs.ChainLaws.{OnChain, chain_start, on_link, on_falls, on_next, on_last, on_or_behind}
use Rattle.moments.specs.Moments.{left_by, ToLeave, ToTimeOne, ToTime}

-- A signed number that is not far from zero, less what a link takes off it.
near_fits : (z : ℤ) → up z ≤ 600000 + dn z → dn z ≤ 600000 + up z → SFits w32 z
unfolding up dn
near_fits (pos n) h k = record { sfits = omega arith }
near_fits (negsuc n) h k = record { sfits = omega arith }

not_far : (z : ℤ) → nat_abs z ≤ 500000 → (up z ≤ 500000) × (dn z ≤ 500000)
unfolding up dn
not_far (pos n) h = (omega arith, omega arith)
not_far (negsuc n) h = (omega arith, omega arith)

module _ {J : Job} {moments : List ℤ} {k : ℕ} (L : ToLeave J moments k) where
  pub moment_fits : SFits w32 (get_or moments (get_or J.links k no_link).after (pos 0))
  moment_fits =
      let z = get_or moments (get_or J.links k no_link).after (pos 0) in
      let n = not_far z L.near in
      near_fits z (omega (arith, n.0)) (omega (arith, n.1))

  pub left_fits : SFits w32 (left_by J moments (get_or J.links k no_link))
  unfolding left_by up dn
  left_fits =
      let l = get_or J.links k no_link in
      let z = get_or moments l.after (pos 0) in
      let gap = minus z (pos (takes_off J l)) in
      let n = not_far z L.near in
      let small = takes_off_most J L.sound l (place_mem no_link J.links k L.here) in
      near_fits (z -ℤ pos (takes_off J l)) (omega (arith, gap, n.0, n.1, small)) (omega (arith, gap, n.0, n.1, small))

-- The walk along the chain of piece i: the least so far is no less than its latest moment, and no more than its due and
-- than what the links behind leave.
module _ (i : ℕ) (ps : List Piece) (ls : List Link) where
  abbrev J : Job
  J = job_of ps ls

  -- What link j leaves the piece before it, in the words of the rules.
  abbrev leaves : Link → ℤ
  leaves l = latest J l.after -ℤ pos (takes_off J l)

  pub record Timing (least : ℤ) (at : ℕ) : Type 0 where
    pub bound : ℕ
    pub on_chain : OnChain (befores_of ls) i (length ls) at bound
    pub low : latest J i ≼ least
    pub due : least ≼ pos (piece J i).due
    pub behind : (j : ℕ) → j < length ls → get_or (befores_of ls) j 0 ≡ i → bound ≤ j
        → least ≼ leaves (get_or ls j no_link)

  module _ {chains : Chains} {moments : List ℤ} (A : ToTimeOne i ps ls chains moments) where
    pub timing_start : (at : ℕ) → at ≡ get_or chains.last i 0 → Timing (pos (piece J i).due) at
    timing_start at e = record {
      bound = length ls;
      on_chain = chain_start A.chained at e (omega (arith, A.one, A.sound.few_pieces));
      low = latest_due J A.sound A.free i A.one;
      due = omega arith;
      behind = λ j l b h. absurd (omega arith);
    }

    -- At link k.
    module _ {k : ℕ} {least : ℤ} (T : Timing least (suc k)) where
      here : (k < length ls) × (get_or (befores_of ls) k 0 ≡ i)
      here = on_link A.chained T.on_chain

      pub timing_place : k < length ls
      timing_place = here.0

      pub timing_falls : get_or chains.prior k 0 < suc k
      timing_falls = on_falls A.chained T.on_chain

      from_here : (get_or ls k no_link).before ≡ i
      from_here = sym (get_or-befores ls k) ∙ here.1

      known : get_or moments (get_or ls k no_link).after (pos 0) ≡ latest J (get_or ls k no_link).after
      known = A.followers (get_or ls k no_link) (place_mem no_link ls k here.0) from_here

      pub timing_leave : ToLeave J moments k
      timing_leave = record {
        sound = A.sound;
        here = here.0;
        near =
            let inside = (link_fit J A.sound (get_or ls k no_link) (place_mem no_link ls k here.0)).after_one in
            rw known (omega (arith, (latest_near J A.sound A.free _ inside).abs_most));
      }

      left_is : left_by J moments (get_or ls k no_link) ≡ leaves (get_or ls k no_link)
      unfolding left_by
      left_is = rw known

      low_here : latest J i ≼ leaves (get_or ls k no_link)
      low_here = rw from_here at (latest_after J A.sound A.free (get_or ls k no_link) (place_mem no_link ls k here.0))

      pub timing_more : (at : ℕ) → at ≡ get_or chains.prior k 0 → (r : ℤ)
          → r ≡ lesser_z least (left_by J moments (get_or ls k no_link)) → Timing r at
      timing_more at e r is =
          let l = get_or ls k no_link in
          rw (is, left_is) (record {
            bound = k;
            on_chain = on_next A.chained T.on_chain at e;
            low = lesser_most least (leaves l) (latest J i) T.low low_here;
            due = omega (arith, T.due, lesser_left least (leaves l));
            behind = λ j h b o.
                ⊎_elim
                (λ q. rw q (lesser_right least (leaves l)))
                (λ q. omega (arith, T.behind j h b q, lesser_left least (leaves l)))
                (on_or_behind A.chained T.on_chain j b o);
          })

    pub timing_end : {least : ℤ} → Timing least 0 → least ≡ latest J i
    timing_end {least} T =
        let high : least ≼ latest J i =
        rw (latest_equation J A.sound A.free i A.one)
        (asked_most J (latest J) i least T.due (λ l m. each l (from_link J i l m))) in
        same least (latest J i) (omega (arith, T.low))
      where
        each : (l : Link) → Mem l ls × (l.before ≡ i) → least ≼ leaves l
        each l m =
            let w = mem_place no_link ls l m.0 in
            let b : get_or (befores_of ls) w.0 0 ≡ i = get_or-befores ls w.0 ∙ ap (λ x. x.before) w.2 ∙ m.1 in
            rw w.2 at (T.behind w.0 w.1 b (on_last A.chained T.on_chain w.0 b))

-- Piece by piece: those from place p of the order on have their latest moments.
abbrev pub Done : List Piece → List Link → Walk → ℕ → List ℤ → Type 0
Done ps ls walk p moments = (q : ℕ) → p ≤ q → q < length ps
    → get_or moments (get_or walk.order q 0) (pos 0) ≡ latest (job_of ps ls) (get_or walk.order q 0)

-- The places in front, whose pieces have their turn yet, are the first of the order.
pub record InFront (order front : List ℕ) (n : ℕ) : Type 0 where
  pub few : length front ≤ n
  pub are : (k : ℕ) → k < length front → get_or front k 0 ≡ get_or order k 0

pub front_all : (order front : List ℕ) (n : ℕ) → n ≤ length order → front ≡ take n order
    → (length front ≡ n) × InFront order front n
front_all order front n room is =
    let sized : length front ≡ n = ap length is ∙ length-take-le n order room in (
      sized,
      record {
        few = omega (arith, sized);
        are = λ k h. ap (λ (l : List ℕ). get_or l k 0) is ∙ get_or-take n order k 0 (omega (arith, sized));
      },
    )

-- The last of them has its turn.
module _ (order before front : List ℕ) (n x : ℕ) (f : InFront order before n) (split : before ≡ front ++ (x ∷ [])) where
  pub longer : length before ≡ length front + 1
  longer = ap length split ∙ length_push front x

  pub last_in : length front < n
  last_in = omega (arith, longer, f.few)

  pub last_is : x ≡ get_or order (length front) 0
  last_is =
      sym (get_or_push front x 0 (length front) refl)
      ∙ ap (λ (l : List ℕ). get_or l (length front) 0) (sym split) ∙ f.are (length front) (omega (arith, longer))

  pub front_less : InFront order front n
  front_less = record {
    few = omega (arith, last_in);
    are = λ k h. sym (get_or-append front (x ∷ []) 0 k h) ∙ ap (λ (l : List ℕ). get_or l k 0) (sym split)
        ∙ f.are k (omega (arith, longer, h));
  }

module _ {ps : List Piece} {ls : List Link} {walk : Walk} (A : ToTime ps ls walk) where
  abbrev K : Job
  K = job_of ps ls

  pub done_all : (moments : List ℤ) → Done ps ls walk 0 moments
      → (i : ℕ) → i < length ps → get_or moments i (pos 0) ≡ latest K i
  done_all moments d i l =
      let w = A.walkable.ordered.everyone i l in rw w.2 at (d w.0 (omega arith) w.1)

  -- The piece at place p has its turn.
  module _ (p : ℕ) (on : p < length ps) (moments : List ℤ) (done : Done ps ls walk (suc p) moments) where
    abbrev i : ℕ
    i = get_or walk.order p 0

    pub turn_inside : i < length ps
    turn_inside = A.walkable.ordered.inside p on

    -- The piece after a link from it had its turn.
    follower : (l : Link) → Mem l ls → l.before ≡ i → get_or moments l.after (pos 0) ≡ latest K l.after
    follower l m e =
        let g = mem_place no_link ls l m in
        let w = A.walkable.ordered.everyone l.after (link_fit K A.sound l m).after_one in
        let before : get_or (befores_of ls) g.0 0 ≡ i = get_or-befores ls g.0 ∙ ap (λ x. x.before) g.2 ∙ e in
        let after : get_or (afters_of ls) g.0 0 ≡ l.after = get_or-afters ls g.0 ∙ ap (λ x. x.after) g.2 in
        let later : p < w.0 = A.walkable.ordered.rises g.0 g.1 p w.0 on w.1 (sym before) (w.2 ∙ sym after) in
        rw w.2 at (done w.0 (omega arith) w.1)

    pub turn_asks : ToTimeOne i ps ls walk.chains moments
    turn_asks = record {
      sound = A.sound;
      free = A.free;
      chained = A.walkable.chained;
      one = turn_inside;
      followers = follower;
    }

    pub turn_done : (r : ℤ) → r ≡ latest K i → length moments ≡ 256 → Done ps ls walk p (set moments i r)
    turn_done r is sized q h l = by_test (eqb q p)
        (λ e. let room : i < length moments = omega (arith, sized, turn_inside, A.sound.few_pieces) in
        rw (eqb-true q p e) (get_or-set_same moments i r (pos 0) room ∙ is))
        (λ e. get_or-set_other moments i (get_or walk.order q 0) r (pos 0)
        (λ z. eqb-false q p e (A.walkable.ordered.once q p l on z))
        ∙ done q (later q h (eqb-false q p e)) l)
      where
        later : (q : ℕ) → p ≤ q → (q ≡ p → ⊥) → suc p ≤ q
        later q h ne = omega arith

-- The lesser of two as the code takes it is the one of the rules.
pub int_min_is : (a b : ℤ) → int_min a b ≡ lesser_z a b
unfolding lesser_z
int_min_is a b = by_test (lt_z b a) (λ e. rw (e, when)) (λ e. rw (e, when))
