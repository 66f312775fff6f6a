-- The open pieces while links are passed: a piece that waits for none any more is put behind them, and there is room for
-- it; the same pieces are open where the same wait for none.
use Prim.Native.Nat.{ℕ, suc, ◌+◌, ◌-◌, ◌≤◌, ◌<◌}
use mathlib.Core.Bool.{Bool, true}
use mathlib.Core.List.{List}
use mathlib.Core.Path.{◌≡◌, sym, ap, ◌∙◌}
use native.Mathlib.Omega.{arith}
use borrow.Author.Tests.{eqb-true, eqb-false, eq-eqb, ne_eqb, ltb-true, ltb-false}
use lib.Dec.{ltb, eqb}
use lib.ListN.{length, get_or, set, length-set}
use lib.Seq.{get_or-set_same, get_or-set_other}
use Rattle.laws.proofs.Words.{by_test}
use Rattle.links.specs.Links.{counted}
use Rattle.links.proofs.Counting.{counted_same, counted_one, counted_most}
use Rattle.links.specs.Queue.{Queue}
use Rattle.links.proofs.QueueLaws.{queue_most}
use Rattle.steps.specs.Opening.{Among, Opening, Room, Opens, Markable}

-- No more are open than there are pieces.
pub opened_few : (n opened : ℕ) (table place : List ℕ) (U : ℕ → Bool) (waits : List ℕ)
    → Opening n opened table place U waits → opened ≤ n
opened_few n opened table place U waits o =
    omega (arith, o.room, counted_most (λ i. eqb (get_or waits i 0) 0) n)

-- Piece a waits for one less.
module _ (n opened a : ℕ) (table place : List ℕ) (U : ℕ → Bool) (waits : List ℕ)
    (o : Opening n opened table place U waits) (few : n ≤ 256) (one : a < n) where
  abbrev fewer : List ℕ
  fewer = set waits a (get_or waits a 0 - 1)

  own : get_or fewer a 0 ≡ get_or waits a 0 - 1
  own = get_or-set_same waits a (get_or waits a 0 - 1) 0 (omega (arith, o.waits_sized))

  other : (i : ℕ) → (i ≡ a → ⊥) → get_or fewer i 0 ≡ get_or waits i 0
  other i ne = get_or-set_other waits a i (get_or waits a 0 - 1) 0 ne

  -- Who waits now waited before.
  waited : (i : ℕ) → 0 < get_or fewer i 0 → 0 < get_or waits i 0
  waited i h = by_test (eqb i a)
      (λ e. let z : i ≡ a = eqb-true i a e in rw z (omega (arith, own, rw z at h)))
      (λ e. rw (other i (eqb-false i a e)) at h)

  -- It waits on, or waited for none already.
  pub waits_on : (get_or waits a 0 ≡ 1 → ⊥) → Opening n opened table place U fewer
  waits_on ne = record {
    sized = o.sized;
    place_sized = o.place_sized;
    waits_sized = length-set waits a (get_or waits a 0 - 1) ∙ o.waits_sized;
    room = omega (
      arith,
      o.room,
      counted_same (λ i. eqb (get_or waits i 0) 0) (λ i. eqb (get_or fewer i 0) 0) n
          (λ i h. alike i),
    );
    inside = o.inside;
    idle = λ q h. eqb-true _ 0 (sym (alike (get_or table q 0)) ∙ eq-eqb _ 0 (o.idle q h));
    placed = o.placed;
    fresh = o.fresh;
    everyone = λ i h z u. o.everyone i h (eqb-true _ 0 (alike i ∙ eq-eqb _ 0 z)) u;
    whole = λ i h w. o.whole i h (waited i w);
  }
    where
      same : eqb (get_or waits a 0) 0 ≡ eqb (get_or waits a 0 - 1) 0
      same = by_test (eqb (get_or waits a 0) 0)
          (λ e. let z : get_or waits a 0 ≡ 0 = eqb-true (get_or waits a 0) 0 e in rw z)
          (λ e. let z = eqb-false (get_or waits a 0) 0 e in
          e ∙ sym (ne_eqb (get_or waits a 0 - 1) 0 (λ (y : get_or waits a 0 - 1 ≡ 0). ne (one_left y z))))
        where
          one_left : get_or waits a 0 - 1 ≡ 0 → (get_or waits a 0 ≡ 0 → ⊥) → get_or waits a 0 ≡ 1
          one_left y z = by_test (eqb (get_or waits a 0) 1)
              (λ f. eqb-true (get_or waits a 0) 1 f)
              (λ f. absurd (omega (arith, eqb-false (get_or waits a 0) 1 f)))

      alike : (i : ℕ) → eqb (get_or waits i 0) 0 ≡ eqb (get_or (set waits a (get_or waits a 0 - 1)) i 0) 0
      alike i = by_test (eqb i a)
          (λ e. rw (eqb-true i a e, own) same)
          (λ e. rw (other i (eqb-false i a e)))

  -- It waited for this one last, and is put behind the others.
  module _ (last : get_or waits a 0 ≡ 1) where
    free : get_or fewer a 0 ≡ 0
    free = own ∙ omega arith

    one_more : counted (λ i. eqb (get_or fewer i 0) 0) n ≡ suc (counted (λ i. eqb (get_or waits i 0) 0) n)
    one_more =
        counted_one (λ i. eqb (get_or waits i 0) 0) (λ i. eqb (get_or fewer i 0) 0) n a one
        (λ i h ne. ap (λ x. eqb x 0) (sym (other i ne)))
        (ne_eqb (get_or waits a 0) 0 (λ (z : get_or waits a 0 ≡ 0). omega arith)) (eq-eqb (get_or fewer a 0) 0 free)

    pub place_left : opened < n
    place_left = omega (arith, o.room, one_more, counted_most (λ i. eqb (get_or fewer i 0) 0) n)

    behind : get_or (set table opened a) opened 0 ≡ a
    behind = get_or-set_same table opened a 0 (omega (arith, o.sized, place_left))

    earlier : (q : ℕ) → q < opened → get_or (set table opened a) q 0 ≡ get_or table q 0
    earlier q h = get_or-set_other table opened q a 0 (λ (z : q ≡ opened). omega arith)

    still : (i : ℕ) → get_or waits i 0 ≡ 0 → get_or fewer i 0 ≡ 0
    still i z = by_test (eqb i a)
        (λ e. rw (eqb-true i a e) free)
        (λ e. other i (eqb-false i a e) ∙ z)

    each : (P : ℕ → Type 0) → ((q : ℕ) → q < opened → P (get_or table q 0)) → P a
        → (q : ℕ) → q < opened + 1 → P (get_or (set table opened a) q 0)
    each P f g q h = by_test (ltb q opened)
        (λ e. let l = ltb-true q opened e in rw (earlier q l) (f q l))
        (λ e. let z : q ≡ opened = omega (arith, ltb-false q opened e) in rw (z, behind) g)

    -- Its place is noted, and the others keep theirs, since it was not among them.
    place_last : get_or (set place a opened) a 0 ≡ opened
    place_last = get_or-set_same place a opened 0 (omega (arith, o.place_sized))

    place_same : (q : ℕ) → q < opened → get_or (set place a opened) (get_or table q 0) 0 ≡ q
    place_same q h =
        get_or-set_other place a (get_or table q 0) opened 0 (λ z. absurd (omega (arith, rw z at (o.idle q h)))) ∙ o.placed q h

    pub opens : Opening n (opened + 1) (set table opened a) (set place a opened) U fewer
    opens = record {
      sized = length-set table opened a ∙ o.sized;
      place_sized = length-set place a opened ∙ o.place_sized;
      waits_sized = length-set waits a (get_or waits a 0 - 1) ∙ o.waits_sized;
      room = omega (arith, o.room, one_more);
      inside = each (λ i. i < n) o.inside one;
      placed = λ q h. by_test (ltb q opened)
          (λ e. let l = ltb-true q opened e in rw (earlier q l) (place_same q l))
          (λ e. let z : q ≡ opened = omega (arith, ltb-false q opened e) in rw (z, behind) place_last);
      fresh = each (λ i. U i ≡ true) o.fresh (o.whole a one (omega arith));
      whole = λ i h w. o.whole i h (waited i w);
      idle = each (λ i. get_or fewer i 0 ≡ 0) (λ q h. still (get_or table q 0) (o.idle q h)) free;
      everyone = λ i h z u. by_test (eqb i a)
          (λ e. (opened, omega arith, behind ∙ sym (eqb-true i a e)))
          (λ e. let m = o.everyone i h (sym (other i (eqb-false i a e)) ∙ z) u in
          (m.0, omega (arith, m.1), earlier m.0 m.1 ∙ m.2));
    }

    pub opened_stays : (j : ℕ) → Among table opened j → Among (set table opened a) (opened + 1) j
    opened_stays j m = (m.0, omega (arith, m.1), earlier m.0 m.1 ∙ m.2)

-- What link k opens, by the piece after it and what that waits for now.
module _ (m opened : ℕ) (afters table place waits : List ℕ) (a w : ℕ) (is : a ≡ get_or afters m 0)
    (fewer_is : w ≡ get_or waits a 0 - 1) where
  pub link_waits : (get_or waits a 0 ≡ 1 → ⊥)
      → Opens (m + 1) afters opened table place waits opened table place (set waits a w)
  link_waits ne = record {
    opening = λ n U few one o. rw fewer_is
        (waits_on n opened a table place U waits o few (rw is (one m (omega arith))) ne);
    stays = λ j q. q;
  }

  pub link_opens : Room (m + 1) afters opened table place waits → get_or waits a 0 ≡ 1
      → Opens (m + 1) afters opened table place waits (opened + 1) (set table opened a) (set place a opened) (set waits a w)
  link_opens r e = record {
    opening = λ n U few one o. rw fewer_is (opens n opened a table place U waits o few (rw is (one m (omega arith))) e);
    stays = opened_stays r.pieces opened a table place r.among waits r.opening r.few (rw is (r.after_one m (omega arith))) e;
  }

  pub room_left : Room (m + 1) afters opened table place waits → get_or waits a 0 ≡ 1 → opened < 256
  room_left r e =
      omega (
        arith,
        r.few,
        place_left r.pieces opened a table place r.among waits r.opening r.few (rw is (r.after_one m (omega arith))) e,
      )

-- At first those that wait for none are open, if every piece is unfinished.
pub markable : (n opened : ℕ) (table place waits : List ℕ) → n ≤ 256 → length place ≡ 256 → Queue n opened table waits
    → Markable opened table place
markable n opened table place waits few sized q = record {
  sized = sized;
  few = omega (arith, queue_most n opened table waits q);
  small = λ k h. omega (arith, q.inside k h);
  once = q.once;
}

pub opening_first : (n opened : ℕ) (table place waits : List ℕ) (U : ℕ → Bool) → ((i : ℕ) → i < n → U i ≡ true)
    → length place ≡ 256 → ((q : ℕ) → q < opened → get_or place (get_or table q 0) 0 ≡ q) → Queue n opened table waits
    → Opening n opened table place U waits
opening_first n opened table place waits U all sized placed q = record {
  sized = q.order_sized;
  place_sized = sized;
  waits_sized = q.waits_sized;
  room = omega (arith, q.as_many);
  inside = q.inside;
  placed = placed;
  idle = q.idle;
  fresh = λ k h. all _ (q.inside k h);
  everyone = λ i h z u. q.everyone i h z;
  whole = λ i h w. all i h;
}

-- Links passed one after the other, and of the first k links those of the first m.
pub opens_none : (m : ℕ) (afters : List ℕ) (opened : ℕ) (table place waits : List ℕ)
    → Opens m afters opened table place waits opened table place waits
opens_none m afters opened table place waits = record { opening = λ n U few one o. o; stays = λ j m. m }

pub opens_then : (m k : ℕ) (afters : List ℕ) (opened opened₂ opened₃ : ℕ)
    (table place waits table₂ place₂ waits₂ table₃ place₃ waits₃ : List ℕ) → k ≤ m
    → Opens m afters opened table place waits opened₂ table₂ place₂ waits₂
    → Opens k afters opened₂ table₂ place₂ waits₂ opened₃ table₃ place₃ waits₃
    → Opens m afters opened table place waits opened₃ table₃ place₃ waits₃
opens_then m k afters opened opened₂ opened₃ table place waits table₂ place₂ waits₂ table₃ place₃ waits₃ h f g = record {
  opening = λ n U few one o. g.opening n U few (λ j l. one j (omega arith)) (f.opening n U few one o);
  stays = λ j m. g.stays j (f.stays j m);
}

pub room_then : (m k : ℕ) (afters : List ℕ) (opened opened₂ : ℕ) (table place waits table₂ place₂ waits₂ : List ℕ) → k ≤ m
    → Opens m afters opened table place waits opened₂ table₂ place₂ waits₂ → Room m afters opened table place waits
    → Room k afters opened₂ table₂ place₂ waits₂
room_then m k afters opened opened₂ table place waits table₂ place₂ waits₂ h f r = record {
  pieces = r.pieces;
  among = r.among;
  few = r.few;
  after_one = λ j l. r.after_one j (omega arith);
  opening = f.opening r.pieces r.among r.few r.after_one r.opening;
}

-- The same pieces are unfinished, said otherwise.
pub opening_alike : (n opened : ℕ) (table place : List ℕ) (U U' : ℕ → Bool) (waits : List ℕ)
    → ((i : ℕ) → i < n → U' i ≡ U i) → Opening n opened table place U waits → Opening n opened table place U' waits
opening_alike n opened table place U U' waits e o = record {
  sized = o.sized;
  place_sized = o.place_sized;
  waits_sized = o.waits_sized;
  room = o.room;
  inside = o.inside;
  placed = o.placed;
  idle = o.idle;
  fresh = λ q h. e (get_or table q 0) (o.inside q h) ∙ o.fresh q h;
  everyone = λ i h z u. o.everyone i h z (sym (e i h) ∙ u);
  whole = λ i h w. e i h ∙ o.whole i h w;
}
