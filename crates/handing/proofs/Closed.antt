-- A piece taken out of the table of the open pieces: the last comes to its place.
use Prim.Native.Nat.{ℕ, ◌-◌, ◌≤◌, ◌<◌}
use mathlib.Core.Bool.{Bool, true, false}
use mathlib.Core.List.{List}
use mathlib.Core.Path.{◌≡◌, refl, sym, ap, ◌∙◌}
use native.Mathlib.Omega.{arith}
use borrow.Author.Tests.{eqb-true, eqb-false, eq-eqb, ne_eqb}
use lib.Dec.{eqb}
use lib.ListN.{get_or, set, length-set}
use lib.Seq.{get_or-set_same, get_or-set_other}
use Rattle.rules.specs.Words.{when}
use Rattle.laws.proofs.Words.{by_test, true_or_false, when_true, when_false}
use Rattle.steps.specs.Opening.{Among, Opening, Room, Closable, Closes}
use Rattle.handing.proofs.Opened.{opened_few, opening_alike}

-- A number below another that is not the one before it is below that.
lower : (q k : ℕ) → q < k → (q ≡ k - 1 → ⊥) → q < k - 1
lower q k h ne = by_test (eqb q (k - 1))
    (λ e. absurd (ne (eqb-true q (k - 1) e)))
    (λ e. omega (arith, eqb-false q (k - 1) e))

module _ (n i opened : ℕ) (table place : List ℕ) (U : ℕ → Bool) (waits : List ℕ)
    (o : Opening n opened table place U waits) (few : n ≤ 256) (there : Among table opened i) where
  -- Its place, and the piece that comes to it.
  abbrev p : ℕ
  p = get_or place i 0

  abbrev last : ℕ
  last = get_or table (opened - 1) 0

  its_place : p ≡ there.0
  its_place = ap (λ x. get_or place x 0) (sym there.2) ∙ o.placed there.0 there.1

  pub p_in : p < opened
  p_in = omega (arith, its_place, there.1)

  at_p : get_or table p 0 ≡ i
  at_p = ap (λ q. get_or table q 0) its_place ∙ there.2

  pub i_in : i < n
  i_in = rw there.2 at (o.inside there.0 there.1)

  pub last_in : last < n
  last_in = o.inside (opened - 1) (omega (arith, p_in))

  here : get_or (set table p last) p 0 ≡ last
  here = get_or-set_same table p last 0 (omega (arith, o.sized, p_in, few, opened_few n opened table place U waits o))

  elsewhere : (q : ℕ) → (q ≡ p → ⊥) → get_or (set table p last) q 0 ≡ get_or table q 0
  elsewhere q ne = get_or-set_other table p q last 0 ne

  -- The others stay.
  stays : (j : ℕ) → Among table opened j → (j ≡ i → ⊥) → Among (set table p last) (opened - 1) j
  stays j m ne =
      let off : m.0 ≡ p → ⊥ = λ z. ne (sym m.2 ∙ ap (λ q. get_or table q 0) z ∙ at_p) in
      by_test (eqb m.0 (opened - 1))
      (λ e. let z : m.0 ≡ opened - 1 = eqb-true m.0 (opened - 1) e in (
        p,
        lower p opened p_in (λ y. off (z ∙ sym y)),
        here ∙ ap (λ q. get_or table q 0) (sym z) ∙ m.2,
      ))
      (λ e. (m.0, lower m.0 opened m.1 (eqb-false m.0 (opened - 1) e), elsewhere m.0 off ∙ m.2))

  -- What holds of every open piece holds of those that are left.
  each : (P : ℕ → Type 0) → ((q : ℕ) → q < opened → (get_or table q 0 ≡ i → ⊥) → P (get_or table q 0)) → (q : ℕ)
      → q < opened - 1 → P (get_or (set table p last) q 0)
  each P f q h = by_test (eqb q p)
      (λ e. let z : q ≡ p = eqb-true q p e in
      rw (z, here) (f (opened - 1) (omega arith) (λ y. apart (opened - 1) q (omega arith) z (omega arith) y)))
      (λ e. let ne = eqb-false q p e in
      rw (elsewhere q ne) (f q (omega arith) (λ y. ne (sym (o.placed q (omega arith)) ∙ ap (λ x. get_or place x 0) y))))
    where
      apart : (r q : ℕ) → r < opened → q ≡ p → q < r → get_or table r 0 ≡ i → ⊥
      apart r q a z l y = omega (arith, sym (o.placed r a) ∙ ap (λ x. get_or place x 0) y)

  -- Their places.
  new_place : get_or (set place last p) last 0 ≡ p
  new_place = get_or-set_same place last p 0 (omega (arith, o.place_sized, last_in, few))

  old_place : (q : ℕ) → q < opened - 1 → get_or (set place last p) (get_or table q 0) 0 ≡ q
  old_place q h =
      get_or-set_other place last (get_or table q 0) p 0 (λ z. absurd (omega (
        arith,
        sym (o.placed q (omega arith)) ∙ ap (λ x. get_or place x 0) z ∙ o.placed (opened - 1) (omega arith),
      )))
      ∙ o.placed q (omega arith)

  closed : (U' : ℕ → Bool) → ((j : ℕ) → (j ≡ i → ⊥) → U' j ≡ U j) → U' i ≡ false
      → Opening n (opened - 1) (set table p last) (set place last p) U' waits
  closed U' same gone = record {
    sized = length-set table p last ∙ o.sized;
    place_sized = length-set place last p ∙ o.place_sized;
    waits_sized = o.waits_sized;
    room = omega (arith, o.room);
    inside = each (λ x. x < n) (λ q h ne. o.inside q h);
    placed = λ q h. by_test (eqb q p)
        (λ e. let z : q ≡ p = eqb-true q p e in rw (z, here) new_place)
        (λ e. rw (elsewhere q (eqb-false q p e)) (old_place q h));
    idle = each (λ x. get_or waits x 0 ≡ 0) (λ q h ne. o.idle q h);
    fresh = each (λ x. U' x ≡ true) (λ q h ne. same (get_or table q 0) ne ∙ o.fresh q h);
    everyone = λ j h z u. by_test (eqb j i)
        (λ e. true_or_false (sym u ∙ ap U' (eqb-true j i e) ∙ gone))
        (λ e. let ne = eqb-false j i e in stays j (o.everyone j h z (sym (same j ne) ∙ u)) ne);
    whole = λ j h w. by_test (eqb j i)
        (λ e. absurd (omega (arith, rw there.2 at (o.idle there.0 there.1), rw (eqb-true j i e) at w)))
        (λ e. same j (eqb-false j i e) ∙ o.whole j h w);
  }

-- The same, whatever the number of pieces.
pub closes : (i opened : ℕ) (table place : List ℕ) → Closable i opened table place
    → Closes i opened table place (opened - 1) (set table (get_or place i 0) (get_or table (opened - 1) 0))
    (set place (get_or table (opened - 1) 0) (get_or place i 0))
closes i opened table place c = record {
  opening = λ n U U' waits few same gone o. closed n i opened table place U waits o few c.there U' same gone;
  stays = stays c.pieces i opened table place c.among c.waits c.opening c.few c.there;
}

-- It is not finished after all: the table is right as it is.
pub still_open : (n i opened : ℕ) (table place : List ℕ) (U U' : ℕ → Bool) (waits : List ℕ) → Among table opened i
    → ((j : ℕ) → (j ≡ i → ⊥) → U' j ≡ U j) → U' i ≡ true → Opening n opened table place U waits
    → Opening n opened table place U' waits
still_open n i opened table place U U' waits m same is o = opening_alike n opened table place U U' waits
    (λ j h. by_test (eqb j i)
    (λ e. rw (eqb-true j i e) (is ∙ sym (rw m.2 at (o.fresh m.0 m.1))))
    (λ e. same j (eqb-false j i e)))
    o

-- It is closed, and there is room for what its links open.
pub closed_room : (m : ℕ) (afters : List ℕ) (i opened opened' : ℕ) (table place waits table' place' : List ℕ)
    → Closes i opened table place opened' table' place' → Room m afters opened table place waits
    → Room m afters opened' table' place' waits
closed_room m afters i opened opened' table place waits table' place' c r =
    let U : ℕ → Bool = r.among in
    record {
      pieces = r.pieces;
      among = λ j. when (eqb j i) false (U j);
      few = r.few;
      after_one = r.after_one;
      opening = c.opening r.pieces U (λ j. when (eqb j i) false (U j)) waits r.few
          (λ j ne. when_false (eqb j i) false (U j) (ne_eqb j i ne)) (when_true (eqb i i) false (U i) (eq-eqb i i refl))
          r.opening;
    }
