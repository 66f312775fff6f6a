-- The table of the desks that work: a desk that nobody asked for yet joins it, and there is room for it; a desk that is
-- in it stays where it is when another choice is made there. It is noted behind the last one either way.
use Prim.Native.Nat.{ℕ, suc, ◌+◌, ◌≤◌, ◌<◌}
use mathlib.Core.List.{List}
use mathlib.Core.Path.{◌≡◌, refl, sym, ap, ◌∙◌}
use native.Mathlib.Omega.{arith}
use borrow.Author.Tests.{eqb-true, eqb-false, ltb-true, ltb-false, lt-ltb, le-ltb}
use lib.Dec.{ltb, eqb}
use lib.ListN.{length, get_or, set, length-set}
use lib.Seq.{get_or-set_same, get_or-set_other}
use Rattle.laws.proofs.Words.{by_test}
use Rattle.links.specs.Links.{counted}
use Rattle.links.proofs.Counting.{counted_same, counted_one, counted_none, counted_most}
use Rattle.steps.specs.Opening.{Among}
use Rattle.deciding.specs.Look.{Asked}

-- No more desks are asked for than there are.
pub busy_few : (nobody count : ℕ) (best busy : List ℕ) → Asked nobody count best busy → count ≤ 32
busy_few nobody count best busy b =
    omega (arith, b.as_many, counted_most (λ d. ltb (get_or best d 0) nobody) 32)

-- Nobody asked for a desk yet.
pub busy_none : (nobody : ℕ) (best busy : List ℕ) → length best ≡ 32 → length busy ≡ 33
    → ((d : ℕ) → d < 32 → get_or best d 0 ≡ nobody) → Asked nobody 0 best busy
busy_none nobody best busy a b h = record {
  best_sized = a;
  busy_sized = b;
  as_many = counted_none (λ d. ltb (get_or best d 0) nobody) 32
      (λ d l. le-ltb (get_or best d 0) nobody (omega (arith, h d l)));
  desk_most = λ k l. absurd (omega arith);
  someone = λ k l. absurd (omega arith);
  once = λ p q l. absurd (omega arith);
  everyone = λ d l w. absurd (omega (arith, h d l));
}

-- Desk d chooses i.
module _ (nobody count : ℕ) (best busy : List ℕ) (b : Asked nobody count best busy) (d i : ℕ) (on : d < 32)
    (small : i < nobody) where
  pub at-desk : get_or (set best d i) d 0 ≡ i
  at-desk = get_or-set_same best d i 0 (omega (arith, b.best_sized))

  pub at_other : (e : ℕ) → (e ≡ d → ⊥) → get_or (set best d i) e 0 ≡ get_or best e 0
  at_other e ne = get_or-set_other best d e i 0 ne

  somebody : (e : ℕ) → get_or best e 0 < nobody → get_or (set best d i) e 0 < nobody
  somebody e h = by_test (eqb e d)
      (λ z. rw (eqb-true e d z, at-desk) small)
      (λ z. rw (at_other e (eqb-false e d z)) h)

  earlier : (k : ℕ) → k < count → get_or (set busy count d) k 0 ≡ get_or busy k 0
  earlier k h = get_or-set_other busy count k d 0 (λ (z : k ≡ count). omega arith)

  -- Somebody asked for it before.
  pub busy_again : get_or best d 0 < nobody → Asked nobody count (set best d i) (set busy count d)
  busy_again h = record {
    best_sized = length-set best d i ∙ b.best_sized;
    busy_sized = length-set busy count d ∙ b.busy_sized;
    as_many = counted_same (λ e. ltb (get_or (set best d i) e 0) nobody) (λ e. ltb (get_or best e 0) nobody) 32
        (λ e l. by_test (eqb e d)
        (λ z. rw (eqb-true e d z, at-desk) (lt-ltb i nobody small ∙ sym (lt-ltb (get_or best d 0) nobody h)))
        (λ z. rw (at_other e (eqb-false e d z))))
        ∙ b.as_many;
    desk_most = λ k l. rw (earlier k l) (b.desk_most k l);
    someone = λ k l. rw (earlier k l) (somebody (get_or busy k 0) (b.someone k l));
    once = λ p q l m. rw (earlier p l, earlier q m) (b.once p q l m);
    everyone = λ e l w. there (by_test (eqb e d)
        (λ z. rw (eqb-true e d z) (b.everyone d on h))
        (λ z. b.everyone e l (rw (at_other e (eqb-false e d z)) at w)));
  }
    where
      there : {e : ℕ} → Among busy count e → Among (set busy count d) count e
      there m = (m.0, m.1, earlier m.0 m.1 ∙ m.2)

  -- Nobody asked for it.
  module _ (free : nobody ≤ get_or best d 0) where
    one_more : counted (λ e. ltb (get_or (set best d i) e 0) nobody) 32 ≡ suc count
    one_more =
        counted_one (λ e. ltb (get_or best e 0) nobody) (λ e. ltb (get_or (set best d i) e 0) nobody) 32 d on
        (λ e l ne. ap (λ x. ltb x nobody) (sym (at_other e ne)))
        (le-ltb (get_or best d 0) nobody free) (rw at-desk (lt-ltb i nobody small))
        ∙ ap suc b.as_many

    last : get_or (set busy count d) count 0 ≡ d
    last = get_or-set_same busy count d 0 (omega (arith, b.busy_sized, busy_few nobody count best busy b))

    -- It was in no place so far.
    new : (k : ℕ) → k < count → get_or busy k 0 ≡ d → ⊥
    new k h z = omega (arith, rw z at (b.someone k h))

    each : {P : ℕ → Type 0} → ((k : ℕ) → k < count → P k) → P count → (k : ℕ) → k < count + 1 → P k
    each f g k h = by_test (ltb k count)
        (λ e. f k (ltb-true k count e))
        (λ e. let z : k ≡ count = omega (arith, ltb-false k count e) in rw z g)

    pub busy_more : Asked nobody (count + 1) (set best d i) (set busy count d)
    busy_more = record {
      best_sized = length-set best d i ∙ b.best_sized;
      busy_sized = length-set busy count d ∙ b.busy_sized;
      as_many = omega (arith, one_more);
      desk_most = each (λ k h. rw (earlier k h) (b.desk_most k h)) (rw last on);
      someone = each (λ k h. rw (earlier k h) (somebody (get_or busy k 0) (b.someone k h)))
          (rw (last, at-desk) small);
      once = λ p q h k. each
          (λ p h. each {P = λ q. get_or (set busy count d) p 0 ≡ get_or (set busy count d) q 0 → p ≡ q}
          (λ q k. rw (earlier p h, earlier q k) (b.once p q h k))
          (rw (earlier p h, last) (λ z. absurd (new p h z))) q k)
          (each {P = λ q. get_or (set busy count d) count 0 ≡ get_or (set busy count d) q 0 → count ≡ q}
          (λ q k. rw (earlier q k, last) (λ z. absurd (new q k (sym z))))
          (λ z. refl) q k)
          p h;
      everyone = λ e l w. by_test (eqb e d)
          (λ z. (count, omega arith, last ∙ sym (eqb-true e d z)))
          (λ z. let m = b.everyone e l (rw (at_other e (eqb-false e d z)) at w) in
          (m.0, omega (arith, m.1), earlier m.0 m.1 ∙ m.2));
    }
