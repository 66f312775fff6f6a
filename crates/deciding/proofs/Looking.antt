-- One open piece more looked at: it is to be ready later, or its key is put up for its desk.
use Prim.Native.Nat.{ℕ, ◌+◌, ◌≤◌, ◌<◌, min}
use mathlib.Core.List.{List}
use mathlib.Core.Logic.{◌⊎◌, inl, inr}
use mathlib.Core.Path.{◌≡◌, refl, sym, ◌∙◌}
use native.Mathlib.Omega.{arith}
use borrow.Author.Tests.{eqb-true, eqb-false, ltb-true, ltb-false}
use lib.Dec.{ltb, eqb}
use lib.ListN.{length, get_or, set}
use Rattle.rules.specs.Words.{when}
use Rattle.laws.proofs.Words.{by_test, when_true, when_false}
use Rattle.steps.specs.Choice.{View, never, Asks, Best}
use Rattle.steps.specs.Keys.{no_key}
use Rattle.steps.specs.Opening.{Among}
use Rattle.deciding.specs.Look.{Asked, Least, Looked, Picks, picks, offered}
use Rattle.deciding.proofs.Desks.{at-desk, at_other, busy_none, busy_again, busy_more}

-- None looked at.
pub looked_none : (v : View) (table best busy : List ℕ) → length best ≡ 32 → length busy ≡ 33
    → ((d : ℕ) → d < 32 → get_or best d 0 ≡ no_key) → Looked v (Among table 0) 0 best busy never
unfolding Least
looked_none v table best busy a b h = record {
  least = λ d l. inl (h d l, λ j m. absurd (omega (arith, m.1)));
  working = busy_none no_key best busy a b h;
  later = record {
    most = omega arith;
    above = λ l. l;
    counts = λ j m. absurd (omega (arith, m.1));
    from = inl refl;
  };
}

-- The pieces of T are those of S, and piece i.
module _ (v : View) (S T : ℕ → Type 0) (up : (j : ℕ) → S j → T j) where
  -- Piece i does not ask for desk d.
  passed_over : (d k : ℕ) → ((j : ℕ) → T j → Asks v T d j → S j) → Least v S d k → Least v T d k
  unfolding Least
  passed_over d k down (inl w) = inl (w.0, λ j m a. w.1 j (down j m a) a)
  passed_over d k down (inr (x, e, b)) = inr (
    x,
    e,
    record {
      inside = up x b.inside;
      asks = b.asks;
      first = λ j m a. b.first j (down j m a) a;
    },
  )

  module _ (i : ℕ) (own : T i) (split : (j : ℕ) → T j → S j ⊎ (j ≡ i)) where
    -- All but i are of S.
    older : (P : ℕ → Type 0) (j : ℕ) → T j → (S j → P j) → P i → P j
    older P j m f g = go (split j m)
      where
        go : S j ⊎ (j ≡ i) → P j
        go (inl s) = f s
        go (inr e) = rw e g

    -- It is to be ready later.
    pub looked_later : (count : ℕ) (best busy : List ℕ) (next r : ℕ) → v.moment < get_or v.ready i 0
        → r ≡ min next (get_or v.ready i 0) → Looked v S count best busy next → Looked v T count best busy r
    looked_later count best busy next r late e l = record {
      least = λ d h. passed_over d (get_or best d 0)
          (λ j m. older (λ j. Asks v T d j → S j) j m (λ s a. s) (λ a. absurd (omega (arith, a.1)))) (l.least d h);
      working = l.working;
      later = record {
        most = omega (arith, l.later.most);
        above = λ h. omega (arith, l.later.above h);
        counts = λ j m. older (λ j. v.moment < get_or v.ready j 0 → r ≤ get_or v.ready j 0) j m
            (λ s h. omega (arith, l.later.counts j s h)) (λ h. omega arith);
        from = inr (i, own);
      };
    }

    -- It is ready, and its key is put up for its desk.
    module _ (d : ℕ) (on : d < 32) (is : get_or v.desks i 0 ≡ d) (now : get_or v.ready i 0 ≤ v.moment)
        (keyed : (j : ℕ) → T j → get_or v.keys j 0 < no_key) where
      abbrev key : ℕ
      key = get_or v.keys i 0

      -- Who asks for another desk is not i.
      other_desk : (e : ℕ) → (e ≡ d → ⊥) → (k : ℕ) → Least v S e k → Least v T e k
      other_desk e ne k c =
          passed_over e k (λ j m. older (λ j. Asks v T e j → S j) j m (λ s a. s) (λ a. absurd (ne (sym a.0 ∙ is)))) c

      -- It goes first of all that ask for the desk, where those before it do not.
      goes_first : ((j : ℕ) → S j → Asks v T d j → key ≤ get_or v.keys j 0) → Best v T d i
      goes_first f = record {
        inside = own;
        asks = (is, now);
        first = λ j m. older (λ j. Asks v T d j → key ≤ get_or v.keys j 0) j m (f j) (λ a. omega arith);
      }

      -- The lesser key stays.
      lesser_stays : (k : ℕ) → Least v S d k → Least v T d (min k key)
      unfolding Least
      lesser_stays k (inl w) =
          let e : min k key ≡ key = omega (arith, w.0, keyed i own) in
          inr (i, e, goes_first (λ j s a. absurd (w.1 j s a)))
      lesser_stays k (inr (x, e, b)) = by_test (ltb key k)
          (λ q. let z : min k key ≡ key = omega (arith, ltb-true key k q) in
          inr (i, z, goes_first (λ j s a. omega (arith, ltb-true key k q, e, b.first j s a))))
          (λ q. let z : min k key ≡ k = omega (arith, ltb-false key k q) in inr (
            x,
            z ∙ e,
            record {
              inside = up x b.inside;
              asks = b.asks;
              first = λ j m. older (λ j. Asks v T d j → get_or v.keys x 0 ≤ get_or v.keys j 0) j m
                  (λ s a. b.first j s a) (λ a. omega (arith, ltb-false key k q, e));
            },
          ))

      -- A least key is nobody's or below.
      some_key : (k : ℕ) → Least v S d k → (k ≡ no_key → ⊥) → k < no_key
      unfolding Least
      some_key k (inl w) ne = absurd (ne w.0)
      some_key k (inr (x, e, b)) ne = omega (arith, e, keyed x (up x b.inside))

      module _ (count : ℕ) (best busy : List ℕ) (next : ℕ) (l : Looked v S count best busy next) where
        abbrev lesser : ℕ
        lesser = min (get_or best d 0) key

        small : lesser < no_key
        small = omega (arith, keyed i own)

        still_working : (r : ℕ) → r ≡ when (eqb (get_or best d 0) no_key) (count + 1) count
            → Asked no_key r (set best d lesser) (set busy count d)
        unfolding when
        still_working r q = by_test (eqb (get_or best d 0) no_key)
            (λ e. rw (q ∙ when_true _ _ _ e)
            (busy_more no_key count best busy l.working d lesser on small (omega (arith, eqb-true (get_or best d 0) no_key e))))
            (λ e. rw (q ∙ when_false _ _ _ e)
            (busy_again no_key count best busy l.working d lesser on small
            (some_key (get_or best d 0) (l.least d on) (eqb-false (get_or best d 0) no_key e))))

        pub looked_offered : (p : Picks) → p ≡ offered key d (picks count best busy)
            → Looked v T p.count p.best p.busy next
        unfolding offered
        looked_offered p q = rw q (record {
          least = λ e h. by_test (eqb e d)
              (λ z. rw (eqb-true e d z, at-desk no_key count best busy l.working d lesser on small)
              (lesser_stays (get_or best d 0) (l.least d on)))
              (λ z. let ne = eqb-false e d z in
              rw (at_other no_key count best busy l.working d lesser on small e ne)
              (other_desk e ne (get_or best e 0) (l.least e h)));
          working = still_working _ refl;
          later = record {
            most = l.later.most;
            above = l.later.above;
            counts = λ j m. older (λ j. v.moment < get_or v.ready j 0 → next ≤ get_or v.ready j 0) j m
                (λ s. l.later.counts j s) (λ h. absurd (omega arith));
            from = inr (i, own);
          };
        })
