-- Chains: one key more at the end of its chain leaves the other chains as they are; and a chain is walked from its last
-- link back, past exactly the links with its key.
use Prim.Native.Nat.{ℕ, zero, suc, ◌+◌, ◌≤◌, ◌<◌}
use mathlib.Core.Bool.{Bool, true, false}
use mathlib.Core.List.{List}
use mathlib.Core.Logic.{◌⊎◌, inl, inr}
use mathlib.Core.Path.{◌≡◌, refl, sym, ap, ◌∙◌}
use native.Mathlib.Numerals.{add-one}
use native.Mathlib.Omega.{arith}
use borrow.Author.Tests.{eqb-true, eqb-false, ltb-true, ltb-false}
use lib.Dec.{eqb, ltb}
use lib.ListN.{length, get_or, set, length-set}
use lib.Seq.{get_or-set_same, get_or-set_other}
use Rattle.rules.specs.Words.{when}
use Rattle.laws.proofs.Words.{by_test, when_true, when_false}
use Rattle.links.specs.Chains.{last_with, Chained, ToChain}
use Rattle.links.proofs.Counting.{below_or_last}

pub chained_none : (keys : List ℕ) (n : ℕ) (last prior : List ℕ) → ToChain keys n last → length last ≡ 256
    → length prior ≡ 1024 → Chained keys 0 last prior
unfolding last_with
chained_none keys n last prior h last_sized prior_sized = record {
  last_sized = last_sized;
  prior_sized = prior_sized;
  ends = h.cleared;
  goes_on = λ k l. absurd (omega arith);
}

pub chained_more : (keys : List ℕ) (k : ℕ) (last prior : List ℕ) → Chained keys k last prior → get_or keys k 0 < 256
    → k < 1024
    → Chained keys (k + 1) (set last (get_or keys k 0) (k + 1)) (set prior k (get_or last (get_or keys k 0) 0))
unfolding last_with
chained_more keys k last prior h small room = rw add-one (record {
  last_sized = length-set last (get_or keys k 0) (suc k) ∙ h.last_sized;
  prior_sized = length-set prior k (get_or last (get_or keys k 0) 0) ∙ h.prior_sized;
  ends = λ i l. by_test (eqb (get_or keys k 0) i)
      (λ e. let q : get_or keys k 0 ≡ i = eqb-true _ i e in
      ap (λ x. get_or (set last x (suc k)) i 0) q ∙ get_or-set_same last i (suc k) 0 (omega (arith, h.last_sized))
      ∙ sym (when_true _ _ _ e))
      (λ e. get_or-set_other last (get_or keys k 0) i (suc k) 0 (λ q. eqb-false (get_or keys k 0) i e (sym q))
      ∙ h.ends i l ∙ sym (when_false _ _ _ e));
  goes_on = λ j l. by_test (ltb j k)
      (λ e. let m : j < k = ltb-true j k e in
      get_or-set_other prior k j (get_or last (get_or keys k 0) 0) 0 (λ q. absurd (omega (arith, q))) ∙ h.goes_on j m)
      (λ e. let q : j ≡ k = omega (arith, ltb-false j k e) in
      rw q (get_or-set_same prior k (get_or last (get_or keys k 0) 0) 0 (omega (arith, h.prior_sized))
      ∙ h.ends (get_or keys k 0) small));
})

-- A chain is walked from `last` on by `prior`. A link on it has the chain's key; the next on it stands at a lower
-- place; and no link with that key is passed over, so that whatever only such a link changes is carried along the chain.
module _ (keys : List ℕ) (i : ℕ) where
  pub chain_most : (n : ℕ) → last_with keys i n ≤ n
  unfolding last_with
  chain_most zero = omega arith
  chain_most (suc n) =
      let ih : last_with keys i n ≤ n = chain_most n in
      by_test (eqb (get_or keys n 0) i) (λ e. rw (e, when) (omega arith)) (λ e. rw (e, when) (omega arith))

  pub chain_key : (n k : ℕ) → last_with keys i n ≡ suc k → (k < n) × (get_or keys k 0 ≡ i)
  unfolding last_with when
  chain_key zero k h = absurd (omega arith)
  chain_key (suc n) k h = go (eqb (get_or keys n 0) i) refl h (λ g. chain_key n k g)
    where
      go : (b : Bool) → eqb (get_or keys n 0) i ≡ b → when b (suc n) (last_with keys i n) ≡ suc k
          → (last_with keys i n ≡ suc k → (k < n) × (get_or keys k 0 ≡ i)) → (k < suc n) × (get_or keys k 0 ≡ i)
      go true e g ih =
          let z : n ≡ k = omega arith in (omega arith, ap (λ x. get_or keys x 0) (sym z) ∙ eqb-true (get_or keys n 0) i e)
      go false e g ih = let w = ih g in (omega (arith, w.0), w.1)

  pub chain_skip : {A : Type 0} (g : ℕ → A) (n : ℕ)
      → ((k : ℕ) → k < n → (get_or keys k 0 ≡ i → ⊥) → g (suc k) ≡ g k) → g (last_with keys i n) ≡ g n
  unfolding last_with
  chain_skip g zero h = refl
  chain_skip g (suc n) h = by_test (eqb (get_or keys n 0) i)
      (λ e. ap g (when_true _ (suc n) (last_with keys i n) e))
      (λ e. ap g (when_false _ (suc n) (last_with keys i n) e) ∙ chain_skip g n (λ k l. h k (omega arith))
      ∙ sym (h n (omega arith) (eqb-false (get_or keys n 0) i e)))

  -- No place of such a key among the first n is behind the last.
  pub key_chain : (n k : ℕ) → k < n → get_or keys k 0 ≡ i → k < last_with keys i n
  unfolding last_with
  key_chain zero k l e = absurd (omega arith)
  key_chain (suc n) k l e = by_test (eqb (get_or keys n 0) i)
      (λ t. rw (t, when) (omega (arith, l)))
      (λ t. rw (t, when) (below_or_last k n l
      (λ o. key_chain n k o e)
      (λ o. absurd (eqb-false (get_or keys n 0) i t (ap (λ x. get_or keys x 0) (sym o) ∙ e)))))

-- A walk along the chain of i, before the link of the code `at`: the links of i from `bound` on are behind it.
pub record OnChain (keys : List ℕ) (i n at bound : ℕ) : Type 0 where
  pub within : bound ≤ n
  pub here_is : at ≡ last_with keys i bound

module _ {keys : List ℕ} {n : ℕ} {last prior : List ℕ} (C : Chained keys n last prior) {i : ℕ} where
  pub chain_start : (at : ℕ) → at ≡ get_or last i 0 → i < 256 → OnChain keys i n at n
  chain_start at e small = record { within = omega arith; here_is = e ∙ C.ends i small }

  pub on_most : {at bound : ℕ} → OnChain keys i n at bound → at ≤ n
  on_most {at} {bound} W = omega (arith, W.here_is, W.within, chain_most keys i bound)

  -- At the end of the chain all links of i are behind.
  pub on_last : {bound : ℕ} → OnChain keys i n 0 bound → (j : ℕ) → get_or keys j 0 ≡ i → bound ≤ j
  on_last {bound} W j e = by_test (ltb j bound)
      (λ l. absurd (omega (arith, W.here_is, key_chain keys i bound j (ltb-true j bound l) e)))
      (λ l. ltb-false j bound l)

  -- At link k: it is one of i's, and the first of those that are left.
  module _ {k bound : ℕ} (W : OnChain keys i n (suc k) bound) where
    pub on_link : (k < n) × (get_or keys k 0 ≡ i)
    on_link = let w = chain_key keys i bound k (sym W.here_is) in (omega (arith, w.0, W.within), w.1)

    next : get_or prior k 0 ≡ last_with keys i k
    next = C.goes_on k on_link.0 ∙ ap (λ x. last_with keys x k) on_link.1

    pub on_falls : get_or prior k 0 < suc k
    on_falls = omega (arith, next, chain_most keys i k)

    pub on_next : (at : ℕ) → at ≡ get_or prior k 0 → OnChain keys i n at k
    on_next at e = record { within = omega (arith, on_link.0); here_is = e ∙ next }

    -- Of the links of i that are not further on, it is the only one not behind.
    pub on_or_behind : (j : ℕ) → get_or keys j 0 ≡ i → k ≤ j → (j ≡ k) ⊎ (bound ≤ j)
    on_or_behind j e h = by_test (ltb j bound)
        (λ l. inl (omega (arith, W.here_is, key_chain keys i bound j (ltb-true j bound l) e)))
        (λ l. inr (ltb-false j bound l))
