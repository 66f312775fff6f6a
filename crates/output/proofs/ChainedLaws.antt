-- Chains of runs. One run more at the front of its chain leaves the other chains as they are. A chain is walked past
-- exactly the runs of its desk, so whatever the others leave as it is goes along.
use Prim.Native.Nat.{ℕ, zero, suc, ◌+◌, ◌-◌, ◌≤◌, ◌<◌}
use mathlib.Core.Bool.{true, false}
use mathlib.Core.List.{List}
use mathlib.Core.Path.{◌≡◌, refl, sym, ap, subst, ◌∙◌}
use native.Mathlib.Numerals.{add-one}
use native.Mathlib.Omega.{arith}
use borrow.Author.Tests.{eqb-true, eqb-false, ltb-true, ltb-false}
use lib.Dec.{eqb, ltb}
use lib.ListN.{get_or, set, length-set, replicate, get_or-replicate}
use lib.Seq.{get_or-set_same, get_or-set_other}
use Rattle.rules.specs.Words.{when}
use Rattle.laws.proofs.Words.{by_test, when_true, when_false}
use Rattle.output.specs.Chained.{desk_at, next_run, RunsChained}

-- How much of a log is left from the run that a chain has come to; nothing at its end.
abbrev pub ahead : ℕ → ℕ → ℕ
ahead count zero = 0
ahead count (suc k) = count - k

module _ (desks pieces : List ℕ) where
  none_from : (d left k : ℕ) → left ≡ 0 → next_run desks pieces d left k ≡ 0
  unfolding next_run
  none_from d left k e = rw e

  some_from : (d left k l : ℕ) → left ≡ suc l →
      next_run desks pieces d left k ≡ when (eqb (desk_at desks pieces k) d) (k + 1) (next_run desks pieces d l (k + 1))
  unfolding next_run
  some_from d left k l e = rw e

  pub no_run_chained : (count : ℕ) → RunsChained desks pieces count count (replicate 256 0) (replicate 512 0)
  no_run_chained count = record {
    first_sized = refl;
    later_sized = refl;
    begins = λ d l. get_or-replicate 256 d 0 0 l ∙ sym (none_from d (count - count) count (omega arith));
    goes_on = λ j a b. absurd (omega arith);
  }

  pub one_run_chained : (count k : ℕ) (first later : List ℕ) → k < count → count ≤ 512 → desk_at desks pieces k < 256 →
      RunsChained desks pieces count (k + 1) first later →
      RunsChained desks pieces count k (set first (desk_at desks pieces k) (k + 1))
      (set later k (get_or first (desk_at desks pieces k) 0))
  one_run_chained count k first later here few small h =
      let own = desk_at desks pieces k in
      let one : count - k ≡ suc (count - (k + 1)) = omega arith in
      record {
        first_sized = length-set first own (k + 1) ∙ h.first_sized;
        later_sized = length-set later k (get_or first own 0) ∙ h.later_sized;
        begins = λ d l. by_test (eqb own d)
            (λ e. ap (λ x. get_or (set first x (k + 1)) d 0) (eqb-true own d e)
            ∙ get_or-set_same first d (k + 1) 0 (omega (arith, h.first_sized))
            ∙ sym (some_from d (count - k) k _ one ∙ when_true _ _ _ e))
            (λ e. get_or-set_other first own d (k + 1) 0 (λ q. eqb-false own d e (sym q)) ∙ h.begins d l
            ∙ sym (some_from d (count - k) k _ one ∙ when_false _ _ _ e));
        goes_on = λ j a b. by_test (ltb k j)
            (λ e. get_or-set_other later k j (get_or first own 0) 0 (λ q. absurd (omega (arith, ltb-true k j e, q)))
            ∙ h.goes_on j (omega (arith, ltb-true k j e)) b)
            (λ e. let q : k ≡ j = omega (arith, ltb-false k j e) in
            rw (← q) (get_or-set_same later k (get_or first own 0) 0 (omega (arith, h.later_sized))
            ∙ h.begins own small));
      }

  -- A walk along the chain of desk d. What holds at a place of the log goes on holding past the runs of other desks.
  module _ (d : ℕ) (P : ℕ → Type 0) (passes : (k : ℕ) → eqb (desk_at desks pieces k) d ≡ false → P k → P (k + 1)) where
    pub to_the_end : (left j : ℕ) → next_run desks pieces d left j ≡ 0 → P j → P (j + left)
    unfolding next_run
    to_the_end zero j h p = let q : j + 0 ≡ j = omega arith in rw q p
    to_the_end (suc left) j h p =
        let q : j + suc left ≡ j + 1 + left = omega arith in
        rw q
        (by_test (eqb (desk_at desks pieces j) d)
        (λ e. let z : j + 1 ≡ 0 = sym (when_true _ _ _ e) ∙ h in absurd (omega arith))
        (λ e. to_the_end left (j + 1) (sym (when_false _ _ _ e) ∙ h) (passes j e p)))

    -- The next run of the chain is of the desk, and what holds here holds there.
    pub record Next (j left k : ℕ) : Type 0 where
      pub ahead : j ≤ k
      pub within : k < j + left
      pub own : eqb (desk_at desks pieces k) d ≡ true
      pub holds : P k

    pub to_the_next : (left j k : ℕ) → next_run desks pieces d left j ≡ k + 1 → P j → Next j left k
    unfolding next_run
    to_the_next zero j k h p = absurd (omega arith)
    to_the_next (suc left) j k h p =
        by_test (eqb (desk_at desks pieces j) d)
        (λ e. let here : j + 1 ≡ k + 1 = sym (when_true _ _ _ e) ∙ h in
        let q : j ≡ k = omega arith in
        record {
          ahead = omega arith;
          within = omega arith;
          own = ap (λ x. eqb (desk_at desks pieces x) d) (sym q) ∙ e;
          holds = subst P q p;
        })
        (λ e. let on = to_the_next left (j + 1) k (sym (when_false _ _ _ e) ∙ h) (passes j e p) in
        record {
          ahead = omega (arith, on.ahead);
          within = omega (arith, on.within);
          own = on.own;
          holds = on.holds;
        })

  pub next_most : (d left k : ℕ) → next_run desks pieces d left k ≤ k + left
  unfolding next_run
  next_most d zero k = omega arith
  next_most d (suc left) k =
      let ih : next_run desks pieces d left (k + 1) ≤ k + 1 + left = next_most d left (k + 1) in
      by_test (eqb (desk_at desks pieces k) d) (λ e. rw (e, when) (omega arith)) (λ e. rw (e, when) (omega arith))

  -- What is left falls along the chain.
  pub ahead_less : (count d left k run next : ℕ) → k < count → run ≡ k + 1
      → next ≡ next_run desks pieces d left (k + 1) → ahead count next < ahead count run
  ahead_less count d left k run zero h e n =
      let q : run ≡ suc k = omega arith in rw q (omega arith)
  ahead_less count d left k run (suc j) h e n =
      let q : run ≡ suc k = omega arith in
      let on = to_the_next d (λ i. Unit) (λ i t u. tt) left (k + 1) j (sym n ∙ sym (add-one j)) tt in
      rw q (omega (arith, on.ahead))
