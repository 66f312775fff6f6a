-- A decision over pieces told otherwise: the same pieces, the same decision.
use Rattle.std.specs.Prelude.{ℕ, ◌+◌, ◌≤◌, ◌<◌, List, ◌≡◌, ◌⊎◌, length, get_or, take}
use Rattle.std.proofs.Common.{refl, sym, ◌∙◌, arith}
use mathlib.Core.Logic.{inl, inr}
use Rattle.std.proofs.lemmas.List.{get_or-take, length-take}
use Rattle.steps.specs.Choice.{View, never, Asks, Best, Choice, Later, LookedAt, Decided}
use Rattle.steps.specs.Opening.{Among}

module _ (v : View) (S T : ℕ → Type 0) (to : (i : ℕ) → S i → T i) (back : (i : ℕ) → T i → S i) where
  best_alike : (d x : ℕ) → Best v S d x → Best v T d x
  best_alike d x b = record {
    inside = to x b.inside;
    asks = b.asks;
    first = λ j m a. b.first j (back j m) a;
  }

  choice_alike : (count : ℕ) (chosen busy : List ℕ) (d : ℕ) → Choice v S count chosen busy d → Choice v T count chosen busy d
  unfolding Choice
  choice_alike count chosen busy d (inl w) = inl (w.0, best_alike d (get_or chosen d 0) w.1)
  choice_alike count chosen busy d (inr w) = inr (w.0, λ j m a. w.1 j (back j m) a)

  later_alike : (next : ℕ) → Later v S next → Later v T next
  later_alike next l = record {
    most = l.most;
    above = l.above;
    counts = λ j m h. l.counts j (back j m) h;
    from = from l.from;
  }
    where
      from : (next ≡ never) ⊎ ((j : ℕ) × S j) → (next ≡ never) ⊎ ((j : ℕ) × T j)
      from (inl e) = inl e
      from (inr w) = inr (w.0, to w.0 w.1)

  pub decided_alike : (count : ℕ) (chosen busy : List ℕ) (next : ℕ) → Decided v S count chosen busy next
      → Decided v T count chosen busy next
  decided_alike count chosen busy next d = record {
    soon = d.soon;
    looked_at = record {
      choices = λ f h. choice_alike count chosen busy f (d.looked_at.choices f h);
      working = d.looked_at.working;
      later = later_alike d.soon d.looked_at.later;
    };
    next_is = d.next_is;
  }

-- The pieces in the first places of a table, as a list of their own.
module _ (table opened : List ℕ) (count : ℕ) (few : count ≤ length table) (is : opened ≡ take count table) where
  pub opened_length : length opened ≡ count
  opened_length = rw is (length-take count table ∙ omega arith)

  pub opened_at : (q : ℕ) → q < count → get_or opened q 0 ≡ get_or table q 0
  opened_at q h = rw is (get_or-take count table q 0 h)

  pub among_table : (i : ℕ) → Among opened (length opened) i → Among table count i
  among_table i m =
      let h : m.0 < count = omega (arith, m.1, opened_length) in
      (m.0, h, sym (opened_at m.0 h) ∙ m.2)

  pub among_opened : (i : ℕ) → Among table count i → Among opened (length opened) i
  among_opened i m = (m.0, omega (arith, m.1, opened_length), opened_at m.0 m.1 ∙ m.2)
