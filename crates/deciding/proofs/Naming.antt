-- The pieces of the desks that work, named by the last eight bits of their keys: what was found in keys is found in pieces.
use Prim.Native.Nat.{ℕ, zero, suc, ◌+◌, ◌≤◌, ◌<◌}
use mathlib.Core.List.{List}
use mathlib.Core.Logic.{inl, inr}
use mathlib.Core.Path.{◌≡◌, refl, ap, ◌∙◌}
use native.Mathlib.Numerals.{add-one}
use native.Mathlib.Omega.{arith}
use borrow.Author.Tests.{ltb-true, ltb-false}
use lib.Dec.{ltb}
use lib.ListN.{length, get_or, set, length-set}
use lib.Seq.{get_or-set_same, get_or-set_other}
use Rattle.laws.proofs.Words.{by_test}
use Rattle.steps.specs.Choice.{View, Choice, LookedAt}
use Rattle.deciding.proofs.Desks.{busy_few}
use Rattle.steps.specs.Keys.{no_key}
use Rattle.deciding.specs.Look.{Asked, Least, Looked, piece_of, named}

-- One desk more.
pub named_more : (best busy : List ℕ) (k : ℕ) (chosen r : List ℕ)
    → r ≡ set (named best busy k chosen) (get_or busy k 0) (piece_of (get_or best (get_or busy k 0) 0))
    → r ≡ named best busy (k + 1) chosen
unfolding named
named_more best busy k chosen r e = rw (add-one k) e

pub named-length : (best busy : List ℕ) (k : ℕ) (chosen : List ℕ) → length (named best busy k chosen) ≡ length chosen
unfolding named
named-length best busy zero chosen = refl
named-length best busy (suc k) chosen = length-set (named best busy k chosen) _ _ ∙ named-length best busy k chosen

module _ (count : ℕ) (best busy : List ℕ) (b : Asked no_key count best busy) (chosen : List ℕ) (sized : length chosen ≡ 32) where
  -- A desk that works has its piece, and no other desk is touched.
  named_there : (k q : ℕ) → k ≤ count → q < k
      → get_or (named best busy k chosen) (get_or busy q 0) 0 ≡ piece_of (get_or best (get_or busy q 0) 0)
  unfolding named
  named_there zero q h l = absurd (omega arith)
  named_there (suc k) q h l = by_test (ltb q k)
      (λ e. let m = ltb-true q k e in
      get_or-set_other (named best busy k chosen) (get_or busy k 0) (get_or busy q 0) _ 0 (apart m)
      ∙ named_there k q (omega arith) m)
      (λ e. let z : q ≡ k = omega (arith, ltb-false q k e) in rw z (get_or-set_same (named best busy k chosen) (get_or busy k 0) _ 0
      (omega (arith, named-length best busy k chosen, sized, b.desk_most k (omega arith)))))
    where
      apart : q < k → get_or busy q 0 ≡ get_or busy k 0 → ⊥
      apart m z = let y : q ≡ k = b.once q k (omega arith) (omega arith) z in omega arith

  abbrev pieces : List ℕ
  pieces = named best busy count chosen

  pub piece-named : (q : ℕ) → q < count → get_or pieces (get_or busy q 0) 0 ≡ piece_of (get_or best (get_or busy q 0) 0)
  piece-named q l = named_there count q (omega arith) l

  pub looked_named : (v : View) (S : ℕ → Type 0) (next : ℕ) → ((x : ℕ) → S x → piece_of (get_or v.keys x 0) ≡ x)
      → ((x : ℕ) → S x → get_or v.keys x 0 < no_key) → Looked v S count best busy next
      → LookedAt v S count pieces busy next
  unfolding Choice Least
  looked_named v S next tells less l = record {
    choices = λ d h. go d h (l.least d h);
    working = record {
      chosen_sized = named-length best busy count chosen ∙ sized;
      busy_sized = b.busy_sized;
      few = busy_few no_key count best busy b;
      desk_most = b.desk_most;
      once = b.once;
    };
    later = l.later;
  }
    where
      go : (d : ℕ) → d < 32 → Least v S d (get_or best d 0) → Choice v S count pieces busy d
      go d h (inl w) = inr (λ m. absurd (omega (arith, w.0, rw m.2 at (b.someone m.0 m.1))), w.1)
      go d h (inr (x, e, m)) =
          let i = m.inside in
          let there = b.everyone d h (omega (arith, e, less x i)) in
          let z : get_or pieces d 0 ≡ x = rw there.2 at (piece-named there.0 there.1) ∙ ap piece_of e ∙ tells x i in
          inl (there, rw z m)
