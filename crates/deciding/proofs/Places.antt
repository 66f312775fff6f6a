-- One place more of the table of the open pieces.
use Prim.Native.Nat.{ℕ, ◌+◌}
use mathlib.Core.List.{List}
use mathlib.Core.Logic.{◌⊎◌, inl, inr}
use mathlib.Core.Path.{◌≡◌, refl, sym, ap, ◌∙◌}
use native.Mathlib.Omega.{arith}
use borrow.Author.Tests.{ltb-true, ltb-false}
use lib.Dec.{ltb}
use lib.ListN.{get_or}
use Rattle.laws.proofs.Words.{by_test}
use Rattle.steps.specs.Opening.{Among}

pub among_more : (table : List ℕ) (k j : ℕ) → Among table k j → Among table (k + 1) j
among_more table k j m = (m.0, omega (arith, m.1), m.2)

pub among_last : (table : List ℕ) (k : ℕ) → Among table (k + 1) (get_or table k 0)
among_last table k = (k, omega arith, refl)

pub among_split : (table : List ℕ) (k j : ℕ) → Among table (k + 1) j → Among table k j ⊎ (j ≡ get_or table k 0)
among_split table k j m = by_test (ltb m.0 k)
    (λ e. inl (m.0, ltb-true m.0 k e, m.2))
    (λ e. let z : m.0 ≡ k = omega (arith, m.1, ltb-false m.0 k e) in
    inr (sym m.2 ∙ ap (λ q. get_or table q 0) z))
