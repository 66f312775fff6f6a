-- One place more noted in the table of places.
use Prim.Native.Nat.{ℕ, ◌+◌, ◌<◌}
use mathlib.Core.List.{List}
use mathlib.Core.Path.{◌≡◌, ◌∙◌}
use native.Mathlib.Omega.{arith}
use borrow.Author.Tests.{ltb-true, ltb-false}
use lib.Dec.{ltb}
use lib.ListN.{length, get_or, set}
use lib.Seq.{get_or-set_same, get_or-set_other}
use Rattle.laws.proofs.Words.{by_test}

pub marked_more : (opened : ℕ) (table place : List ℕ) (k : ℕ) → k < opened
    → ((q : ℕ) → q < opened → get_or table q 0 < 256)
    → ((p q : ℕ) → p < opened → q < opened → get_or table p 0 ≡ get_or table q 0 → p ≡ q) → length place ≡ 256
    → ((q : ℕ) → q < k → get_or place (get_or table q 0) 0 ≡ q) → (q : ℕ) → q < k + 1
    → get_or (set place (get_or table k 0) k) (get_or table q 0) 0 ≡ q
marked_more opened table place k room small once sized h q l = by_test (ltb q k)
    (λ e. let b = ltb-true q k e in
    get_or-set_other place (get_or table k 0) (get_or table q 0) k 0
    (λ z. let y : q ≡ k = once q k (omega arith) room z in omega arith) ∙ h q b)
    (λ e. let z : q ≡ k = omega (arith, ltb-false q k e) in
    rw z (get_or-set_same place (get_or table k 0) k 0 (omega (arith, small k room))))
