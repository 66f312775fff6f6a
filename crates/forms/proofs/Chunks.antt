-- Rows cut out of a list: number j of row i.
use Rattle.std.specs.Prelude.{ℕ, zero, suc, ◌+◌, ◌*◌, ◌<◌, List, ◌≡◌, get_or, drop}
use Rattle.std.specs.Simd.{first_chunks}
use Rattle.std.proofs.Common.{arith, ap, ◌∙◌}
use Rattle.std.proofs.lemmas.List.{get_or-take, get_or-drop}
use Rattle.std.proofs.Math.Nat.{mul-suc}

pub number : (n k : ℕ) (xs : List ℕ) (i : ℕ) (d : List ℕ) → i < k → (j : ℕ) → j < n
    → get_or (get_or (first_chunks n k xs) i d) j 0 ≡ get_or xs (n * i + j) 0
number n zero xs i d h j q = absurd (omega arith)
number n (suc k) xs zero d h j q =
    let z : j ≡ n * 0 + j = omega arith in get_or-take n xs j 0 q ∙ ap (λ m. get_or xs m 0) z
number n (suc k) xs (suc i) d h j q =
    let z : n + (n * i + j) ≡ n * suc i + j = omega (arith, mul-suc n i) in
    number n k (drop n xs) i d (omega arith) j q ∙ get_or-drop n xs (n * i + j) 0 ∙ ap (λ m. get_or xs m 0) z

-- Row i of a form, as a loop over its rows takes it.
pub at_row : (n k : ℕ) (xs : List ℕ) (rows : List (List ℕ)) (i : ℕ) (row : List ℕ) → rows ≡ first_chunks n k xs → i < k
    → row ≡ get_or rows i row → (j : ℕ) → j < n → get_or row j 0 ≡ get_or xs (n * i + j) 0
at_row n k xs rows i row cut h it j q =
    ap (λ r. get_or r j 0) it ∙ ap (λ rs. get_or (get_or rs i row) j 0) cut ∙ number n k xs i row h j q
