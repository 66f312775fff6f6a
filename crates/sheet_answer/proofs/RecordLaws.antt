-- Records of a list, 16 bytes each, and one more behind them.
use Rattle.std.specs.Prelude.{ℕ, ◌+◌, ◌*◌, ◌<◌, List, [], ◌∷◌, ◌++◌, map, ◌≡◌, length, get_or, take}
use Rattle.std.proofs.Common.{refl, sym, ap, ◌∙◌, arith, length-append, append-nil, add-one}
use Rattle.std.proofs.lemmas.List.{map-append}
use Rattle.std.proofs.Math.Seq.{take-suc}
use Rattle.rules.specs.Words.{joined}
use Rattle.laws.proofs.Joined.{joined_append}
use Rattle.records.specs.Laid.{row_bytes}
use Rattle.records.specs.declared.put.Row.{Row}
use Rattle.records.proofs.Stores.{length-row_bytes}
use Rattle.sheet_answer.specs.Listed.{rows_bytes}

-- One more of a list.
take-next : {A : Type 0} (items : List A) (k : ℕ) (x : A) → k < length items → x ≡ get_or items k x
    → take (k + 1) items ≡ take k items ++ (x ∷ [])
take-next items k x h e =
    ap (λ n. take n items) (add-one k) ∙ take-suc items k x h ∙ ap (λ y. take k items ++ (y ∷ [])) (sym e)

module _ {A : Type 0} (row : A → Row) where
  pub rows_length : (items : List A) → length (rows_bytes row items) ≡ 16 * length items
  unfolding rows_bytes joined
  rows_length [] = refl
  rows_length (x ∷ xs) = omega (
    arith,
    length-append (row_bytes (row x)) (rows_bytes row xs),
    length-row_bytes (row x),
    rows_length xs,
  )

  -- No record yet, and one more.
  pub no_rows : rows_bytes row [] ≡ []
  unfolding rows_bytes joined
  no_rows = refl

  pub rows_more : (items : List A) (k : ℕ) (x : A) → k < length items → x ≡ get_or items k x
      → rows_bytes row (take (k + 1) items) ≡ rows_bytes row (take k items) ++ row_bytes (row x)
  unfolding rows_bytes joined
  rows_more items k x h e =
      let shown : List A → List (List ℕ) = map (λ y. row_bytes (row y)) in
      ap (λ l. joined (shown l)) (take-next items k x h e)
      ∙ ap joined (map-append (λ y. row_bytes (row y)) (take k items) (x ∷ []))
      ∙ joined_append (shown (take k items)) (row_bytes (row x) ∷ [])
      ∙ ap (λ l. joined (shown (take k items)) ++ l) (append-nil (row_bytes (row x)))
