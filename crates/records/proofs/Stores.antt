-- A record in a buffer: its 16 bytes are a part that is written over, and stores behind one another are one store.
use Rattle.std.specs.Prelude.{ℕ, suc, ◌+◌, ◌-◌, ◌≤◌, List, [], ◌∷◌, ◌++◌, ◌≡◌, length, take, drop, set}
use Rattle.std.proofs.Common.{refl, arith, sym, ◌∙◌, ap, append_assoc, add-zero}
use Rattle.std.proofs.lemmas.List.Edits.{sets, sets-eq}
use Rattle.std.proofs.lemmas.List.{drop-drop}
use borrow.Rule.Slice.PartMut.{put_mid}
use Rattle.rules.specs.Bytes.{half, word, plan_record}
use Rattle.records.specs.Laid.{row_bytes}
use Rattle.records.specs.declared.put.Row.{Row}

pub length-row_bytes : (r : Row) → length (row_bytes r) ≡ 16
unfolding plan_record half word
length-row_bytes r = refl

-- A part written over.
pub put_mid-sets : (at k : ℕ) (xs ys : List ℕ) → length ys ≡ k → at + k ≤ length xs
    → put_mid at (at + k - at) xs ys ≡ sets xs at ys
put_mid-sets at k xs ys e h =
    let whole : at + k - at ≡ k = omega arith in
    rw (whole, drop-drop k at xs)
    (ap (λ m. take at xs ++ (ys ++ drop (at + m) xs)) (sym e)
    ∙ sym (append_assoc (take at xs) ys (drop (at + length ys) xs))
    ∙ sym (sets-eq ys xs at (omega (arith, e))))

-- Stores one behind the other.
pub sets_on : {A : Type 0} (l : List A) (i : ℕ) (xs ys : List A)
    → sets (sets l i xs) (i + length xs) ys ≡ sets l i (xs ++ ys)
sets_on l i [] ys = rw add-zero
sets_on l i (x ∷ xs) ys =
    let q : i + suc (length xs) ≡ suc i + length xs = omega arith in rw q (sets_on (set l i x) (suc i) xs ys)
