-- Lines one behind the other: one line more at a time, the lines of one desk out of the log, and how long they are at
-- most.
use Prim.Native.Nat.{ℕ, zero, suc, ◌+◌, ◌-◌, ◌*◌, ◌≤◌, ◌<◌}
use mathlib.Core.Bool.{true, false}
use mathlib.Core.List.{List, [], ◌++◌, map, append-nil}
use mathlib.Core.Path.{◌≡◌, refl, sym, ap, ◌∙◌}
use native.Mathlib.Omega.{arith}
use native.Mathlib.Numerals.{add-one}
use lib.Dec.{eqb}
use lib.IntN.{ℤ, pos}
use lib.ListN.{length, get_or, length-append}
use Rattle.rules.specs.Words.{keep, below, joined}
use Rattle.rules.specs.Listing.{run_line}
use Rattle.laws.proofs.Words.{by_test, when_true, when_false}
use Rattle.laws.proofs.Joined.{joined_more, kept_more, not_kept_more, map_twice}
use Rattle.steps.specs.Log.{run_at, logged_runs}
use Rattle.records.specs.Puts.{Puts}
use Rattle.records.specs.declared.lent.Lent.{Lent}
use Rattle.records.proofs.PutLaws.{nothing_put, puts_on, puts_as}
use Rattle.lines.specs.Lines.{piece_text, run_text, piece_line_in, piece_lines_in, run_line_in, desk_lines_in, run_lines_in}
use Rattle.lines.proofs.LineLaws.{piece_most}

-- Pages that grow line by line.
module _ (page piece : ℕ → List ℕ) (more : (k : ℕ) → page (suc k) ≡ page k ++ piece k) where
  grow : (k n : ℕ) → length (page k) ≤ length (page (k + n))
  grow k zero = let q : k + 0 ≡ k = omega arith in rw q (omega arith)
  grow k (suc n) =
      let q : k + suc n ≡ suc (k + n) = omega arith in
      let ih : length (page k) ≤ length (page (k + n)) = grow k n in
      rw (q, more (k + n), length-append (page (k + n)) (piece (k + n))) (omega arith)

  pub grown : (k n : ℕ) → k ≤ n → length (page k) ≤ length (page n)
  grown k n h = let q : k + (n - k) ≡ n = omega arith in rw q at (grow k (n - k))

  pub page_most : (most : ℕ) → ((k : ℕ) → length (piece k) ≤ most) → length (page 0) ≡ 0 → (n : ℕ)
      → length (page n) ≤ most * n
  page_most most h z zero = omega (arith, z)
  page_most most h z (suc n) =
      let ih : length (page n) ≤ most * n = page_most most h z n in
      let q : most * suc n ≡ most * n + most = omega arith in
      rw (more n, q) (omega (arith, h n, length-append (page n) (piece n)))

  -- One line more, right behind.
  pub line_more : {old mid new : Lent} (k : ℕ) → Puts old (page k) mid → Puts mid (piece k) new → Puts old (page (k + 1)) new
  line_more k p q = rw (add-one k) (puts_as (puts_on p q) (sym (more k)))

module _ (desks starts finishes : List ℕ) (latests : List ℤ) where
  pub pieces_more : (k : ℕ) → piece_lines_in (suc k) desks starts finishes latests
      ≡ piece_lines_in k desks starts finishes latests ++ piece_line_in desks starts finishes latests k
  unfolding piece_lines_in
  pieces_more k = joined_more (piece_line_in desks starts finishes latests) k

  pub piece_here : (i : ℕ) → piece_text i (get_or desks i 0) (get_or starts i 0) (get_or finishes i 0) (get_or latests i (pos 0))
      ≡ piece_line_in desks starts finishes latests i
  unfolding piece_line_in
  piece_here i = refl

  pub no_piece_yet : (old : Lent) → Puts old (piece_lines_in 0 desks starts finishes latests) old
  unfolding piece_lines_in
  no_piece_yet old = nothing_put old

  pub pieces_most : (n : ℕ) → length (piece_lines_in n desks starts finishes latests) ≤ 211 * n
  unfolding piece_lines_in piece_line_in
  pieces_most = page_most (λ n. piece_lines_in n desks starts finishes latests)
      (piece_line_in desks starts finishes latests) pieces_more 211
      (λ i. piece_most i (get_or desks i 0) (get_or starts i 0) (get_or finishes i 0) (get_or latests i (pos 0))) refl

module _ (desks pieces froms untils : List ℕ) where
  pub logged_more : (d k : ℕ) → desk_lines_in (suc k) desks pieces froms untils d
      ≡ desk_lines_in k desks pieces froms untils d ++ run_line_in desks pieces froms untils d k
  unfolding desk_lines_in logged_runs run_line_in
  logged_more d k = by_test (eqb (get_or desks (get_or pieces k 0) 0) d)
      (λ e. ap joined (map_twice (run_at pieces froms untils) (run_line d)
      (keep (λ k. eqb (get_or desks (get_or pieces k 0) 0) d) (below (suc k))))
      ∙ kept_more (λ k. eqb (get_or desks (get_or pieces k 0) 0) d) (λ k. run_line d (run_at pieces froms untils k)) k e
      ∙ ap (λ l. joined l ++ run_line d (run_at pieces froms untils k))
      (sym (map_twice (run_at pieces froms untils) (run_line d)
      (keep (λ k. eqb (get_or desks (get_or pieces k 0) 0) d) (below k))))
      ∙ ap (λ x. desk_lines_in k desks pieces froms untils d ++ x) (run_line_lem d k ∙ sym (when_true _ _ _ e)))
      (λ e. ap (λ l. joined (map (run_line d) (map (run_at pieces froms untils) l)))
      (not_kept_more (λ k. eqb (get_or desks (get_or pieces k 0) 0) d) k e)
      ∙ sym (append-nil (desk_lines_in k desks pieces froms untils d))
      ∙ ap (λ x. desk_lines_in k desks pieces froms untils d ++ x) (sym (when_false _ _ _ e)))
    where
      run_line_lem : (d k : ℕ) → run_line d (run_at pieces froms untils k)
          ≡ run_text d (get_or pieces k 0) (get_or froms k 0) (get_or untils k 0)
      run_line_lem d k = refl

  pub desks_more : (count d : ℕ) → run_lines_in (suc d) count desks pieces froms untils
      ≡ run_lines_in d count desks pieces froms untils ++ desk_lines_in count desks pieces froms untils d
  unfolding run_lines_in
  desks_more count d = joined_more (desk_lines_in count desks pieces froms untils) d

  pub no_run_yet : (d : ℕ) (old : Lent) → Puts old (desk_lines_in 0 desks pieces froms untils d) old
  unfolding desk_lines_in logged_runs keep below
  no_run_yet d old = nothing_put old

  pub no_desk_yet : (count : ℕ) (old : Lent) → Puts old (run_lines_in 0 count desks pieces froms untils) old
  unfolding run_lines_in
  no_desk_yet count old = nothing_put old

  -- The run at place k is the desk's, or it is not.
  module _ (d k : ℕ) {old : Lent} where
    pub own_line : {new : Lent} → eqb (get_or desks (get_or pieces k 0) 0) d ≡ true
        → Puts old (run_text d (get_or pieces k 0) (get_or froms k 0) (get_or untils k 0)) new
        → Puts old (run_line_in desks pieces froms untils d k) new
    unfolding run_line_in
    own_line e p = rw (when_true _ (run_text d (get_or pieces k 0) (get_or froms k 0) (get_or untils k 0)) [] e) p

    pub no_line : eqb (get_or desks (get_or pieces k 0) 0) d ≡ false
        → Puts old (run_line_in desks pieces froms untils d k) old
    unfolding run_line_in
    no_line e = rw (when_false _ (run_text d (get_or pieces k 0) (get_or froms k 0) (get_or untils k 0)) [] e) (nothing_put old)

  -- There is room for one desk's lines.
  pub desk_room : (count d n : ℕ) → d < n
      → length (run_lines_in d count desks pieces froms untils) + length (desk_lines_in count desks pieces froms untils d)
      ≤ length (run_lines_in n count desks pieces froms untils)
  desk_room count d n h = omega (
    arith,
    grown (λ d. run_lines_in d count desks pieces froms untils) (desk_lines_in count desks pieces froms untils)
        (desks_more count) (suc d) n (omega arith),
    ap length (desks_more count d),
    length-append (run_lines_in d count desks pieces froms untils) (desk_lines_in count desks pieces froms untils d),
  )
