-- Every accepted file is what the writer makes of its contents: typed into a form, row by row, they give the same job, and
-- so the same file.
use Prim.Native.Nat.{ℕ, zero, suc, ◌+◌, ◌*◌, ◌/◌, ◌≤◌}
use mathlib.Core.List.{List, [], ◌∷◌, ◌++◌, map}
use mathlib.Core.Path.{◌≡◌, refl, ap, ◌∙◌, fun_ext}
use native.Mathlib.Omega.{arith}
use lib.ListN.{length, drop}
use Rattle.rules.specs.Words.{row, below, joined}
use Rattle.rules.specs.Job.{Job, accepted, piece_count}
use Rattle.rules.specs.Reading.{read_job}
use Rattle.rules.specs.Writing.{file_of}
use Rattle.rules.specs.Form.{piece_row, link_row, form_job, typed_pieces, typed_links, write_answer, write_buffer}
use Rattle.rules.specs.declared.Piece.{Piece}
use Rattle.rules.specs.declared.Link.{Link}
use Rattle.laws.proofs.Reading.{job_sound}
use Rattle.laws.proofs.Writing.{Bytes}
use Rattle.laws.proofs.Written.{file_made}
use Rattle.demands.proofs.FormRefusals.{Whole}
use Rattle.demands.proofs.Writer.{Written, answer_is, buffer_is, good_is_written}

map_later : {A : Type 0} (f : ℕ → A) (n a : ℕ) → map f (row (suc a) n) ≡ map (λ i. f (suc i)) (row a n)
unfolding row
map_later f zero a = refl
map_later f (suc n) a = ap (λ l. f (suc a) ∷ l) (map_later f n (suc a))

abbrev piece_numbers : Piece → List ℕ
piece_numbers p = p.desk ∷ p.duration ∷ p.release ∷ p.due ∷ []

abbrev link_numbers : Link → List ℕ
link_numbers l = l.before ∷ l.after ∷ l.handover ∷ []

-- As many numbers as there are fields.
piece_numbers_lem : (ps : List Piece) → length (joined (map piece_numbers ps)) ≡ 4 * length ps
unfolding joined
piece_numbers_lem [] = refl
piece_numbers_lem (p ∷ ps) = let ih : length (joined (map piece_numbers ps)) ≡ 4 * length ps = piece_numbers_lem ps in omega arith

link_numbers_lem : (ls : List Link) → length (joined (map link_numbers ls)) ≡ 3 * length ls
unfolding joined
link_numbers_lem [] = refl
link_numbers_lem (l ∷ ls) = let ih : length (joined (map link_numbers ls)) ≡ 3 * length ls = link_numbers_lem ls in omega arith

-- A row further on, behind the first.
piece_later : (a b c d : ℕ) (rows : List ℕ) (i : ℕ) → piece_row (a ∷ b ∷ c ∷ d ∷ rows) (suc i) ≡ piece_row rows i
unfolding piece_row
piece_later a b c d rows i =
    let q : 4 * suc i ≡ suc (suc (suc (suc (4 * i)))) = omega arith in
    let r : 4 * suc i + 1 ≡ suc (suc (suc (suc (4 * i + 1)))) = omega arith in
    let s : 4 * suc i + 2 ≡ suc (suc (suc (suc (4 * i + 2)))) = omega arith in
    let t : 4 * suc i + 3 ≡ suc (suc (suc (suc (4 * i + 3)))) = omega arith in
    rw (t, s, r, q)

link_later : (a b c : ℕ) (rows : List ℕ) (k : ℕ) → link_row (a ∷ b ∷ c ∷ rows) (suc k) ≡ link_row rows k
unfolding link_row
link_later a b c rows k =
    let q : 3 * suc k ≡ suc (suc (suc (3 * k))) = omega arith in
    let r : 3 * suc k + 1 ≡ suc (suc (suc (3 * k + 1))) = omega arith in
    let s : 3 * suc k + 2 ≡ suc (suc (suc (3 * k + 2))) = omega arith in
    rw (s, r, q)

-- What was typed is what the rows say.
pieces_back : (ps : List Piece) → map (piece_row (joined (map piece_numbers ps))) (row 0 (length ps)) ≡ ps
unfolding joined row piece_row
pieces_back [] = refl
pieces_back (p ∷ ps) =
    let rows : List ℕ = joined (map piece_numbers ps) in
    ap (λ l. p ∷ l) (map_later (piece_row (piece_numbers p ++ rows)) (length ps) 0
    ∙ ap (λ f. map f (row 0 (length ps))) (fun_ext (piece_later p.desk p.duration p.release p.due rows))
    ∙ pieces_back ps)

links_back : (ls : List Link) → map (link_row (joined (map link_numbers ls))) (row 0 (length ls)) ≡ ls
unfolding joined row link_row
links_back [] = refl
links_back (l ∷ ls) =
    let rows : List ℕ = joined (map link_numbers ls) in
    ap (λ m. l ∷ m) (map_later (link_row (link_numbers l ++ rows)) (length ls) 0
    ∙ ap (λ f. map f (row 0 (length ls))) (fun_ext (link_later l.before l.after l.handover rows))
    ∙ links_back ls)

pub typed_back : (J : Job) → form_job (typed_pieces J) (typed_links J) ≡ J
unfolding form_job typed_pieces typed_links below
typed_back J =
    let n : length (typed_pieces J) / 4 ≡ piece_count J = omega (arith, piece_numbers_lem J.pieces) in
    let m : length (typed_links J) / 3 ≡ length J.links = omega (arith, link_numbers_lem J.links) in
    λ i. record {
      pieces = (ap (λ k. map (piece_row (typed_pieces J)) (row 0 k)) n ∙ pieces_back J.pieces) i;
      links = (ap (λ k. map (link_row (typed_links J)) (row 0 k)) m ∙ links_back J.links) i;
    }

typed_whole : (J : Job) → Whole (typed_pieces J) (typed_links J)
unfolding typed_pieces typed_links
typed_whole J = omega (arith, piece_numbers_lem J.pieces, link_numbers_lem J.links)

-- EVERY ACCEPTED FILE IS WHAT THE WRITER MAKES OF ITS CONTENTS, wherever there is room for it.
module _ (s : List ℕ) (small : Bytes s) (J : Job) (read : read_job s ≡ accepted J) (buffer : List ℕ)
    (room : length s ≤ length buffer) where
  form : file_of (form_job (typed_pieces J) (typed_links J)) ≡ s
  form = ap file_of (typed_back J) ∙ file_made s small J read

  there : Written (typed_pieces J) (typed_links J) buffer
  there = good_is_written (typed_pieces J) (typed_links J) buffer (typed_whole J) (rw (typed_back J) (job_sound s J read))
      (omega (arith, ap length form))

  pub accepted_file_is_written : write_buffer (typed_pieces J) (typed_links J) buffer ≡ s ++ drop (length s) buffer
  accepted_file_is_written =
      buffer_is (typed_pieces J) (typed_links J) buffer there ∙ ap (λ f. f ++ drop (length f) buffer) form

  pub accepted_file_is_answered : write_answer (typed_pieces J) (typed_links J) buffer
      ≡ record { number = 0; place = 0; bytes = length s }
  accepted_file_is_answered =
      answer_is (typed_pieces J) (typed_links J) buffer there
      ∙ ap (λ f. record { number = 0; place = 0; bytes = length f }) form
