-- Pieces and links as rows of a form, and the laws that they keep.
use Rattle.std.specs.Prelude.{ℕ, ◌+◌, ◌*◌, ◌<◌, ◌≤◌, List, ◌++◌, ◌≡◌, length, get_or, refl}
use Rattle.std.proofs.Common.{arith, ap, ◌∙◌}
use mathlib.Core.List.{append-nil, append_assoc}
use Rattle.rules.specs.Job.{Job}
use Rattle.rules.specs.File.{of_piece, of_link}
use Rattle.rules.specs.Reading.{order_fault, first_fault, and_then}
use Rattle.rules.specs.Form.{piece_row, link_row, offer_fault}
use Rattle.rules.specs.Writing.{piece_record, link_record}
use Rattle.rules.specs.Answers.{Work, Tie}
use Rattle.rules.specs.declared.Piece.{Piece}
use Rattle.rules.specs.declared.Link.{Link}
use Rattle.judge.specs.Values.{piece_with, link_with, piece_value_fault, link_value_fault}
use Rattle.laws.proofs.Reread as reread
use Rattle.forms.specs.Rows.{AddsInTurn}

-- What the numbers of one row say.
abbrev pub typed_piece : List ℕ → Piece
typed_piece row = piece_with (get_or row 0 0) (get_or row 1 0) (get_or row 2 0) (get_or row 3 0)

abbrev pub typed_link : List ℕ → Link
typed_link row = link_with (get_or row 0 0) (get_or row 1 0) (get_or row 2 0)

abbrev pub with_pieces : Job → List Piece → Job
with_pieces J ps = record { pieces = J.pieces ++ ps; links = J.links }

abbrev pub with_links : Job → List Link → Job
with_links J ls = record { pieces = J.pieces; links = J.links ++ ls }

pub piece_width : (0 < 4) × (4 ≤ 4)
piece_width = (omega arith, omega arith)

pub link_width : (0 < 3) × (3 ≤ 4)
link_width = (omega arith, omega arith)

-- Number j of a row that stands as row i.
pub piece_placed : (row rows : List ℕ) (i : ℕ) → ((j : ℕ) → j < 4 → get_or row j 0 ≡ get_or rows (4 * i + j) 0)
    → typed_piece row ≡ piece_row rows i
unfolding piece_row
piece_placed row rows i same =
    let first : 4 * i + 0 ≡ 4 * i = omega arith in
    λ x. piece_with ((same 0 (omega arith) ∙ ap (λ k. get_or rows k 0) first) x) (same 1 (omega arith) x)
    (same 2 (omega arith) x) (same 3 (omega arith) x)

pub link_placed : (row rows : List ℕ) (i : ℕ) → ((j : ℕ) → j < 3 → get_or row j 0 ≡ get_or rows (3 * i + j) 0)
    → typed_link row ≡ link_row rows i
unfolding link_row
link_placed row rows i same =
    let first : 3 * i + 0 ≡ 3 * i = omega arith in
    λ x. link_with ((same 0 (omega arith) ∙ ap (λ k. get_or rows k 0) first) x) (same 1 (omega arith) x)
    (same 2 (omega arith) x)

pub piece_offered : (J : Job) (p : Piece)
    → offer_fault J (Work p) ≡ first_fault (order_fault of_piece J) (piece_value_fault J p)
unfolding offer_fault
piece_offered J p = refl

pub link_offered : (J : Job) (l : Link)
    → offer_fault J (Tie l) ≡ first_fault (order_fault of_link J) (link_value_fault J l)
unfolding offer_fault
link_offered J l = refl

pub piece_sized : (p : Piece) → length (piece_record p) ≡ 16
piece_sized p = reread.piece_sized p

pub link_sized : (l : Link) → length (link_record l) ≡ 16
link_sized l = reread.link_sized l

pub piece_adds : AddsInTurn Work with_pieces
unfolding and_then
piece_adds = record {
  none = λ J. ap (λ ps. record { pieces = ps; links = J.links }) (append-nil J.pieces);
  one = λ p J onward. refl;
  more = λ J xs ys. ap (λ ps. record { pieces = ps; links = J.links }) (append_assoc J.pieces xs ys);
}

pub link_adds : AddsInTurn Tie with_links
unfolding and_then
link_adds = record {
  none = λ J. ap (λ ls. record { pieces = J.pieces; links = ls }) (append-nil J.links);
  one = λ l J onward. refl;
  more = λ J xs ys. ap (λ ls. record { pieces = J.pieces; links = ls }) (append_assoc J.links xs ys);
}
