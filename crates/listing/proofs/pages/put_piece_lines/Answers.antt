-- `put_piece_lines` meets its contract: piece by piece, each line right behind the ones before.
use Rattle.std.proofs.Common.{◌≡◌, sym, ◌∙◌, ℕ, List, ℤ, arith, pos, get_or, w32, to_z, of_z}
use mir.ValLaws.{to_z-of_z}
use Rattle.rules.specs.Tables.{desks_of, starts_of, finishes_of}
use Rattle.laws.proofs.Columns.{get_or-desks, get_or-starts, get_or-finishes}
use Rattle.records.proofs.PutLaws.{room_left, puts_as}
use Rattle.output.specs.Late.{Bounded}
use Rattle.lines.specs.Lines.{piece_text, piece_lines_in, piece_line_in}
use Rattle.listing.proofs.PageLaws.{piece_here, no_piece_yet, pieces_more, pieces_most, line_more}
use Rattle.listing.proofs.pages.put_piece_lines.Goals as goal

pub loop-i-init : goal.loop-i-init
loop-i-init c =
    let a = c.args in
    no_piece_yet (desks_of a.pieces.now) (starts_of a.spans.now) (finishes_of a.spans.now) a.latests.now a.text.now

pub put_piece_line-requires-clause-room : goal.put_piece_line-requires-clause-room
put_piece_line-requires-clause-room c =
    let a = c.args in
    let most = pieces_most (desks_of a.pieces.now) (starts_of a.spans.now) (finishes_of a.spans.now) a.latests.now c.loop-i.i in
    room_left 211 c.loop-i.invariant (omega (arith, most, c.requires.room, c.loop-i-test.true))

-- The latest moment of the piece whose turn it is, as 32 bits have it.
kept : (latests : List ℤ) (f i : ℕ) → Bounded f (get_or latests i (pos 0))
    → to_z w32 (of_z w32 (get_or latests i (pos 0))) ≡ get_or latests i (pos 0)
kept latests f i near = to_z-of_z w32 (get_or latests i (pos 0)) (record { sfits = omega (arith, near.near) })

pub put_piece_line-requires-clause-bounded : goal.put_piece_line-requires-clause-bounded
put_piece_line-requires-clause-bounded c =
    let a = c.args in
    let i = c.loop-i.i in
    let near = c.requires.bounded i c.loop-i-test.true in
    rw (kept a.latests.now _ i near, ← (get_or-finishes a.spans.now i)) near

pub loop-i-preserved : goal.loop-i-preserved
loop-i-preserved c =
    let a = c.args in
    let i = c.loop-i.i in
    let latest = kept a.latests.now _ i (c.requires.bounded i c.loop-i-test.true) in
    line_more (λ k. piece_lines_in k (desks_of a.pieces.now) (starts_of a.spans.now) (finishes_of a.spans.now) a.latests.now)
    (piece_line_in (desks_of a.pieces.now) (starts_of a.spans.now) (finishes_of a.spans.now) a.latests.now)
    (pieces_more (desks_of a.pieces.now) (starts_of a.spans.now) (finishes_of a.spans.now) a.latests.now)
    i c.loop-i.invariant
    (puts_as c.put_piece_line.ensures
    ((λ k. piece_text i (sym (get_or-desks a.pieces.now i) k) (sym (get_or-starts a.spans.now i) k)
    (sym (get_or-finishes a.spans.now i) k) (latest k))
    ∙ piece_here (desks_of a.pieces.now) (starts_of a.spans.now) (finishes_of a.spans.now) a.latests.now i))
