-- `read_job` meets its contract: each turn takes in one piece or one link, by the laws of `Taken`, and what ends the loop
-- is the outcome of the file.
use Rattle.std.proofs.Common.{arith, rules, ◌∙◌, ◌≡◌, Ok, Err}
use Rattle.rules.specs.Told.{item_of}
use Rattle.rules.specs.Answers.{Work, Tie, Done}
use Rattle.reader.proofs.Taken.{taken_start, told, piece_room, piece_on, link_room, link_on, stopped, done}
use Rattle.reader.proofs.read_job.Goals as goal

pub loop-record-init : goal.loop-record-init
loop-record-init c = rw (c.clear.ensures, c.clear-2.ensures) (taken_start c.args.file.now)

-- A refusal.
pub returns-in_err-record-clause-outcome : goal.returns-in_err-record-clause-outcome
returns-in_err-record-clause-outcome c =
    let taken = c.loop-record.invariant in
    let n = c.counts.ensures in
    let found : c.from_residual.result ≡ Err c.in_err-record.field-0.0 = search rules in
    rw found (stopped taken _ (told taken c.in_err-record.ensures n.pieces n.links c.records.ensures))

-- A piece.
pub push-requires : goal.push-requires
push-requires c =
    let taken = c.loop-record.invariant in
    let n = c.counts.ensures in
    let found : Work c.in-Piece.piece ≡ item_of (Ok c.in_ok-record.field-0) = rw (c.in-Some.is, c.in-Piece.is) in
    let read = found ∙ told taken c.in_ok-record.ensures n.pieces n.links c.records.ensures in
    (omega arith, piece_room taken _ read)

pub loop-record-preserved-in-Piece : goal.loop-record-preserved-in-Piece
loop-record-preserved-in-Piece c =
    let taken = c.loop-record.invariant in
    let n = c.counts.ensures in
    let found : Work c.in-Piece.piece ≡ item_of (Ok c.in_ok-record.field-0) = rw (c.in-Some.is, c.in-Piece.is) in
    let read = found ∙ told taken c.in_ok-record.ensures n.pieces n.links c.records.ensures in
    rw c.push.ensures.items (piece_on taken _ read)

-- A link.
pub push-requires-in-Link : goal.push-requires-in-Link
push-requires-in-Link c =
    let taken = c.loop-record.invariant in
    let n = c.counts.ensures in
    let found : Tie c.in-Link.link ≡ item_of (Ok c.in_ok-record.field-0) = rw (c.in-Some.is, c.in-Link.is) in
    let read = found ∙ told taken c.in_ok-record.ensures n.pieces n.links c.records.ensures in
    (omega arith, link_room taken _ read)

pub loop-record-preserved : goal.loop-record-preserved
loop-record-preserved c =
    let taken = c.loop-record.invariant in
    let n = c.counts.ensures in
    let found : Tie c.in-Link.link ≡ item_of (Ok c.in_ok-record.field-0) = rw (c.in-Some.is, c.in-Link.is) in
    let read = found ∙ told taken c.in_ok-record.ensures n.pieces n.links c.records.ensures in
    rw c.push-in-Link.ensures.items (link_on taken _ read)

-- The end.
pub returns-clause-outcome : goal.returns-clause-outcome
returns-clause-outcome c =
    let taken = c.loop-record.invariant in
    let n = c.counts.ensures in
    let found : Done ≡ item_of (Ok c.in_ok-record.field-0) = search rules in
    done taken (found ∙ told taken c.in_ok-record.ensures n.pieces n.links c.records.ensures)
