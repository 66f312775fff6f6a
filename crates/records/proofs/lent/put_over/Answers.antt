-- `put_over` meets its contract: the bytes in front are put.
use Rattle.std.proofs.Common.{◌+◌, [], ◌≡◌, ◌∙◌, drop, arith}
use Rattle.std.proofs.Math.ListN.{drop_of_length-le}
use Rattle.std.proofs.lemmas.List.{append-nil}
use Rattle.std.proofs.lemmas.List.Edits.{paste_all}
use Rattle.records.proofs.lent.put_over.Goals as goal

pub returns : goal.returns
returns c =
    let over : drop (0 + c.loop-k.k) c.args.part.now ≡ [] = drop_of_length-le c.args.part.now (omega arith) in
    c.loop-k.invariant ∙ paste_all c.args.part.now 0 c.args.more.now c.loop-k.k (omega arith)
    ∙ rw over (append-nil c.args.more.now)
