-- `first_blocks` meets its contract: what is left to cut gives the other rows.
use Rattle.std.proofs.Common.{arith}
use Rattle.std.proofs.lemmas.List.{take_rest}
use Rattle.entries.specs.Lent.{no_entry}
use Rattle.blockrows.proofs.Recording.{recording_none, recording_more, recording_end}
use Rattle.blockrows.proofs.table.first_blocks.Goals as goal

pub loop-first-init : goal.loop-first-init
loop-first-init c = recording_none c.args.entries.now c.clear.new.self.items c.requires c.clear.ensures

pub loop-first-preserved : goal.loop-first-preserved
loop-first-preserved c =
    let s = c.loop-first in
    let rest = s.rest.now in
    let n = c.gather_block-block.result.count in
    recording_more c.args.entries.now rest _ s.rows.items _ n c.gather_block-block.result.end s.invariant
    c.gather_block-block.ensures (rw (c.in-Some.ensures.item.3.1 no_entry) at c.push.ensures.items) (take_rest rest n)

pub returns-clause-blocks : goal.returns-clause-blocks
returns-clause-blocks c =
    let s = c.loop-first in
    let item = c.in_default.ensures.item in
    recording_end c.args.entries.now s.rest.now s.rows.items s.invariant (omega (arith, item.3))
