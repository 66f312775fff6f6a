-- `own_links` meets its contract: after k links the list has those of the desk among them.
use Rattle.rules.specs.Tables.{desks_of}
use Rattle.blocks.proofs.Owning.{Picked}
use Rattle.blocks.proofs.own.own_links.Given as goal

abbrev pub invariant-loop-link : goal.invariant-loop-link
invariant-loop-link l = Picked l.desk (desks_of l.pieces) l.links l.link-index l.own.items
