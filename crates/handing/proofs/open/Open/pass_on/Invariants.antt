-- `pass_on` walks the chain of the piece's links from the last one back. The loop's invariant: the chain stands at
-- the last of the first n links that is the piece's, and what these n pass on from here is all that is passed on; and
-- the table has the open pieces.
use Rattle.std.specs.Prelude.{ℕ, ◌≡◌, length}
use Rattle.rules.specs.Tables.{befores_of}
use Rattle.links.specs.Chains.{code_of}
use Rattle.links.proofs.ChainLaws.{OnChain}
use Rattle.steps.specs.Handover.{pass_from}
use Rattle.handing.specs.Open.{tied, waiting_in, OpensBy, OnlyReady}
use Rattle.handing.proofs.open.Open.pass_on.Given as goal

abbrev pub invariant-loop-at : goal.invariant-loop-at
invariant-loop-at l =
    let m = length l.job.links.now in
    (n : ℕ) × OnChain (befores_of l.job.links.now) l.p m (code_of l.at) n
    × (pass_from (tied l.job) l.p l.c n (waiting_in l.self l.states)
    ≡ pass_from (tied l.job) l.p l.c m (waiting_in l.initial.self l.initial.states))
    × OnlyReady l.initial.states l.states × OpensBy m l.job l.initial.self l.self

abbrev pub decreases-loop-at : goal.decreases-loop-at
decreases-loop-at l = code_of l.at
