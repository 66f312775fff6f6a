-- `leads_back` meets its contract: piece i is placed exactly if it leads to itself.
use Prim.Native.Nat.{ℕ, ◌<◌, ◌≤◌}
use mathlib.Core.Path.{◌≡◌, refl}
use native.Mathlib.Omega.{arith}
use lib.ListN.{get_or, replicate, get_or-replicate}
use Rattle.links.specs.Queue.{IsQueue}
use Rattle.links.proofs.QueueLaws.{queue_ones}
use Rattle.links.proofs.Placing.{placed-via}
use Rattle.links.proofs.rings.leads_back.Goals.{After-begin}
use Rattle.links.proofs.rings.leads_back.Goals as goal

-- Each piece waits for one link.
module _ (c : After-begin) (n : ℕ) (few : n ≤ 256) where
  ones : (i : ℕ) → i < n → get_or c.begin.new.self.waits i 0 ≡ 1
  ones i l = rw c.begin.ensures.begun (get_or-replicate 256 i 1 0 (omega arith))

  none_placed : IsQueue n c.begin.new.self
  none_placed =
      rw c.begin.ensures.begun
      (queue_ones n c.args.queue.now.order (replicate 256 1) c.begin.ensures.sized refl (λ i l. get_or-replicate 256 i 1 0 (omega arith)))

pub pass_on-requires : goal.pass_on-requires
pass_on-requires c =
    let p = c.requires in
    let wait = none_placed (goal.at.pass_on-requires c).After-begin p.net.pieces p.net.ties.few_pieces in
    record { net = p.net; one = p.one; queue = wait }

pub pass_all-requires : goal.pass_all-requires
pass_all-requires c =
    let p = c.requires in
    let wait = none_placed (goal.at.pass_all-requires c).After-begin p.net.pieces p.net.ties.few_pieces in
    record { net = p.net; queue = (c.pass_on.ensures p.net p.one wait).queue }

pub returns : goal.returns
returns c N one =
    let new = (goal.at.returns c).After-begin in
    let few = N.ties.few_pieces in
    let P = c.pass_on.ensures N one (none_placed new N.pieces few) in
    placed-via N.ties c.args.i (ones new N.pieces few) P (c.pass_all.ensures N P.queue) one
