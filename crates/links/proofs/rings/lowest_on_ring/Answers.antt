-- `lowest_on_ring` meets its contract: no piece passed so far leads to itself.
use mathlib.Core.Path.{◌≡◌, sym, ◌∙◌}
use native.Mathlib.Omega.{arith}
use lib.ListN.{length}
use Rattle.rules.specs.Rings.{via}
use Rattle.rules.specs.Tables.{befores_of, afters_of}
use Rattle.links.specs.Links.{follows}
use Rattle.links.proofs.Counting.{below_or_last}
use Rattle.links.proofs.RingLaws.{free_ring, ring_first}
use Rattle.links.proofs.rings.lowest_on_ring.Goals.{After-leads_back}
use Rattle.links.proofs.rings.lowest_on_ring.Goals as goal

pub leads_back-requires : goal.leads_back-requires
leads_back-requires c =
    let p = c.requires in
    record { net = record { pieces = c.args.pieces; ties = p.ties; chained = p.chained }; one = c.loop-i-test.true }

module _ (c : After-leads_back) where
  answered : c.leads_back.result
      ≡ via (follows (length c.args.links.now) (befores_of c.args.links.now) (afters_of c.args.links.now)) c.args.pieces
      c.loop-i.i c.loop-i.i
  answered =
      let p = c.requires in
      c.leads_back.ensures (record { pieces = c.args.pieces; ties = p.ties; chained = p.chained }) c.loop-i-test.true

pub returns-then-leads_back : goal.returns-then-leads_back
returns-then-leads_back c =
    let e = answered (goal.at.returns-then-leads_back c).After-leads_back in
    sym (ring_first _ c.args.pieces c.loop-i.i c.loop-i-test.true (sym e ∙ c.if-leads_back.true) c.loop-i.invariant)

pub loop-i-preserved : goal.loop-i-preserved
loop-i-preserved c j l =
    let e = answered (goal.at.loop-i-preserved c).After-leads_back in
    below_or_last j c.loop-i.i (omega arith)
    (c.loop-i.invariant j)
    (λ q. rw q (sym e ∙ c.if-leads_back.false))

pub returns : goal.returns
returns c = sym (free_ring _ c.args.pieces (λ i l. c.loop-i.invariant i (omega (arith, c.loop-i-test.false))))
