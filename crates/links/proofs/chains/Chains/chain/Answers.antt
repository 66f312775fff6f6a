-- `Chains::chain` meets its contract: each link is put at the end of its chain, and the other chains stay.
use Prim.Native.Nat.{◌<◌}
use mathlib.Core.Path.{◌≡◌, sym, ◌∙◌}
use native.Mathlib.Omega.{arith}
use lib.ListN.{get_or}
use Rattle.rules.specs.Tables.{befores_of}
use Rattle.laws.proofs.Columns.{get_or-befores}
use Rattle.links.proofs.ChainLaws.{chained_none, chained_more}
use Rattle.links.proofs.chains.Chains.chain.Goals.{After-from-i}
use Rattle.links.proofs.chains.Chains.chain.Goals as goal

pub loop-k-init : goal.loop-k-init
loop-k-init c = chained_none _ _ _ _ c.requires (omega arith) (omega arith)

module _ (c : After-from-i) where
  from : c.from-i.result ≡ get_or (befores_of c.args.links.now) c.loop-k.k 0
  from = c.from-i.ensures ∙ sym (get_or-befores c.args.links.now c.loop-k.k)

  small : c.from-i.result < 256
  small = omega (arith, from, c.requires.small c.loop-k.k c.loop-k-test.true)

pub bounds-self-i : goal.bounds-self-i
bounds-self-i c = small (goal.at.bounds-self-i c).After-from-i

pub bounds-self-i-in-loop-k : goal.bounds-self-i-in-loop-k
bounds-self-i-in-loop-k c = small (goal.at.bounds-self-i-in-loop-k c).After-from-i

pub loop-k-preserved : goal.loop-k-preserved
loop-k-preserved c =
    let l = c.loop-k in
    let p = c.requires in
    rw (from (goal.at.loop-k-preserved c).After-from-i)
    (chained_more _ l.k _ _ l.invariant (p.small l.k c.loop-k-test.true) (omega (arith, p.few)))
