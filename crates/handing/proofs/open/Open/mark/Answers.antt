-- `mark` notes the place of one open piece more.
use Rattle.std.specs.Prelude.{◌<◌, ◌≡◌, get_or}
use Rattle.std.proofs.Common.{◌∙◌, arith}
use Rattle.std.proofs.lemmas.List.{get_or-take}
use Rattle.std.proofs.Math.ListN.{length-set}
use borrow.Author.Tests.{eqb-true, eqb-false}
use lib.Dec.{eqb}
use lib.Seq.{get_or-set_same, get_or-set_other}
use Rattle.laws.proofs.Words.{by_test}
use Rattle.handing.proofs.open.Open.mark.Goals as goal

pub loop-k-preserved : goal.loop-k-preserved
loop-k-preserved c =
    let l = c.loop-k in
    let o = c.args.self.now in
    let place = l.self.1.1.1.0 in
    let here : l.k < o.count = omega (arith, c.loop-k-test.true) in
    let is : c.from.result ≡ get_or o.table l.k 0 = c.from.ensures ∙ get_or-take o.count o.table l.k 0 here in
    let small = c.requires.small l.k here in (
      length-set place c.from.result l.k ∙ l.invariant.0,
      λ q h. by_test (eqb q l.k)
          (λ e. let z : q ≡ l.k = eqb-true q l.k e in
          rw (z, is) (get_or-set_same place (get_or o.table l.k 0) l.k 0 (omega (arith, small, l.invariant.0))))
          (λ e. let ne = eqb-false q l.k e in
          let below : q < l.k = omega arith in
          rw is (get_or-set_other place (get_or o.table l.k 0) (get_or o.table q 0) l.k 0
          (λ z. ne (c.requires.once q l.k (omega arith) here z)) ∙ l.invariant.1 q below)),
    )
