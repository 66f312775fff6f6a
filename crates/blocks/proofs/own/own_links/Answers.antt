-- `own_links` meets its contract: after k links the list has those of the desk among them.
use Rattle.std.proofs.Common.{◌∙◌, ap, arith}
use Rattle.laws.proofs.Columns.{get_or-desks}
use Rattle.blocks.proofs.Owning.{picked_more, picked_from, picked_to}
use Rattle.blocks.proofs.own.own_links.Goals as goal
use Rattle.blocks.proofs.own.own_links.Goals.{then-before-desk+then-after-desk, else-before-desk}
use Rattle.blocks.proofs.own.own_links.Goals.{else-before-desk-via-then-before-desk+else-after-desk}
use Rattle.blocks.proofs.own.own_links.Goals.{else-before-desk-via-else-before-desk}

pub loop-link-preserved : goal.loop-link-preserved
loop-link-preserved c =
    let s = c.loop-link in
    let k = s.link-index in
    let p = c.requires in
    let ls = c.args.links.now in
    let some = c.loop-link-test.true in
    let kb = p.between.before_known k some in
    let ka = p.between.after_known k some in
    elim c.if-before-desk.branch [
      | then-before-desk+then-after-desk w ↦
          picked_more _ _ ls k s.own.items s.invariant some _ (ap (λ v. v.items) w.own-is ∙ w.push.ensures.items)
          (omega (arith, kb, p.few.0)) (omega (arith, ka, p.few.0))
      | else-before-desk w ↦
          rw w.own-is
          (elim w.else-before-desk.branch [
            | else-before-desk-via-then-before-desk+else-after-desk v ↦
                picked_to _ _ ls k s.own.items s.invariant some
                (rw (get_or-desks c.args.pieces.now _) (rw c.from-in-loop-link.ensures at v.if-after-desk.false))
            | else-before-desk-via-else-before-desk v ↦
                picked_from _ _ ls k s.own.items s.invariant some
                (rw (get_or-desks c.args.pieces.now _) (rw c.from.ensures at v.if-before-desk.false))
          ])
    ]
