-- `mark_led` meets its contract: after k links the marks tell who is led by one of them into the slice.
use Rattle.std.proofs.Common.{sym, rules}
use denote.Enum.Bare.{differs_true, differs_false}
use Rattle.blocksteps.specs.contracts.aside.Mark.{the_type}
use Rattle.blocksteps.specs.declared.aside.Mark.TheVariants.{Outside}
use Rattle.std.proofs.lemmas.List.{take_all}
use Rattle.blocksteps.proofs.Marked.{links_none, link_inside, link_from_outside, link_to_outside}
use Rattle.blocksteps.proofs.aside.mark_led.Goals as goal
use Rattle.blocksteps.proofs.aside.mark_led.Goals.{then-ne+then-ne-2, else-ne, else-ne-via-then-ne+else-ne-2}
use Rattle.blocksteps.proofs.aside.mark_led.Goals.{else-ne-via-else-ne}

pub loop-link-init : goal.loop-link-init
loop-link-init c es h = links_none _ c.args.links.now es h

pub loop-link-preserved : goal.loop-link-preserved
loop-link-preserved c es h =
    let s = c.loop-link in
    let k = s.link-index in
    let p = c.requires.tied in
    let small_b = p.before_known k c.loop-link-test.true in
    let small_a = p.after_known k c.loop-link-test.true in
    let g = s.invariant es h in
    elim c.if-ne.branch [
      | then-ne+then-ne-2 w ↦
          rw (w.marks-is, c.from-before.ensures)
          (link_inside s.marks c.args.links.now es k c.loop-link-test.true g small_b small_a
          (rw c.from-before.ensures at (differs_true the_type _ Outside (sym w.if-ne.ensures)))
          (rw c.from-after.ensures at (differs_true the_type _ Outside (sym w.if-ne-2.ensures))))
      | else-ne w ↦ rw w.marks-is
          (elim w.else-ne.branch [
            | else-ne-via-then-ne+else-ne-2 v ↦
                link_to_outside s.marks c.args.links.now es k c.loop-link-test.true g small_a
                (rw c.from-after.ensures at (differs_false the_type (search rules) _ Outside (sym v.if-ne-2.ensures)))
            | else-ne-via-else-ne v ↦
                link_from_outside s.marks c.args.links.now es k c.loop-link-test.true g small_b
                (rw c.from-before.ensures at (differs_false the_type (search rules) _ Outside (sym v.if-ne.ensures)))
          ])
    ]

pub returns : goal.returns
returns c es h =
    rw (take_all c.loop-link.link-index c.args.links.now c.loop-link-test.false) at (c.loop-link.invariant es h)
