-- `mark_led` meets its contract: after k links the marks tell who is led by one of them into the slice.
use Rattle.std.proofs.Common.{List, take}
use Rattle.rules.specs.Rings.{linked_by}
use Rattle.entries.specs.declared.list.Entry.{Entry}
use Rattle.blocksteps.specs.Aside.{Marks, member_mark, led_mark}
use Rattle.blocksteps.proofs.aside.mark_led.Given as goal

abbrev pub invariant-loop-link : goal.invariant-loop-link
invariant-loop-link l =
    (es : List Entry) → Marks l.initial.marks (member_mark es)
    → Marks l.marks (led_mark (linked_by (take l.link-index l.links)) es)
