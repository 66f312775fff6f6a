-- `look_at` looks at the open pieces one after the other: a piece is ready later, or its key is put up for its desk.
use Rattle.std.specs.Prelude.{ℕ, ◌+◌, List, ◌≡◌, length, get_or}
use Rattle.std.proofs.Common.{refl, sym, ◌∙◌, arith}
use Rattle.rules.specs.Tables.{desks_of}
use Rattle.laws.proofs.Columns.{get_or-desks}
use Rattle.steps.specs.Choice.{View, view}
use Rattle.steps.specs.Keys.{no_key}
use Rattle.steps.specs.Opening.{Among}
use Rattle.steps.specs.States.{ready_of, no_state}
use Rattle.steps.proofs.States.{get_or-ready}
use Rattle.deciding.proofs.Desks.{busy_few}
use Rattle.deciding.proofs.Looking.{looked_none, looked_later, looked_offered}
use Rattle.deciding.proofs.Places.{among_more, among_last, among_split}
use Rattle.deciding.proofs.look_at.Goals.{In-loop-i, Start, then-later, else-later}
use Rattle.deciding.proofs.look_at.Goals as goal

-- What the function sees.
abbrev seen : Start → List ℕ → View
seen s left =
    let a = s.args in view a.t (desks_of a.pieces.now) a.keys.now left (ready_of a.states.now)

pub loop-i-init : goal.loop-i-init
loop-i-init c left =
    let a = c.args in
    looked_none (seen (goal.at.loop-i-init c).Start left) a.opened.now
    a.best.now a.busy.now c.told-best c.told-busy c.requires.clear

-- The piece that a turn looks at.
abbrev piece : In-loop-i → ℕ
piece c = get_or c.args.opened.now c.loop-i.i-index 0

ready_is : (c : In-loop-i)
    → (get_or c.args.states.now (piece c) no_state).ready ≡ get_or (ready_of c.args.states.now) (piece c) 0
ready_is c = sym (get_or-ready c.args.states.now (piece c))

pub offer-count-requires : goal.offer-count-requires
offer-count-requires c =
    let turn = (goal.at.offer-count-requires c).In-loop-i in
    let l = c.loop-i in
    let desk : c.from.result ≡ get_or (desks_of c.args.pieces.now) (piece turn) 0 =
    rw c.from-i.ensures at c.from.ensures ∙ sym (get_or-desks c.args.pieces.now (piece turn)) in (
      rw desk (c.requires.lookable.desk_most l.i-index c.loop-i-test.true),
      omega (arith, busy_few no_key l.count l.best l.busy (l.invariant c.args.opened.now).working),
    )

pub loop-i-preserved : goal.loop-i-preserved
loop-i-preserved c left =
    let start = (goal.at.loop-i-preserved c).Start in
    let turn = (goal.at.loop-i-preserved c).In-loop-i in
    let l = c.loop-i in
    let table = c.args.opened.now in
    elim c.if-later.branch [
      | then-later w ↦
          let late = rw (c.from-i.ensures, ready_is turn) at w.if-later.true in
          let least = rw (c.from-i.ensures, ready_is turn) at w.min-next.ensures in
          rw (w.count-is, w.best-is, w.busy-is, w.next-is)
          (looked_later (seen start left) (Among table l.i-index) (Among table (l.i-index + 1))
          (among_more table l.i-index) (piece turn) (among_last table l.i-index) (among_split table l.i-index)
          l.count l.best l.busy l.next _ late least (l.invariant left))
      | else-later w ↦
          let desk : w.from.result ≡ get_or (desks_of c.args.pieces.now) (piece turn) 0 =
          rw c.from-i.ensures at w.from.ensures ∙ sym (get_or-desks c.args.pieces.now (piece turn)) in
          let ready = rw (c.from-i.ensures, ready_is turn) at w.if-later.false in
          let put = rw (c.from-i.ensures, desk) at w.offer-count.ensures in
          rw (w.count-is, w.best-is, w.busy-is, w.next-is)
          (looked_offered (seen start left) (Among table l.i-index) (Among table (l.i-index + 1))
          (among_more table l.i-index) (piece turn) (among_last table l.i-index) (among_split table l.i-index)
          (get_or (desks_of c.args.pieces.now) (piece turn) 0)
          (c.requires.lookable.desk_most l.i-index c.loop-i-test.true) refl ready
          (λ j m. rw m.2 at (c.requires.lookable.own_key m.0 (omega (arith, m.1, c.loop-i-test.true))))
          l.count l.best l.busy l.next (l.invariant left) _ put)
    ]

pub returns : goal.returns
returns c =
    let e : c.loop-i.i-index ≡ length c.args.opened.now = omega (arith, c.loop-i.auto.i-index-end) in
    rw e at c.loop-i.invariant
