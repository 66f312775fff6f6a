-- `piece_moment` walks the chain of the links from the piece: the least so far is no less than its latest moment, and no
-- more than its due and than what the links behind leave.
use mathlib.Core.Path.{◌≡◌, ap, ◌∙◌}
use native.Mathlib.Omega.{arith}
use lib.ListN.{get_or}
use mir.Syntax.{w32}
use mir.Val.{to_z, of_z}
use mir.Facts.{to_z-of_z}
use mir.ValLaws.{to_z_pos}
use Rattle.rules.specs.Job.{no_piece}
use Rattle.rules.specs.Words.{lesser_z}
use Rattle.rules.specs.Tables.{job_of, no_link}
use Rattle.laws.proofs.Sound.{fits}
use Rattle.moments.specs.Moments.{left_by}
use Rattle.moments.proofs.TimedLaws.{timing_start, timing_place, timing_falls, timing_leave, timing_more, timing_end}
use Rattle.moments.proofs.TimedLaws.{int_min_is}
use Rattle.moments.proofs.piece_moment.Goals.{After-min-least}
use Rattle.moments.proofs.piece_moment.Goals as goal

pub overflow_cast-least : goal.overflow_cast-least
overflow_cast-least c =
    let p = c.requires in
    omega (arith, (fits (job_of c.args.pieces.now c.args.links.now) p.sound c.args.i p.one).due_most)

pub loop-at-init : goal.loop-at-init
loop-at-init c =
    let p = c.requires in
    let due = (fits (job_of c.args.pieces.now c.args.links.now) p.sound c.args.i p.one).due_most in
    rw (to_z_pos w32 (get_or c.args.pieces.now c.args.i no_piece).due (omega (arith, due)))
    (timing_start _ _ _ p _ c.first-at.ensures)

pub left_by-requires : goal.left_by-requires
left_by-requires c = timing_leave _ _ _ c.requires (rw c.in-Some.is at c.loop-at.invariant)

pub next-at-requires : goal.next-at-requires
next-at-requires c =
    omega (arith, timing_place _ _ _ c.requires (rw c.in-Some.is at c.loop-at.invariant), c.requires.sound.few_links)

pub loop-at-smaller : goal.loop-at-smaller
loop-at-smaller c =
    rw (c.in-Some.is, c.next-at.ensures) (timing_falls _ _ _ c.requires (rw c.in-Some.is at c.loop-at.invariant))

-- The least so far with what the link leaves.
lessened : (c : After-min-least) → to_z w32 (of_z w32 c.min-least.result)
    ≡ lesser_z (to_z w32 c.loop-at.least-bits)
    (left_by (job_of c.args.pieces.now c.args.links.now) c.args.moments.now (get_or c.args.links.now c.in-Some.k no_link))
lessened c =
    let m = c.min-least in
    let l = c.left_by in
    to_z-of_z {w = w32} {z = m.result} (record { sfits = m.type_inv }) ∙ m.ensures.value
    ∙ int_min_is (to_z w32 c.loop-at.least-bits) (to_z w32 (of_z w32 l.result))
    ∙ ap (lesser_z (to_z w32 c.loop-at.least-bits))
    (to_z-of_z {w = w32} {z = l.result} (record { sfits = l.type_inv }) ∙ l.ensures)

pub loop-at-preserved : goal.loop-at-preserved
loop-at-preserved c =
    let after = (goal.at.loop-at-preserved c).After-min-least in
    timing_more _ _ _ c.requires (rw c.in-Some.is at c.loop-at.invariant) _ c.next-at.ensures _ (lessened after)

pub returns : goal.returns
returns c = timing_end _ _ _ c.requires (rw c.in_default.is at c.loop-at.invariant)
