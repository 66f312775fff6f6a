-- `left_by` meets its contract: the difference fits.
use mathlib.Core.Path.{◌≡◌}
use native.Mathlib.Omega.{arith}
use lib.IntN.{pos, ◌-ℤ◌}
use lib.ListN.{get_or}
use mir.Syntax.{w32}
use mir.Val.{to_z, of_z}
use mir.Facts.{to_z-of_z}
use Rattle.rules.specs.Tables.{job_of, no_link}
use Rattle.laws.proofs.Sound.{link_fit, place_mem}
use Rattle.moments.specs.Moments.{left_by}
use Rattle.moments.proofs.TimedLaws.{moment_fits, left_fits}
use Rattle.moments.proofs.left_by.Goals.{After-takes_off}
use Rattle.moments.proofs.left_by.Goals as goal

pub bounds-moments-after : goal.bounds-moments-after
bounds-moments-after c =
    let p = c.requires in
    let inside = (link_fit (job_of c.args.pieces.now c.args.links.now) p.sound (get_or c.args.links.now c.args.k no_link)
    (place_mem no_link c.args.links.now c.args.k p.here)).after_one in
    omega (arith, c.from-after.ensures, inside, p.sound.few_pieces)

-- What is computed is what the definition says.
computed : (c : After-takes_off)
    → (to_z w32 (of_z w32 (get_or c.args.moments.now c.from-after.result (pos 0))) -ℤ to_z w32 (of_z w32 c.takes_off.result))
    ≡ left_by (job_of c.args.pieces.now c.args.links.now) c.args.moments.now (get_or c.args.links.now c.args.k no_link)
unfolding left_by
computed c = rw (
  c.from-after.ensures,
  to_z-of_z (moment_fits c.requires),
  to_z-of_z {w = w32} {z = c.takes_off.result} (record { sfits = c.takes_off.type_inv }),
  c.takes_off.ensures,
)

pub overflow_sub-result : goal.overflow_sub-result
overflow_sub-result c = rw (computed c) (left_fits c.requires)

pub returns : goal.returns
returns c = rw (computed (goal.at.returns c).After-takes_off) (to_z-of_z (left_fits c.requires))
