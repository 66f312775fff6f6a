-- `takes_off` meets its contract: the follower's duration and the delay, whose sum fits.
use Prim.Native.Nat.{◌+◌, ◌≤◌}
use mathlib.Core.Path.{◌≡◌, ap, ◌∙◌}
use native.Mathlib.Omega.{arith}
use lib.IntN.{pos}
use lib.ListN.{length, get_or}
use mir.Syntax.{w32}
use mir.ValLaws.{to_z_pos}
use Rattle.rules.specs.Moments.{takes_off}
use Rattle.rules.specs.Tables.{job_of, no_link}
use Rattle.laws.proofs.Delay.{delay_is, takes_off_is, takes_off_most}
use Rattle.laws.proofs.Sound.{LinkFits, link_fit, place_mem}
use Rattle.moments.proofs.takes_off.Goals.{After-from, After-from-4}
use Rattle.moments.proofs.takes_off.Goals as goal

module _ (c : After-from) where
  fit : LinkFits (length c.args.pieces.now) (get_or c.args.links.now c.args.k no_link)
  fit = link_fit (job_of c.args.pieces.now c.args.links.now) c.requires.sound _
      (place_mem no_link c.args.links.now c.args.k c.requires.here)

pub offset_bounds-pieces-from : goal.offset_bounds-pieces-from
offset_bounds-pieces-from c = omega (arith, c.from.ensures, (fit c).before_one)

pub bounds-pieces-from : goal.bounds-pieces-from
bounds-pieces-from c = rw c.from.ensures (fit c).before_one

pub offset_bounds-pieces-from-2 : goal.offset_bounds-pieces-from-2
offset_bounds-pieces-from-2 c =
    omega (arith, c.from-2.ensures, (fit (goal.at.offset_bounds-pieces-from-2 c).After-from).after_one)

pub bounds-pieces-from-2 : goal.bounds-pieces-from-2
bounds-pieces-from-2 c = rw c.from-2.ensures (fit (goal.at.bounds-pieces-from-2 c).After-from).after_one

-- The sum is what the definition says, and at most 1,440.
total : (c : After-from-4) → c.from-4.result + c.delay-delayed.result
    ≡ takes_off (job_of c.args.pieces.now c.args.links.now) (get_or c.args.links.now c.args.k no_link)
total c =
    let J = job_of c.args.pieces.now c.args.links.now in
    let l = get_or c.args.links.now c.args.k no_link in
    rw (
      takes_off_is J l,
      delay_is J l,
      c.from-4.ensures,
      c.delay-delayed.ensures.0,
      c.from-3.ensures,
      c.from.ensures,
      c.from-2.ensures,
    )

small : (c : After-from-4) → c.from-4.result + c.delay-delayed.result ≤ 1440
small c = rw (total c) (takes_off_most (job_of c.args.pieces.now c.args.links.now) c.requires.sound _
    (place_mem no_link c.args.links.now c.args.k c.requires.here))

pub overflow_add-result : goal.overflow_add-result
overflow_add-result c = omega (arith, small c)

pub overflow_cast-result : goal.overflow_cast-result
overflow_cast-result c = omega (arith, small c)

pub returns : goal.returns
returns c = to_z_pos w32 _ (omega (arith, small c)) ∙ ap pos (total c)
