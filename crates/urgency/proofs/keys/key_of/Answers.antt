-- `key_of` meets its contract: the raised moment is not below zero, and everything fits.
use native.Mathlib.Omega.{arith}
use lib.IntN.{pos}
use mir.Syntax.{w32}
use mir.Val.{SFits}
use mir.Facts.{to_z-of_z}
use Rattle.urgency.proofs.Ranking.{raised}
use Rattle.urgency.proofs.keys.key_of.Goals as goal

pub returns : goal.returns
returns c =
    let r = raised c.args.latest c.args.i c.requires.0 in
    let fit : SFits w32 (pos r.high) = record { sfits = omega (arith, r.small) } in
    rw (to_z-of_z c.ranges.latest, r.is, to_z-of_z fit) r.key
