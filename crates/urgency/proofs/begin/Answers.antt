-- `begin` fills one place more of the tables.
use Rattle.std.specs.Prelude.{◌<◌}
use Rattle.std.proofs.Common.{sym, ◌∙◌, arith}
use Rattle.rules.specs.Tables.{durations_of, releases_of}
use Rattle.laws.proofs.Columns.{get_or-durations, get_or-releases}
use mir.Facts.{to_z-of_z}
use Rattle.urgency.proofs.Ranking.{fits_near}
use Rattle.urgency.proofs.Filled.{begun_more, keyed_more}
use Rattle.urgency.proofs.begin.Goals as goal

pub loop-i-preserved : goal.loop-i-preserved
loop-i-preserved c =
    let ps = c.args.pieces.now in
    let l = c.loop-i in
    let small : l.i < 256 = omega (arith, c.loop-i-test.true, c.requires.few) in (
      begun_more (durations_of ps) (releases_of ps) c.args.latests.now l.states l.spans l.i _ _ small
          (c.from-left.ensures ∙ sym (get_or-durations ps l.i)) (sym (get_or-releases ps l.i)) c.default.ensures.0
          c.default.ensures.1 l.invariant.0,
      keyed_more c.args.latests.now l.keys l.i _ small
          (rw (to_z-of_z (fits_near _ (c.requires.near l.i c.loop-i-test.true))) at c.key_of.ensures) l.invariant.1,
    )
