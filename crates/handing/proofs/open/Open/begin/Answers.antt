-- `begin` counts what each piece waits for, puts those that wait for none in the table, and notes their places.
use Rattle.std.proofs.Common.{arith}
use Rattle.handing.proofs.Opened.{markable, opening_first}
use Rattle.handing.proofs.open.Open.begin.Goals as goal

pub mark-requires : goal.mark-requires
mark-requires c =
    markable c.args.pieces c.place_free-self.result _ _ _ c.requires.few (omega arith) c.place_free-self.ensures

pub returns-clause-open_first : goal.returns-clause-open_first
returns-clause-open_first c U all =
    let same = c.mark.ensures.same in
    rw (same.0, same.1, same.2) (opening_first c.args.pieces c.place_free-self.result _ _ _ U all
    c.mark.ensures.sized c.mark.ensures.placed c.place_free-self.ensures)
