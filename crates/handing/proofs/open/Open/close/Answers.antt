-- `close` takes four steps over two tables: what they leave is what is open without the piece.
use Rattle.std.specs.Prelude.{◌≤◌, ◌<◌, get_or}
use Rattle.std.proofs.Common.{arith}
use Rattle.handing.proofs.Opened.{opened_few}
use Rattle.handing.proofs.Closed.{p_in, closes}
use Rattle.handing.proofs.open.Open.close.Goals.{Start}
use Rattle.handing.proofs.open.Open.close.Goals as goal

-- The piece, its place and the last piece are inside the tables.
few : (s : Start) → s.args.self.now.count ≤ 256
few s =
    let o = s.args.self.now in
    let k = s.requires in
    omega (arith, k.few, opened_few k.pieces o.count o.table o.place k.among k.waits k.opening)

place_in : (s : Start) → get_or s.args.self.now.place s.args.i 0 < s.args.self.now.count
place_in s =
    let o = s.args.self.now in
    let k = s.requires in
    p_in k.pieces s.args.i o.count o.table o.place k.among k.waits k.opening k.few k.there

pub bounds-self-self : goal.bounds-self-self
bounds-self-self c =
    omega (arith, place_in (goal.at.bounds-self-self c).Start, few (goal.at.bounds-self-self c).Start)

pub bounds-self-from : goal.bounds-self-from
bounds-self-from c =
    omega (arith, c.from.ensures, place_in (goal.at.bounds-self-from c).Start, few (goal.at.bounds-self-from c).Start)

pub returns-clause-closes : goal.returns-clause-closes
returns-clause-closes c =
    let o = c.args.self.now in
    rw (c.from.ensures, c.from-2.ensures) (closes c.args.i o.count o.table o.place c.requires)
