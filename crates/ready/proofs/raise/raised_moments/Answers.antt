-- `raised_moments` meets its contract: the pieces that had their turn have their raised ready moments.
use mathlib.Core.List.{List}
use mathlib.Core.Path.{◌≡◌}
use Prim.Native.Nat.{ℕ, ◌≤◌, ◌<◌}
use native.Mathlib.Omega.{arith}
use lib.ListN.{length, take}
use Rattle.std.proofs.lemmas.List.{get_or-take, length-take-le}
use Rattle.ready.proofs.Raising.{settled_none, settled_more, settled_end}
use Rattle.ready.proofs.raise.raised_moments.Goals as goal

pub loop-piece-init : goal.loop-piece-init
loop-piece-init c =
    let p = c.requires in
    settled_none p.planned.sound p.planned.free p.walkable.ordered _ c.take_releases.ensures

-- As many places of the order are looked at as there are pieces.
long : (order : List ℕ) (n : ℕ) → length order ≡ 256 → n ≤ 256 → length (take n order) ≡ n
long order n sized few = length-take-le n order (omega (arith, sized, few))

in_front : (order : List ℕ) (n k : ℕ) → length order ≡ 256 → n ≤ 256 → k < length (take n order) → k < n
in_front order n k sized few h = omega (arith, long order n sized few)

pub raise_from-requires : goal.raise_from-requires
raise_from-requires c =
    let p = c.requires in
    let n = length c.args.pieces.now in
    let k = c.loop-piece.piece-index in
    let order = c.args.walk.now.order in
    let on = in_front order n k p.walkable.ordered.sized p.planned.sound.few_pieces c.loop-piece-test.true in
    record {
      planned = p.planned;
      chained = p.walkable.chained;
      below = c.loop-piece.invariant.low;
      one = rw (c.from.ensures, get_or-take n order k 0 on) (p.walkable.ordered.inside k on);
    }

pub loop-piece-preserved : goal.loop-piece-preserved
loop-piece-preserved c =
    let p = c.requires in
    let n = length c.args.pieces.now in
    let k = c.loop-piece.piece-index in
    let order = c.args.walk.now.order in
    let on = in_front order n k p.walkable.ordered.sized p.planned.sound.few_pieces c.loop-piece-test.true in
    settled_more p.planned.sound p.planned.free p.walkable.ordered _ on c.loop-piece.invariant
    (rw (c.from.ensures, get_or-take n order k 0 on) at c.raise_from.ensures)

pub returns : goal.returns
returns c =
    let p = c.requires in
    let n = length c.args.pieces.now in
    settled_end p.planned.sound p.planned.free p.walkable.ordered _ _ c.loop-piece.invariant
    (omega (
      arith,
      c.loop-piece-test.false,
      long c.args.walk.now.order n p.walkable.ordered.sized p.planned.sound.few_pieces,
    ))
