-- `latest_moments` meets its contract: the pieces behind those in front, the first of the order, have their moments.
use Prim.Native.Nat.{ℕ, suc, ◌+◌, ◌<◌}
use mathlib.Core.List.{List, [], ◌∷◌, ◌++◌}
use mathlib.Core.Path.{◌≡◌, ◌∙◌}
use native.Mathlib.Omega.{arith}
use lib.ListN.{length, length-set, take, get_or}
use mir.Syntax.{w32}
use mir.Facts.{to_z-of_z}
use Rattle.moments.proofs.TimedLaws.{Done, done_all, turn_asks, turn_done, turn_inside}
use Rattle.moments.proofs.TimedLaws.{front_all, longer, last_in, last_is, front_less}
use Rattle.moments.proofs.latest_moments.Goals.{In-Some}
use Rattle.moments.proofs.latest_moments.Goals as goal

pub loop-number-init : goal.loop-number-init
loop-number-init c =
    let a = c.args in
    let all : c.into_iter-number-iterator.result.iter.rest.now ≡ take (length a.pieces.now) a.walk.now.order =
    cc (c.iter.ensures.rest, c.rev-number-items.ensures.source, c.into_iter-number-iterator.ensures.into_iter_gives) in
    let w = front_all a.walk.now.order _ (length a.pieces.now)
    (omega (arith, c.requires.sound.few_pieces, c.requires.walkable.ordered.sized)) all in
    record { sized = c.told-moments; first = w.1; done = λ q h l. absurd (omega (arith, w.0, h, l)) }

-- The piece that has its turn is the last of those in front, and those behind it are done.
module _ (c : In-Some) where
  abbrev before : List ℕ
  before = c.loop-number.number-iterator.iter.rest.now

  abbrev front : List ℕ
  front = c.next.new.self.iter.rest.now

  split : before ≡ front ++ (c.in-Some.field-0.now ∷ [])
  split = c.in-Some.ensures.steps

  place_in : length front < length c.args.pieces.now
  place_in = last_in c.args.walk.now.order before front _ _ c.loop-number.invariant.first split

  place_is : c.in-Some.field-0.now ≡ get_or c.args.walk.now.order (length front) 0
  place_is = last_is c.args.walk.now.order before front _ _ c.loop-number.invariant.first split

  onward : Done c.args.pieces.now c.args.links.now c.args.walk.now (suc (length front)) c.loop-number.moments
  onward q h l = c.loop-number.invariant.done q (omega (arith, more, h)) l
    where
      more : length before ≡ length front + 1
      more = longer c.args.walk.now.order before front _ _ c.loop-number.invariant.first split

pub piece_moment-requires : goal.piece_moment-requires
piece_moment-requires c =
    let turn = (goal.at.piece_moment-requires c).In-Some in
    rw (c.from-i.ensures, place_is turn) (turn_asks c.requires _ (place_in turn) _ (onward turn))

pub bounds-moments-i : goal.bounds-moments-i
bounds-moments-i c =
    let turn = (goal.at.bounds-moments-i c).In-Some in
    let inside = turn_inside c.requires _ (place_in turn) _ (onward turn) in
    omega (arith, c.from-i.ensures, place_is turn, inside, c.requires.sound.few_pieces)

pub loop-number-preserved : goal.loop-number-preserved
loop-number-preserved c =
    let turn = (goal.at.loop-number-preserved c).In-Some in
    let l = c.loop-number in
    let e = to_z-of_z {w = w32} {z = c.piece_moment.result} (record { sfits = c.piece_moment.type_inv }) in
    let is = rw (c.from-i.ensures, place_is turn) at c.piece_moment.ensures in record {
      sized = length-set l.moments _ _ ∙ l.invariant.sized;
      first = front_less _ _ _ _ _ l.invariant.first (split turn);
      done = rw (e, c.from-i.ensures, place_is turn)
          (turn_done c.requires _ (place_in turn) _ (onward turn) _ is l.invariant.sized);
    }

pub returns : goal.returns
returns c =
    let l = c.loop-number in
    let e : length l.number-iterator.iter.rest.now ≡ 0 = c.in-None.ensures.steps.0 in
    record { sized = l.invariant.sized; latests = done_all c.requires l.moments (rw e at l.invariant.done) }
