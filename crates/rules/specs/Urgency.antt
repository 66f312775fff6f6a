-- "The plan by urgency": slot by slot from 0, every desk works on its ready unfinished piece with the smallest latest
-- moment, lowest number first where equal, and rests only if nothing is ready. This file is demand 2.
use Rattle.std.specs.Prelude.{ℕ, zero, suc, ◌+◌, ◌-◌, Bool, ◌&&◌, List, [], ◌∷◌, map, leb, ltb, eqb, get_or}
use Rattle.std.proofs.Math.Option.{Option, none, some}
use Rattle.rules.specs.Words.{when, keep, every, below, sum, greatest, is_it}
use Rattle.rules.specs.Job.{Job, piece_count, piece, desk, duration, desk_pieces, links_into}
use Rattle.rules.specs.Hours.{is_open}
use Rattle.rules.specs.Moments.{delay, sooner}
use Rattle.rules.specs.declared.Link.{Link}

-- How far a piece is: the slots it still needs; the first slot worked; one past the last slot worked.
pub record Progress : Type 0 where
  pub left : ℕ
  pub start : ℕ
  pub finish : ℕ

abbrev pub untouched : ℕ → Progress
untouched n = record { left = n; start = 0; finish = 0 }

-- How far piece i is, out of the list for all pieces.
abbrev pub progress : List Progress → ℕ → Progress
progress W i = get_or W i (untouched 0)

-- A piece is finished when it has had its whole duration: not when it is begun, and not when it is interrupted.
unfoldable pub is_finished : List Progress → ℕ → Bool
is_finished W i = eqb (progress W i).left 0

-- The piece before was finished, at a moment c with c + delay at most t.
unfoldable pub handed_over : Job → List Progress → ℕ → Link → Bool
unfolding is_finished delay
handed_over J W t l = is_finished W l.before && leb ((progress W l.before).finish + delay J l) t

-- A piece is ready at moment t if t is at least its release and each piece before it is finished and handed over.
unfoldable pub is_ready : Job → List Progress → ℕ → ℕ → Bool
unfolding every handed_over links_into
is_ready J W t i = leb (piece J i).release t && every (handed_over J W t) (links_into J i)

-- The ready unfinished pieces of desk d.
unfoldable pub waiting : Job → List Progress → ℕ → ℕ → List ℕ
unfolding keep is_finished is_ready desk_pieces
waiting J W d t = keep (λ i. ltb 0 (progress W i).left && is_ready J W t i) (desk_pieces J d)

-- Of two pieces the one that goes before the other.
unfoldable pub preferred : Job → ℕ → Option ℕ → ℕ
unfolding when sooner
preferred J i none = i
preferred J i (some j) = when (sooner J j i) j i

-- The most urgent of a list; none of an empty one.
unfoldable pub most_urgent : Job → List ℕ → Option ℕ
unfolding preferred
most_urgent J [] = none
most_urgent J (i ∷ is) = some (preferred J i (most_urgent J is))

-- The piece that desk d works on in slot t, with the pieces as far as W says; none if the desk rests.
unfoldable pub choice : Job → List Progress → ℕ → ℕ → Option ℕ
unfolding when is_open most_urgent waiting
choice J W d t = when (is_open J d t) (most_urgent J (waiting J W d t)) none

-- A piece worked on in slot t: the first slot of it is its start.
unfoldable pub worked_on : ℕ → ℕ → Progress → Progress
unfolding when
worked_on whole t p =
    record { left = p.left - 1; start = when (eqb p.left whole) t p.start; finish = t + 1 }

-- How far piece i is after slot t.
unfoldable pub after_slot : Job → ℕ → List Progress → ℕ → Progress
unfolding when choice worked_on is_it
after_slot J t W i =
    when (is_it (choice J W (desk J i) t) i) (worked_on (duration J i) t (progress W i)) (progress W i)

-- How far every piece is at moment t.
unfoldable pub work_at : Job → ℕ → List Progress
unfolding after_slot below
work_at J zero = map (λ p. untouched p.duration) J.pieces
work_at J (suc t) = let W = work_at J t in map (after_slot J t W) (below (piece_count J))

-- Who desk d works on in slot t.
unfoldable pub worked : Job → ℕ → ℕ → Option ℕ
unfolding choice work_at
worked J d t = choice J (work_at J t) d t

-- A moment by which every piece is finished: the greatest release, all durations, and for each piece its longest delay.
unfoldable pub horizon : Job → ℕ
unfolding greatest sum below links_into delay
horizon J =
    greatest 0 (map (λ p. p.release) J.pieces) + sum (map (λ p. p.duration) J.pieces)
    + sum (map (λ i. greatest 0 (map (delay J) (links_into J i))) (below (piece_count J)))

-- The finished plan: start is the first slot worked, finish is one past the last.
unfoldable pub start : Job → ℕ → ℕ
unfolding work_at horizon
start J i = (progress (work_at J (horizon J)) i).start

unfoldable pub finish : Job → ℕ → ℕ
unfolding work_at horizon
finish J i = (progress (work_at J (horizon J)) i).finish
