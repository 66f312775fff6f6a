-- "Latest moments and ready moments", from equations (4.2) and (4.3) of the paper, links in any numbering. What a ready
-- piece is in the midst of a plan stands with the plan by urgency; the moments of a finished plan with the block method.
use Rattle.std.specs.Prelude.{ℕ, zero, suc, ◌+◌, Bool, ◌&&◌, ◌||◌, map, ltb, eqb, ℤ, pos, ◌-ℤ◌}
use Rattle.std.specs.Int.Signed.{lt_z, le_z}
use Rattle.rules.specs.Words.{when, least_z}
use Rattle.rules.specs.Job.{Job, piece_count, piece, desk, duration, links_from}
use Rattle.rules.specs.declared.Link.{Link}

-- A link between two desks delays by its handover. On one desk the handover counts as 0.
unfoldable pub delay : Job → Link → ℕ
unfolding when
delay J l = when (eqb (desk J l.before) (desk J l.after)) 0 l.handover

-- What a follower takes off its own latest moment for the piece before it: its duration and the delay of the link.
unfoldable pub takes_off : Job → Link → ℕ
unfolding delay
takes_off J l = duration J l.after + delay J l

-- The latest moment of piece i, chains of up to so many links followed: the least of its own due and, over each piece
-- after it, that piece's latest moment less what it takes off. It may lie below zero and stays a signed number.
unfoldable pub latest_within : Job → ℕ → ℕ → ℤ
unfolding least_z links_from takes_off
latest_within J zero i = pos (piece J i).due
latest_within J (suc n) i =
    least_z (pos (piece J i).due) (map (λ l. latest_within J n l.after -ℤ pos (takes_off J l)) (links_from J i))

-- No chain of links is longer than the number of pieces where there is no ring.
unfoldable pub latest : Job → ℕ → ℤ
unfolding latest_within
latest J i = latest_within J (piece_count J) i

-- Piece i goes before piece j: the smaller latest moment, the lower number where equal.
unfoldable pub sooner : Job → ℕ → ℕ → Bool
unfolding latest
sooner J i j = lt_z (latest J i) (latest J j) || (le_z (latest J i) (latest J j) && ltb i j)
