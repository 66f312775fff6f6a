-- What a piece waits for in the midst of a plan: how many links into it come from unfinished pieces, and the moment from
-- which the finished ones let it be ready. `P` says how far every piece is.
use Rattle.std.specs.Prelude.{ℕ, ◌+◌, max, Bool, not, ◌&&◌, List, [], ◌∷◌, eqb}
use Rattle.rules.specs.Words.{when}
use Rattle.rules.specs.Job.{Job, piece}
use Rattle.rules.specs.Moments.{delay}
use Rattle.rules.specs.Urgency.{Progress}
use Rattle.rules.specs.declared.Link.{Link}

-- A piece has had its whole duration.
abbrev pub done : (ℕ → Progress) → ℕ → Bool
done P i = eqb (P i).left 0

-- Of some links, those into piece i that come from an unfinished piece.
unfoldable pub waits_for : (ℕ → Progress) → ℕ → List Link → ℕ
unfolding when
waits_for P i [] = 0
waits_for P i (l ∷ ls) = when (eqb l.after i && not (done P l.before)) 1 0 + waits_for P i ls

-- What one link into piece i asks of its ready moment; nothing while the piece before is unfinished.
unfoldable pub asks : Job → (ℕ → Progress) → ℕ → Link → ℕ
unfolding when
asks J P i l = when (eqb l.after i && done P l.before) ((P l.before).finish + delay J l) 0

-- The greatest of a first moment and of what some links ask.
unfoldable pub ready_by : Job → (ℕ → Progress) → ℕ → ℕ → List Link → ℕ
unfolding asks
ready_by J P i first [] = first
ready_by J P i first (l ∷ ls) = max (asks J P i l) (ready_by J P i first ls)

-- The same for all links of the job.
unfoldable pub waits_of : Job → (ℕ → Progress) → ℕ → ℕ
unfolding waits_for
waits_of J P i = waits_for P i J.links

unfoldable pub ready_of : Job → (ℕ → Progress) → ℕ → ℕ
unfolding ready_by
ready_of J P i = ready_by J P i (piece J i).release J.links

-- Of some links, those from piece p into piece i; and what they ask of i once p is finished at moment c.
unfoldable pub links_to : ℕ → ℕ → List Link → ℕ
unfolding when
links_to p i [] = 0
links_to p i (l ∷ ls) = when (eqb l.before p && eqb l.after i) 1 0 + links_to p i ls

unfoldable pub asked_by : Job → ℕ → ℕ → ℕ → List Link → ℕ
unfolding when
asked_by J p c i [] = 0
asked_by J p c i (l ∷ ls) = max (when (eqb l.before p && eqb l.after i) (c + delay J l) 0) (asked_by J p c i ls)

-- Of some links, those into piece i.
unfoldable pub links_at : ℕ → List Link → ℕ
unfolding when
links_at i [] = 0
links_at i (l ∷ ls) = when (eqb l.after i) 1 0 + links_at i ls
