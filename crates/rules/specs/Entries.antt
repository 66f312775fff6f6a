-- The ready moments of a finished plan, and one desk's entries for the block method: number, raised ready moment,
-- duration, latest moment. From "Latest moments and ready moments".
use Rattle.std.specs.Prelude.{ℕ, zero, suc, ◌+◌, not, List, map, eqb, ℤ}
use Rattle.rules.specs.Words.{keep, greatest}
use Rattle.rules.specs.Job.{Job, piece_count, piece, desk, duration, desk_pieces, links_into}
use Rattle.rules.specs.Hours.{open_end}
use Rattle.rules.specs.Moments.{delay, latest}
use Rattle.rules.specs.Urgency.{finish}
use Rattle.rules.specs.declared.Link.{Link}

-- The links into piece i from pieces on other desks, and from pieces on its own desk.
unfoldable pub from_elsewhere : Job → ℕ → List Link
unfolding keep links_into
from_elsewhere J i = keep (λ l. not (eqb (desk J l.before) (desk J i))) (links_into J i)

unfoldable pub from_own_desk : Job → ℕ → List Link
unfolding keep links_into
from_own_desk J i = keep (λ l. eqb (desk J l.before) (desk J i)) (links_into J i)

-- The ready moment of a piece on its desk: the greater of its release and, over pieces before it on other desks,
-- finish + handover.
unfoldable pub ready : Job → ℕ → ℕ
unfolding greatest from_elsewhere finish delay
ready J i = greatest (piece J i).release (map (λ l. finish J l.before + delay J l) (from_elsewhere J i))

-- The raised ready moment also takes in, over pieces before it on the same desk, their raised ready moment + their
-- duration; chains of up to so many links followed.
unfoldable pub raised_within : Job → ℕ → ℕ → ℕ
unfolding greatest ready from_own_desk open_end
raised_within J zero i = ready J i
raised_within J (suc n) i =
    greatest (ready J i)
    (map (λ l. open_end J (desk J i) (raised_within J n l.before) (duration J l.before)) (from_own_desk J i))

unfoldable pub raised : Job → ℕ → ℕ
unfolding raised_within
raised J i = raised_within J (piece_count J) i

-- An entry of one desk: number, raised ready moment, duration, latest moment.
pub record Entry : Type 0 where
  pub number : ℕ
  pub ready : ℕ
  pub duration : ℕ
  pub latest : ℤ

unfoldable pub entry : Job → ℕ → Entry
unfolding raised latest
entry J i = record { number = i; ready = raised J i; duration = duration J i; latest = latest J i }

unfoldable pub entries : Job → ℕ → List Entry
unfolding entry desk_pieces
entries J d = map (entry J) (desk_pieces J d)
