-- Latest moments by the page's words, delay and all: a piece has to be finished so early that the courier can bring it and
-- each piece after it can be done in time.
use Prim.Native.Nat.{ℕ, ◌+◌, ◌<◌}
use mathlib.Core.List.{map}
use mathlib.Core.Option.{none}
use mathlib.Core.Path.{◌≡◌, ap, ◌∙◌}
use lib.IntN.{pos, ◌-ℤ◌}
use Rattle.rules.specs.Words.{least_z}
use Rattle.rules.specs.Job.{Job, piece_count, piece, duration, links_from}
use Rattle.rules.specs.Moments.{delay, takes_off, latest}
use Rattle.rules.specs.Rings.{ring_piece}
use Rattle.rules.specs.Tables.{Sound}
use Rattle.laws.proofs.Words.{map_same}
use Rattle.laws.proofs.Delay.{takes_off_is}
use Rattle.laws.proofs.Latest.{asked, latest_equation}

pub latest_by_the_page : (J : Job) → Sound J → ring_piece J ≡ none → (i : ℕ) → i < piece_count J
    → latest J i
    ≡ least_z (pos (piece J i).due)
    (map (λ l. latest J l.after -ℤ pos (duration J l.after + delay J l)) (links_from J i))
unfolding asked
latest_by_the_page J sound free i h =
    latest_equation J sound free i h ∙ ap (least_z (pos (piece J i).due))
    (map_same (λ l. latest J l.after -ℤ pos (takes_off J l))
    (λ l. latest J l.after -ℤ pos (duration J l.after + delay J l)) (links_from J i)
    (λ l m. ap (λ (n : ℕ). latest J l.after -ℤ pos n) (takes_off_is J l)))
