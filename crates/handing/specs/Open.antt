-- The open pieces of a job and the states of its pieces, in the words of a step over tables.
use Rattle.std.specs.Prelude.{ℕ, Bool, ◌≡◌, List, length}
use Rattle.rules.specs.Tables.{desks_of, befores_of, afters_of, handovers_of}
use Rattle.links.specs.Chains.{Chained}
use Rattle.links.specs.Links.{Ties as Between}
use Rattle.steps.specs.Handover.{Ties, ties, Waiting, waiting}
use Rattle.steps.specs.Opening.{Among, Opening, Room, Opens, Closable, Closes, Hands}
use Rattle.steps.specs.States.{left_of, ready_of}
use Rattle.steps.specs.declared.State.{State}
use Rattle.handing.specs.declared.job.Job.{Job}
use Rattle.handing.specs.declared.open.Open.{Open}

-- The links' tables, with the desks of the pieces; and the tables that the links change.
abbrev pub tied : Job → Ties
tied j = ties (desks_of j.pieces.now) (befores_of j.links.now) (afters_of j.links.now) (handovers_of j.links.now)

abbrev pub waiting_in : Open → List State → Waiting
waiting_in o xs = waiting o.waits (ready_of xs)

-- There are at most 1,024 links, each between two of at most 256 pieces, and they are chained.
pub record Linked (j : Job) : Type 0 where
  pub between : Between (length j.pieces.now) (length j.links.now) (befores_of j.links.now) (afters_of j.links.now)
  pub chained : Chained (befores_of j.links.now) (length j.links.now) j.chains.now.last j.chains.now.prior

-- Piece i is open.
abbrev pub IsOpen : Open → ℕ → Type 0
IsOpen o i = Among o.table o.count i

-- Of n pieces, those of U being unfinished, these are open.
abbrev pub OpenIn : ℕ → (ℕ → Bool) → Open → Type 0
OpenIn n U o = Opening n o.count o.table o.place U o.waits

-- There is room for every piece that one of the first m links leads to; and what links open.
abbrev pub RoomFor : ℕ → Job → Open → Type 0
RoomFor m j o = Room m (afters_of j.links.now) o.count o.table o.place o.waits

abbrev pub OpensBy : ℕ → Job → Open → Open → Type 0
OpensBy m j o o' = Opens m (afters_of j.links.now) o.count o.table o.place o.waits o'.count o'.table o'.place o'.waits

-- Piece i can be closed, and what is open once it is.
abbrev pub CanClose : ℕ → Open → Type 0
CanClose i o = Closable i o.count o.table o.place

abbrev pub ClosesOne : ℕ → Open → Open → Type 0
ClosesOne i o o' = Closes i o.count o.table o.place o'.count o'.table o'.place

-- Piece i was worked on: what is open once it is seen whether that finished it.
abbrev pub HandsOn : Job → ℕ → List State → Open → Open → Type 0
HandsOn j i xs o o' =
    Hands (length j.links.now) (afters_of j.links.now) i (left_of xs) o.count o.table o.place o.waits o'.count o'.table
    o'.place o'.waits

-- Ready moments alone have changed.
pub record OnlyReady (old new : List State) : Type 0 where
  pub left_stays : left_of new ≡ left_of old
