-- What the tables say of a job: its pieces and links, and the keys of its pieces.
use Rattle.std.specs.Prelude.{ℕ, ◌<◌, List, map, ◌≡◌, get_or}
use Rattle.rules.specs.Words.{below}
use Rattle.rules.specs.Job.{Job, piece_count, piece, desk, duration}
use Rattle.rules.specs.Moments.{latest}
use Rattle.rules.specs.Tables.{link_in}
use Rattle.steps.specs.Keys.{key_of}

-- The counts of pieces and of links, the pieces' tables and the links' tables.
pub record Tables : Type 0 where
  pub pieces : ℕ
  pub links : ℕ
  pub desks : List ℕ
  pub durations : List ℕ
  pub releases : List ℕ
  pub befores : List ℕ
  pub afters : List ℕ
  pub handovers : List ℕ
  pub keys : List ℕ

-- They are those of the job.
pub record Listed (J : Job) (T : Tables) : Type 0 where
  pub count : piece_count J ≡ T.pieces
  pub desk_is : (i : ℕ) → i < T.pieces → desk J i ≡ get_or T.desks i 0
  pub duration_is : (i : ℕ) → i < T.pieces → duration J i ≡ get_or T.durations i 0
  pub release_is : (i : ℕ) → i < T.pieces → (piece J i).release ≡ get_or T.releases i 0
  pub links_are : J.links ≡ map (link_in T.befores T.afters T.handovers) (below T.links)
  pub key_is : (i : ℕ) → i < T.pieces → get_or T.keys i 0 ≡ key_of (latest J i) i
