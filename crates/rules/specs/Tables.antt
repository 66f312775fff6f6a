-- A job as the planner's stations hand it on: a table of numbers for each field, with the count of pieces and of links.
-- And what every job that was read keeps, so that a station behind the reader need not judge again.
use Rattle.std.specs.Prelude.{ℕ, ◌<◌, ◌≤◌, List, map, ◌≡◌, length, get_or}
use Rattle.rules.specs.Words.{below}
use Rattle.rules.specs.Job.{Job, piece_count, piece}
use Rattle.rules.specs.Reading.{piece_fault, link_fault}
use Rattle.rules.specs.declared.Piece.{Piece}
use Rattle.rules.specs.declared.Link.{Link}
use Rattle.rules.specs.declared.Span.{Span}
use Rattle.rules.specs.declared.Run.{Run}

-- Piece i out of the tables for desk, duration, release and due.
unfoldable pub piece_in : List ℕ → List ℕ → List ℕ → List ℕ → ℕ → Piece
piece_in desks durations releases dues i =
    record { desk = get_or desks i 0; duration = get_or durations i 0; release = get_or releases i 0; due = get_or dues i 0 }

-- Link k out of the tables for the piece before, the piece after and the handover.
unfoldable pub link_in : List ℕ → List ℕ → List ℕ → ℕ → Link
link_in befores afters handovers k =
    record { before = get_or befores k 0; after = get_or afters k 0; handover = get_or handovers k 0 }

-- The first n pieces and the first m links.
unfoldable pub pieces_in : ℕ → List ℕ → List ℕ → List ℕ → List ℕ → List Piece
unfolding piece_in below
pieces_in n desks durations releases dues = map (piece_in desks durations releases dues) (below n)

unfoldable pub links_in : ℕ → List ℕ → List ℕ → List ℕ → List Link
unfolding link_in below
links_in m befores afters handovers = map (link_in befores afters handovers) (below m)

unfoldable pub job_in : ℕ → ℕ → List ℕ → List ℕ → List ℕ → List ℕ → List ℕ → List ℕ → List ℕ → Job
unfolding pieces_in links_in
job_in n m desks durations releases dues befores afters handovers =
    record { pieces = pieces_in n desks durations releases dues; links = links_in m befores afters handovers }

-- The tables of a list of pieces, of links, of spans and of runs: a table of numbers for each field.
abbrev pub desks_of : List Piece → List ℕ
desks_of ps = map (λ p. p.desk) ps

abbrev pub durations_of : List Piece → List ℕ
durations_of ps = map (λ p. p.duration) ps

abbrev pub releases_of : List Piece → List ℕ
releases_of ps = map (λ p. p.release) ps

abbrev pub dues_of : List Piece → List ℕ
dues_of ps = map (λ p. p.due) ps

abbrev pub befores_of : List Link → List ℕ
befores_of ls = map (λ l. l.before) ls

abbrev pub afters_of : List Link → List ℕ
afters_of ls = map (λ l. l.after) ls

abbrev pub handovers_of : List Link → List ℕ
handovers_of ls = map (λ l. l.handover) ls

abbrev pub starts_of : List Span → List ℕ
starts_of ws = map (λ w. w.start) ws

abbrev pub finishes_of : List Span → List ℕ
finishes_of ws = map (λ w. w.finish) ws

abbrev pub run_pieces : List Run → List ℕ
run_pieces rs = map (λ r. r.piece) rs

abbrev pub run_froms : List Run → List ℕ
run_froms rs = map (λ r. r.from) rs

abbrev pub run_untils : List Run → List ℕ
run_untils rs = map (λ r. r.until) rs

-- The job of these pieces and links.
abbrev pub job_of : List Piece → List Link → Job
job_of ps ls = record { pieces = ps; links = ls }

-- What stands for a span or a run where there is none of that place.
abbrev pub no_span : Span
no_span = record { start = 0; finish = 0 }

abbrev pub no_run : Run
no_run = record { piece = 0; from = 0; until = 0 }

-- What stands for a link where there is none of that place: no rule looks at it.
abbrev pub no_link : Link
no_link = record { before = 0; after = 0; handover = 0 }

-- What every job that was read keeps: at most 256 pieces and 1,024 links, and no value fault in them.
pub record Sound (J : Job) : Type 0 where
  pub few_pieces : piece_count J ≤ 256
  pub few_links : length J.links ≤ 1024
  pub pieces_fit : (i : ℕ) → i < piece_count J → piece_fault (piece J i) ≡ 0
  pub links_fit : (k : ℕ) → k < length J.links → link_fault (piece_count J) (get_or J.links k no_link) ≡ 0
