-- The lines of a listing over plain numbers, out of the tables of a finished plan: for each piece its desk, start,
-- finish and latest moment; for each run of the log its piece, its first slot and one past its last.
use Rattle.std.specs.Prelude.{ℕ, List, [], ◌∷◌, map, eqb, ℤ, pos, get_or}
use Rattle.rules.specs.Words.{when, below, joined}
use Rattle.rules.specs.Listing.{field, signed_field, line, run_line}
use Rattle.steps.specs.Log.{logged_runs}
use Rattle.output.specs.Late.{lateness_of}

unfoldable pub piece_text : ℕ → ℕ → ℕ → ℕ → ℤ → List ℕ
unfolding line field signed_field
piece_text i d s f l = line (
    field "piece " i ∷ field " desk " d ∷ field " start " s ∷ field " finish " f
    ∷ signed_field " latest " l ∷ signed_field " late " (lateness_of f l) ∷ [])

unfoldable pub run_text : ℕ → ℕ → ℕ → ℕ → List ℕ
unfolding line field
run_text d i from until = line (
    field "run desk " d ∷ field " piece " i ∷ field " from " from ∷ field " until " until ∷ [])

unfoldable pub total_text : ℕ → ℕ → ℕ → ℤ → List ℕ
unfolding line field signed_field
total_text n r e w = line (
    field "total pieces " n ∷ field " runs " r ∷ field " end " e ∷ signed_field " worst " w ∷ [])

unfoldable pub refused_text : ℕ → ℕ → List ℕ
unfolding line field
refused_text n at = line (field "refused " n ∷ field " at " at ∷ [])

-- The line of piece i out of the tables, and those of the first n pieces.
unfoldable pub piece_line_in : List ℕ → List ℕ → List ℕ → List ℤ → ℕ → List ℕ
unfolding piece_text
piece_line_in desks starts finishes latests i =
    piece_text i (get_or desks i 0) (get_or starts i 0) (get_or finishes i 0) (get_or latests i (pos 0))

unfoldable pub piece_lines_in : ℕ → List ℕ → List ℕ → List ℕ → List ℤ → List ℕ
unfolding joined piece_line_in below
piece_lines_in n desks starts finishes latests = joined (map (piece_line_in desks starts finishes latests) (below n))

-- The run lines of one desk out of the first `count` runs of the log.
unfoldable pub desk_lines_in : ℕ → List ℕ → List ℕ → List ℕ → List ℕ → ℕ → List ℕ
unfolding joined run_line logged_runs
desk_lines_in count desks pieces froms untils d = joined (map (run_line d) (logged_runs desks pieces froms untils count d))

-- What the run at place k of the log adds to the lines of desk d: its line where it is the desk's, and else nothing.
unfoldable pub run_line_in : List ℕ → List ℕ → List ℕ → List ℕ → ℕ → ℕ → List ℕ
unfolding when run_text
run_line_in desks pieces froms untils d k =
    when (eqb (get_or desks (get_or pieces k 0) 0) d) (run_text d (get_or pieces k 0) (get_or froms k 0) (get_or untils k 0)) []

-- The run lines of the first n desks.
unfoldable pub run_lines_in : ℕ → ℕ → List ℕ → List ℕ → List ℕ → List ℕ → List ℕ
unfolding joined desk_lines_in below
run_lines_in n count desks pieces froms untils = joined (map (desk_lines_in count desks pieces froms untils) (below n))
