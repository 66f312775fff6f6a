-- The text that `deskplan` prints, as bytes: a line for each piece, a line for each run, and the total; one line for a
-- refused file. The words name the fields; "late" is lateness. Every line ends in a newline.
use Rattle.std.specs.Prelude.{ℕ, zero, suc, ◌+◌, ◌/◌, ◌%◌, List, [], ◌∷◌, ◌++◌, map, ltb, ℤ, pos, negsuc, take}
use Prim.Native.Char.{code}
use Prim.Native.String.{String, [] as empty, ◌∷◌ as ◌then◌}
use Rattle.rules.specs.Words.{when, joined, below}
use Rattle.rules.specs.Job.{Job, Outcome, refused, accepted, piece_count, desk}
use Rattle.rules.specs.Moments.{latest}
use Rattle.rules.specs.Urgency.{start, finish}
use Rattle.rules.specs.Runs.{Run, runs}
use Rattle.rules.specs.Judgement.{file_outcome}
use Rattle.rules.specs.Plan.{lateness, plan_numbers}
use Rattle.rules.specs.Answers.{Refusal, PlanAnswer}

-- The bytes of a text in the letters of this page.
unfoldable pub letters : String → List ℕ
letters empty = []
letters (◌then◌ c cs) = code c ∷ letters cs

-- A number in digits, at most so many.
unfoldable pub digits_within : ℕ → ℕ → List ℕ
unfolding when
digits_within zero n = []
digits_within (suc k) n = when (ltb n 10) ((48 + n) ∷ []) (digits_within k (n / 10) ++ ((48 + n % 10) ∷ []))

-- No number of a listing has more than twenty digits.
unfoldable pub digits : ℕ → List ℕ
unfolding digits_within
digits n = digits_within 20 n

unfoldable pub signed_digits : ℤ → List ℕ
unfolding digits
signed_digits (pos n) = digits n
signed_digits (negsuc n) = 45 ∷ digits (n + 1)

-- A field: its word, and its number behind it.
unfoldable pub field : String → ℕ → List ℕ
unfolding letters digits
field w n = letters w ++ digits n

unfoldable pub signed_field : String → ℤ → List ℕ
unfolding letters signed_digits
signed_field w z = letters w ++ signed_digits z

-- The fields of a line one behind the other, and the newline.
unfoldable pub line : List (List ℕ) → List ℕ
unfolding joined
line fields = joined fields ++ (10 ∷ [])

unfoldable pub piece_line : Job → ℕ → List ℕ
unfolding line field signed_field start finish latest lateness
piece_line J i = line (
    field "piece " i ∷ field " desk " (desk J i) ∷ field " start " (start J i) ∷ field " finish " (finish J i)
    ∷ signed_field " latest " (latest J i) ∷ signed_field " late " (lateness J i) ∷ [])

unfoldable pub run_line : ℕ → Run → List ℕ
unfolding line field
run_line d r = line (
    field "run desk " d ∷ field " piece " r.piece ∷ field " from " r.from ∷ field " until " r.until ∷ [])

unfoldable pub total_line : PlanAnswer → List ℕ
unfolding line field signed_field
total_line a = line (
    field "total pieces " a.pieces ∷ field " runs " a.runs ∷ field " end " a.end
    ∷ signed_field " worst " a.worst ∷ [])

unfoldable pub refused_line : Refusal → List ℕ
unfolding line field
refused_line r = line (field "refused " r.number ∷ field " at " r.place ∷ [])

-- The runs of desk d, a line each.
unfoldable pub run_lines : Job → ℕ → List (List ℕ)
unfolding run_line runs
run_lines J d = map (run_line d) (runs J d)

-- The whole listing of an accepted file.
unfoldable pub plan_listing : Job → List ℕ
unfolding joined piece_line run_lines total_line below plan_numbers
plan_listing J =
    joined (map (piece_line J) (below (piece_count J))) ++ joined (joined (map (run_lines J) (below 32)))
    ++ total_line (plan_numbers J)

unfoldable pub listing_of : Outcome → List ℕ
unfolding refused_line plan_listing
listing_of (refused r) = refused_line r
listing_of (accepted J) = plan_listing J

-- THE LISTING of a job file. The first 20,496 bytes decide any longer file, and `deskplan` reads no more.
unfoldable pub listing : List ℕ → List ℕ
unfolding listing_of file_outcome
listing file = listing_of (file_outcome (take 20496 file))
