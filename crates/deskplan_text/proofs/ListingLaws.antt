-- From the tables of a finished plan to the listing of its job: the pages are the listing, line by line, and every listing has
-- room in 131,072 bytes.
use Prim.Native.Nat.{ℕ, ◌+◌, ◌*◌, ◌≤◌, ◌<◌}
use mathlib.Core.List.{List, [], ◌∷◌, ◌++◌, map}
use mathlib.Core.Path.{◌≡◌, refl, sym, ap, ◌∙◌}
use native.Mathlib.Omega.{arith}
use borrow.Author.Tests.{lt-ltb, le-ltb}
use lib.Dec.{ltb}
use lib.ListN.{length, drop, length-append}
use Rattle.rules.specs.Words.{below, joined, sum}
use Rattle.rules.specs.Job.{Job, piece_count, desk, refused, accepted}
use Rattle.rules.specs.Answers.{PlanAnswer, Refusal}
use Rattle.rules.specs.Told.{plan_answer_told}
use Rattle.rules.specs.declared.PlanFigures.{PlanFigures}
use Rattle.std.specs.Prelude.{Ok}
use Rattle.rules.specs.Moments.{latest}
use Rattle.rules.specs.Urgency.{start, finish}
use Rattle.rules.specs.Runs.{Run, runs}
use Rattle.rules.specs.Judgement.{file_outcome}
use Rattle.rules.specs.Listing.{piece_line, run_line, total_line, refused_line, run_lines, plan_listing, listing_of}
use Rattle.rules.specs.Listing.{listing}
use Rattle.rules.specs.Plan.{at_front, plan_numbers, lateness}
use Rattle.laws.proofs.Words.{by_test, map_same, mem_below, when_true, when_false}
use Rattle.laws.proofs.Joined.{joined_twice, length-joined, map_twice}
use Rattle.steps.specs.Log.{logged_runs}
use Rattle.demands.proofs.Answers.{first_bytes_listing}
use Rattle.demands.proofs.Runs.{run_records_lem}
use Rattle.rules.specs.Tables.{desks_of, starts_of, finishes_of, run_pieces, run_froms, run_untils}
use Rattle.laws.proofs.Columns.{get_or-desks}
use Rattle.finished.specs.Finished.{Finished}
use Rattle.finished.specs.declared.Plan.{Plan}
use Rattle.finished.proofs.FinishedLaws.{few_pieces, count_here}
use Rattle.lines.specs.Lines.{piece_text, run_text, total_text, refused_text, piece_line_in, piece_lines_in}
use Rattle.lines.specs.Lines.{desk_lines_in, run_lines_in}
use Rattle.lines.proofs.LineLaws.{run_most, total_most}
use Rattle.listing.proofs.PageLaws.{pieces_most}
use Rattle.deskplan_text.specs.Promise.{enough, listed_count, listed_text, ListingPromise}

-- ONE LISTING: what meets the promise is one pair.
pub one_listing : (file text : List ℕ) (a b : ℕ) (s t : List ℕ) → ListingPromise file text a s → ListingPromise file text b t
    → (a ≡ b) × (s ≡ t)
one_listing file text a b s t p q = (p.counted ∙ sym q.counted, p.left_there ∙ sym q.left_there)

-- A text that is too short is left as it was.
pub listed_short : (file text : List ℕ) → length text < 131072 → ListingPromise file text 0 text
unfolding listed_count listed_text
listed_short file text h =
    let e = lt-ltb (length text) 131072 h in record {
      counted = sym (when_true _ 0 (length (listing file)) e);
      left_there = sym (when_true _ text (at_front (listing file) text) e);
    }

front_long : (written text : List ℕ) → length written ≤ length (at_front written text)
unfolding at_front
front_long written text = omega (arith, length-append written (drop (length written) text))

-- A listing lies within its text.
pub listed_within : (file text : List ℕ) (count : ℕ) (after : List ℕ) → ListingPromise file text count after → count ≤ length after
unfolding listed_count listed_text
listed_within file text count after p = by_test (ltb (length text) 131072)
    (λ e. let z : count ≡ 0 = p.counted ∙ when_true _ 0 (length (listing file)) e in omega (arith, z))
    (λ e. let z : count ≡ length (listing file) = p.counted ∙ when_false _ 0 (length (listing file)) e in
    let w : after ≡ at_front (listing file) text = p.left_there ∙ when_false _ text (at_front (listing file) text) e in
    omega (arith, z, ap length w, front_long (listing file) text))

-- The listing put at the front.
pub listed_front : (file text : List ℕ) (count : ℕ) (after : List ℕ) → enough ≤ length text
    → count ≡ length (listing file) → after ≡ at_front (listing file) text → ListingPromise file text count after
unfolding listed_count listed_text
listed_front file text count after h counted put =
    let e = le-ltb (length text) 131072 h in record {
      counted = counted ∙ sym (when_false _ 0 (length (listing file)) e);
      left_there = put ∙ sym (when_false _ text (at_front (listing file) text) e);
    }

-- A refused file: one line.
pub refused_is : (file : List ℕ) (x : Refusal) → file_outcome file ≡ refused x → refused_text x.number x.place ≡ listing file
unfolding refused_text refused_line listing_of
refused_is file x says = sym (first_bytes_listing file ∙ ap listing_of says)

-- Sums that stay below a multiple.
sum_most : {A : Type 0} (f g : A → ℕ) (k : ℕ) → ((x : A) → f x ≤ k * g x) → (l : List A) → sum (map f l) ≤ k * sum (map g l)
unfolding sum
sum_most f g k h [] = omega arith
sum_most f g k h (x ∷ xs) =
    let ih : sum (map f xs) ≤ k * sum (map g xs) = sum_most f g k h xs in
    let q : k * (g x + sum (map g xs)) ≡ k * g x + k * sum (map g xs) = omega arith in
    rw q (omega (arith, h x))

-- The lines of a desk's runs have at most 141 bytes each.
desk_most : (d : ℕ) (rs : List Run) → length (joined (map (run_line d) rs)) ≤ 141 * length rs
unfolding joined run_line run_text
desk_most d [] = omega arith
desk_most d (r ∷ rs) =
    let ih : length (joined (map (run_line d) rs)) ≤ 141 * length rs = desk_most d rs in
    let one : length (run_line d r) ≤ 141 = run_most d r.piece r.from r.until in
    omega (arith, length-append (run_line d r) (joined (map (run_line d) rs)))

module _ (count : ℕ) (desks pieces froms untils : List ℕ) where
  in_desks : length (run_lines_in 32 count desks pieces froms untils)
      ≡ sum (map (λ d. length (desk_lines_in count desks pieces froms untils d)) (below 32))
  unfolding run_lines_in
  in_desks =
      length-joined (map (desk_lines_in count desks pieces froms untils) (below 32))
      ∙ ap sum (map_twice (desk_lines_in count desks pieces froms untils) length (below 32))

  desk_lines_most : (d : ℕ) → length (desk_lines_in count desks pieces froms untils d) ≤ 141 * length
      (logged_runs desks pieces froms untils count d)
  unfolding desk_lines_in
  desk_lines_most d = desk_most d (logged_runs desks pieces froms untils count d)

-- The lines of the page over plain numbers.
piece_line_is : (J : Job) (i : ℕ) → piece_line J i ≡ piece_text i (desk J i) (start J i) (finish J i) (latest J i)
unfolding piece_line lateness piece_text
piece_line_is J i = refl

total_line_is : (a : PlanAnswer) → total_line a ≡ total_text a.pieces a.runs a.end a.worst
unfolding total_text total_line
total_line_is a = refl

-- The total line of the figures that the page's answer has.
total_here : (J : Job) (f : PlanFigures) → plan_answer_told (Ok f) ≡ plan_numbers J
    → total_text f.pieces f.runs f.end f.worst ≡ total_line (plan_numbers J)
total_here J f told = sym (total_line_is (plan_answer_told (Ok f))) ∙ ap total_line told

module _ {J : Job} {plan : Plan} (F : Finished J plan) where
  abbrev desks : List ℕ
  desks = desks_of J.pieces

  abbrev starts : List ℕ
  starts = starts_of plan.spans

  abbrev finishes : List ℕ
  finishes = finishes_of plan.spans

  abbrev count : ℕ
  count = length plan.runs.items

  abbrev pieces : List ℕ
  pieces = run_pieces plan.runs.items

  abbrev froms : List ℕ
  froms = run_froms plan.runs.items

  abbrev untils : List ℕ
  untils = run_untils plan.runs.items

  piece_here : (i : ℕ) → i < piece_count J → piece_line J i ≡ piece_line_in desks starts finishes plan.latests i
  unfolding piece_line_in
  piece_here i h =
      piece_line_is J i
      ∙ λ k. piece_text i (sym (get_or-desks J.pieces i) k) (sym (F.start_is i h) k) (sym (F.finish_is i h) k)
      (sym (F.latest_is i h) k)

  pieces_here : joined (map (piece_line J) (below (piece_count J))) ≡ piece_lines_in (piece_count J) desks starts finishes plan.latests
  unfolding piece_lines_in
  pieces_here =
      ap joined (map_same (piece_line J) (piece_line_in desks starts finishes plan.latests) (below (piece_count J))
      (λ i k. piece_here i (mem_below (piece_count J) i k)))

  runs_here : joined (joined (map (run_lines J) (below 32))) ≡ run_lines_in 32 count desks pieces froms untils
  unfolding run_lines run_lines_in desk_lines_in
  runs_here =
      joined_twice (run_lines J) (below 32)
      ∙ ap joined (map_same (λ d. joined (run_lines J d)) (desk_lines_in count desks pieces froms untils) (below 32)
      (λ d k. ap (λ rs. joined (map (run_line d) rs)) (sym (F.runs_are d (mem_below 32 d k)))))

  -- The pages are the listing.
  pub pages_are : (f : PlanFigures) → plan_answer_told (Ok f) ≡ plan_numbers J
      → piece_lines_in (piece_count J) desks starts finishes plan.latests ++ run_lines_in 32 count desks pieces froms untils
      ++ total_text f.pieces f.runs f.end f.worst ≡ plan_listing J
  unfolding plan_listing
  pages_are f told = λ k. sym pieces_here k ++ sym runs_here k ++ total_here J f told k

  -- At most 141 bytes for each run of the log.
  pub runs_most : length (run_lines_in 32 count desks pieces froms untils) ≤ 141 * count
  runs_most =
      let each : length (run_lines_in 32 count desks pieces froms untils) ≤ 141 * sum
      (map (λ d. length (logged_runs desks pieces froms untils count d)) (below 32)) =
      rw (in_desks count desks pieces froms untils)
      (sum_most (λ d. length (desk_lines_in count desks pieces froms untils d))
      (λ d. length (logged_runs desks pieces froms untils count d)) 141
      (desk_lines_most count desks pieces froms untils) (below 32)) in
      omega (
        arith,
        each,
        run_records_lem J,
        count_here F,
        ap sum
            (map_same (λ d. length (logged_runs desks pieces froms untils count d)) (λ d. length (runs J d)) (below 32)
            (λ d k. ap length (F.runs_are d (mem_below 32 d k)))),
      )

  -- Every page has room.
  pub pages_room : 211 * piece_count J + length (run_lines_in 32 count desks pieces froms untils) + 141 ≤ enough
  pages_room = omega (arith, few_pieces F, F.few, runs_most)

  -- Every listing has room.
  pub listing_most : length (plan_listing J) ≤ enough
  unfolding plan_listing
  listing_most =
      let pages = piece_lines_in (piece_count J) desks starts finishes plan.latests in
      let more = run_lines_in 32 count desks pieces froms untils in
      let n = plan_numbers J in
      rw (pieces_here, runs_here, total_line_is n)
      (omega (
        arith,
        few_pieces F,
        F.few,
        runs_most,
        pieces_most desks starts finishes plan.latests (piece_count J),
        total_most n.pieces n.runs n.end n.worst,
        length-append pages more,
        length-append (pages ++ more) (total_text n.pieces n.runs n.end n.worst),
      ))

-- The listing of an accepted file.
pub listing_is : (file : List ℕ) (J : Job) → file_outcome file ≡ accepted J → plan_listing J ≡ listing file
unfolding listing_of
listing_is file J says = sym (first_bytes_listing file ∙ ap listing_of says)
