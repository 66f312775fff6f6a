-- From a finished plan to records and figures: the bytes made of it are the page's records, the counts and figures are
-- the page's answer.
use Prim.Native.Nat.{ℕ, ◌≤◌, ◌<◌}
use mathlib.Core.List.{List, ◌++◌, map}
use mathlib.Core.Path.{◌≡◌, refl, sym, ap, ◌∙◌}
use native.Mathlib.Omega.{arith}
use lib.Dec.{eqb}
use lib.IntN.{ℤ, pos}
use lib.ListN.{length, get_or, length-map}
use Rattle.rules.specs.Words.{keep, below, joined, greatest, worst_of, sum}
use Rattle.rules.specs.Job.{Job, accepted, piece_count}
use Rattle.rules.specs.Judgement.{file_outcome}
use Rattle.rules.specs.declared.Piece.{Piece}
use Rattle.rules.specs.declared.Link.{Link}
use Rattle.rules.specs.Urgency.{finish}
use Rattle.rules.specs.Runs.{runs}
use Rattle.rules.specs.Bytes.{result_record, run_record}
use Rattle.rules.specs.Plan.{desk_run_records, run_records, result_records, plan_bytes, plan_numbers, lateness}
use Rattle.rules.specs.Tables.{job_of, desks_of, starts_of, finishes_of, run_pieces, run_froms, run_untils}
use Rattle.laws.proofs.Columns.{get_or-desks}
use Rattle.laws.proofs.Words.{map_same, mem_below, length-below}
use Rattle.laws.proofs.Joined.{joined_append, joined_twice}
use Rattle.laws.proofs.Latest.{latest_near}
use Rattle.laws.proofs.Sound.{fits}
use Rattle.steps.specs.Log.{run_at, logged_runs}
use Rattle.demands.proofs.Finishes.{finish_most}
use Rattle.demands.proofs.Runs.{all_desks, run_records_lem}
use Rattle.output.specs.Written.{result_in, results_in, desk_runs_in, runs_in, LogFits}
use Rattle.output.specs.Late.{Bounded, lateness_in}
use Rattle.output.proofs.WrittenLaws.{result_is}
use Rattle.finished.specs.Finished.{Finished, PlannedFile}
use Rattle.finished.specs.declared.Plan.{Plan}

-- A file that is accepted for a job, and the finished plan of that job.
pub planned_file : {file : List ℕ} {pieces : List Piece} {links : List Link} {plan : Plan}
    → file_outcome file ≡ accepted (job_of pieces links) → Finished (job_of pieces links) plan
    → PlannedFile file pieces plan
planned_file {links = links} says finished = record { links = links; says = says; finished = finished }

module _ {J : Job} {plan : Plan} (F : Finished J plan) where
  abbrev desks : List ℕ
  desks = desks_of J.pieces

  abbrev starts : List ℕ
  starts = starts_of plan.spans

  abbrev finishes : List ℕ
  finishes = finishes_of plan.spans

  abbrev count : ℕ
  count = length plan.runs.items

  abbrev pieces : List ℕ
  pieces = run_pieces plan.runs.items

  abbrev froms : List ℕ
  froms = run_froms plan.runs.items

  abbrev untils : List ℕ
  untils = run_untils plan.runs.items

  result_here : (i : ℕ) → i < piece_count J → result_record J i ≡ result_in desks starts finishes plan.latests i
  unfolding result_record
  result_here i h =
      sym (result_is desks starts finishes plan.latests i
      ∙ rw (F.start_is i h, F.finish_is i h, F.latest_is i h, get_or-desks J.pieces i) refl)

  results_here : joined (result_records J) ≡ results_in (piece_count J) desks starts finishes plan.latests
  unfolding result_records results_in
  results_here =
      ap joined (map_same (result_record J) (result_in desks starts finishes plan.latests) (below (piece_count J))
      (λ i k. result_here i (mem_below (piece_count J) i k)))

  runs_here : joined (run_records J) ≡ runs_in 32 count desks pieces froms untils
  unfolding run_records desk_run_records runs_in desk_runs_in
  runs_here =
      joined_twice (desk_run_records J) (below 32)
      ∙ ap joined (map_same (λ d. joined (desk_run_records J d)) (desk_runs_in count desks pieces froms untils)
      (below 32)
      (λ d k. ap (λ rs. joined (map (run_record d) rs)) (sym (F.runs_are d (mem_below 32 d k)))))

  pub bytes_here : results_in (piece_count J) desks starts finishes plan.latests
      ++ runs_in 32 count desks pieces froms untils ≡ plan_bytes J
  unfolding plan_bytes
  bytes_here =
      ap (λ r. r ++ runs_in 32 count desks pieces froms untils) (sym results_here)
      ∙ ap (λ r. joined (result_records J) ++ r) (sym runs_here)
      ∙ sym (joined_append (result_records J) (run_records J))

  -- The count of the runs is the count of the run records.
  pub count_here : length (run_records J) ≡ count
  unfolding logged_runs
  count_here =
      run_records_lem J
      ∙ ap sum (map_same (λ d. length (runs J d))
      (λ d. length (keep (λ k. eqb (get_or desks (get_or pieces k 0) 0) d) (below count)))
      (below 32)
      (λ d k. ap length (sym (F.runs_are d (mem_below 32 d k)))
      ∙ length-map (keep (λ k. eqb (get_or desks (get_or pieces k 0) 0) d) (below count)) (run_at pieces froms untils)))
      ∙ all_desks (λ k. get_or desks (get_or pieces k 0) 0) (below count)
      (λ k l. let f = (fits J F.sound (get_or pieces k 0) (F.inside k (mem_below count k l))).desk_most in
      omega (arith, f, get_or-desks J.pieces (get_or pieces k 0)))
      ∙ length-below count

  pub end_here : greatest 0 (map (λ i. get_or finishes i 0) (below (piece_count J)))
      ≡ greatest 0 (map (finish J) (below (piece_count J)))
  end_here =
      ap (greatest 0) (map_same (λ i. get_or finishes i 0) (finish J) (below (piece_count J))
      (λ i k. F.finish_is i (mem_below (piece_count J) i k)))

  pub worst_here : worst_of (map (lateness_in finishes plan.latests) (below (piece_count J)))
      ≡ worst_of (map (lateness J) (below (piece_count J)))
  unfolding lateness
  worst_here =
      ap worst_of (map_same (lateness_in finishes plan.latests) (lateness J) (below (piece_count J))
      (λ i k. let h = mem_below (piece_count J) i k in rw (F.finish_is i h, F.latest_is i h) refl))

  -- The whole answer.
  pub answer_here : (a b : ℕ) (w : ℤ) → a ≡ count
      → b ≡ greatest 0 (map (λ i. get_or finishes i 0) (below (piece_count J)))
      → w ≡ worst_of (map (lateness_in finishes plan.latests) (below (piece_count J)))
      → record { number = 0; place = 0; pieces = piece_count J; runs = a; end = b; worst = w } ≡ plan_numbers J
  unfolding plan_numbers
  answer_here a b w p q r = λ i. record {
    number = 0;
    place = 0;
    pieces = piece_count J;
    runs = (p ∙ sym count_here) i;
    end = (q ∙ end_here) i;
    worst = (r ∙ worst_here) i;
  }

  -- What the records and figures ask for.
  pub few_pieces : piece_count J ≤ 256
  few_pieces = F.sound.few_pieces

  pub log_fits_lem : LogFits count pieces (piece_count J)
  log_fits_lem = record { few = omega (arith, F.few, few_pieces); known = F.inside }

  pub bounded_here : (i : ℕ) → i < piece_count J → Bounded (get_or finishes i 0) (get_or plan.latests i (pos 0))
  bounded_here i h =
      rw (F.finish_is i h, F.latest_is i h) (record {
        early = finish_most J F.sound F.free i h;
        near = omega (arith, (latest_near J F.sound F.free i h).mag_most);
      })
