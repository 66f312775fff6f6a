-- A finished plan: start, finish and latest moment of every piece, and the runs of every desk.
use Rattle.std.specs.Prelude.{ℕ, ◌+◌, ◌≤◌, ◌<◌, List, ◌≡◌, pos, length, get_or}
use Rattle.std.proofs.Math.Option.{none}
use Rattle.rules.specs.Job.{Job, accepted, piece_count}
use Rattle.rules.specs.Moments.{latest}
use Rattle.rules.specs.Rings.{ring_piece}
use Rattle.rules.specs.Runs.{runs}
use Rattle.rules.specs.Tables.{Sound, job_of, desks_of, starts_of, finishes_of, run_pieces, run_froms, run_untils}
use Rattle.rules.specs.Urgency.{start, finish}
use Rattle.rules.specs.Judgement.{file_outcome}
use Rattle.rules.specs.declared.Piece.{Piece}
use Rattle.rules.specs.declared.Link.{Link}
use Rattle.steps.specs.Log.{Sized, logged_runs}
use Rattle.finished.specs.declared.Plan.{Plan}

pub record Finished (J : Job) (plan : Plan) : Type 0 where
  pub sound : Sound J
  pub free : ring_piece J ≡ none
  pub start_is : (i : ℕ) → i < piece_count J → get_or (starts_of plan.spans) i 0 ≡ start J i
  pub finish_is : (i : ℕ) → i < piece_count J → get_or (finishes_of plan.spans) i 0 ≡ finish J i
  pub latest_is : (i : ℕ) → i < piece_count J → get_or plan.latests i (pos 0) ≡ latest J i
  pub runs_are : (d : ℕ) → d < 32
      → logged_runs (desks_of J.pieces) (run_pieces plan.runs.items) (run_froms plan.runs.items)
      (run_untils plan.runs.items) (length plan.runs.items) d ≡ runs J d
  pub inside : (k : ℕ) → k < length plan.runs.items → get_or (run_pieces plan.runs.items) k 0 < piece_count J
  pub few : length plan.runs.items ≤ piece_count J + piece_count J
  pub sized : Sized (starts_of plan.spans) (finishes_of plan.spans)

-- The file is accepted for a job of these pieces, and this is the finished plan of it.
pub record PlannedFile (file : List ℕ) (pieces : List Piece) (plan : Plan) : Type 0 where
  pub links : List Link
  pub says : file_outcome file ≡ accepted (job_of pieces links)
  pub finished : Finished (job_of pieces links) plan
