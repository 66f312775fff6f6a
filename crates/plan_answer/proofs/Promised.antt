-- From a finished plan to the promise of the call: an accepted file is answered with its records and figures, and a
-- refused one or a buffer that is too short leaves every byte.
use Rattle.std.specs.Prelude.{ℕ, ◌*◌, ◌≤◌, ◌<◌, List, ◌++◌, ◌≡◌, length, ltb}
use Rattle.std.proofs.Common.{arith, sym, ap, ◌∙◌, length-append}
use borrow.Author.Tests.{lt-ltb, le-ltb}
use Rattle.rules.specs.Job.{refused, accepted}
use Rattle.rules.specs.Answers.{PlanAnswer}
use Rattle.rules.specs.Judgement.{then_judge, unless_short, file_outcome, plan_outcome}
use Rattle.rules.specs.Plan.{at_front, plan_numbers, plan_answer_of, plan_buffer_of, plan_answer, plan_buffer}
use Rattle.rules.specs.Tables.{job_of, desks_of, starts_of, finishes_of, run_pieces, run_froms, run_untils}
use Rattle.rules.specs.Told.{refusal_of, plan_answer_told}
use Rattle.rules.specs.declared.Piece.{Piece}
use Rattle.rules.specs.declared.fault.Fault.TheVariants.{BufferTooShort}
use Rattle.rules.specs.declared.fault.Refusal.{Refusal}
use Rattle.std.specs.Prelude.{Err}
use Rattle.laws.proofs.Words.{when_true, when_false}
use Rattle.demands.specs.Promises.{PlanPromise}
use Rattle.demands.proofs.Runs.{records_fit}
use Rattle.records.specs.Puts.{Puts, Room}
use Rattle.records.specs.declared.lent.Lent.{Lent}
use Rattle.records.proofs.Front.{stored_front}
use Rattle.records.proofs.PutLaws.{puts_on, room_left}
use Rattle.output.specs.Written.{results_in, runs_in}
use Rattle.finished.specs.Finished.{PlannedFile}
use Rattle.finished.specs.declared.Plan.{Plan}
use Rattle.finished.proofs.FinishedLaws.{bytes_here}

-- A refusal leaves the buffer as it was.
leaves_all : (file buffer : List ℕ) (r : Refusal) → plan_outcome file (length buffer) ≡ refused (refusal_of r)
    → PlanPromise file buffer (plan_answer_told (Err r)) buffer
unfolding plan_answer plan_buffer plan_answer_of plan_buffer_of
leaves_all file buffer r o =
    record { answered = ap plan_answer_of (sym o); left_there = ap (λ o. plan_buffer_of o buffer) (sym o) }

pub plan_refused : (file buffer : List ℕ) (r : Refusal) → file_outcome file ≡ refused (refusal_of r)
    → PlanPromise file buffer (plan_answer_told (Err r)) buffer
unfolding plan_outcome then_judge
plan_refused file buffer r says = leaves_all file buffer r (ap (λ o. then_judge o (unless_short (length buffer))) says)

module _ {file : List ℕ} {pieces : List Piece} {plan : Plan} (P : PlannedFile file pieces plan) where
  abbrev results : List ℕ
  results = results_in (length pieces) (desks_of pieces) (starts_of plan.spans) (finishes_of plan.spans) plan.latests

  abbrev runs : List ℕ
  runs = runs_in 32 (length plan.runs.items) (desks_of pieces) (run_pieces plan.runs.items) (run_froms plan.runs.items)
      (run_untils plan.runs.items)

  -- The records have room in a buffer of 48 bytes for each piece.
  all_fit : length (results ++ runs) ≤ 48 * length pieces
  all_fit = omega (arith, ap length (bytes_here P.finished), records_fit file (job_of pieces P.links) P.says)

  pub runs_fit : {a b : Lent} → Puts a results b → Room a (48 * length pieces) → Room b (length runs)
  runs_fit {a} put room =
      room_left (length runs) put (omega (arith, room, all_fit, length-append results runs))

  module _ (buffer : List ℕ) where
    pub plan_short : length buffer < 48 * length pieces
        → PlanPromise file buffer (plan_answer_told (Err (record { fault = BufferTooShort; place = 0 }))) buffer
    unfolding plan_outcome then_judge unless_short
    plan_short short =
        leaves_all file buffer (record { fault = BufferTooShort; place = 0 })
        (ap (λ o. then_judge o (unless_short (length buffer))) P.says
        ∙ when_true (ltb (length buffer) (48 * length pieces)) _ _ (lt-ltb (length buffer) (48 * length pieces) short))

    module _ (room : 48 * length pieces ≤ length buffer) where
      accepted_here : plan_outcome file (length buffer) ≡ accepted (job_of pieces P.links)
      unfolding plan_outcome then_judge unless_short
      accepted_here =
          ap (λ o. then_judge o (unless_short (length buffer))) P.says
          ∙ when_false (ltb (length buffer) (48 * length pieces)) _ _ (le-ltb (length buffer) (48 * length pieces) room)

      -- The promise is kept: results at the front, runs right after them, and the answer.
      pub plan_kept : {old mid new : Lent} {answer : PlanAnswer} {after : List ℕ} → old.bytes.now ≡ buffer → old.at ≡ 0
          → Puts old results mid → Puts mid runs new → after ≡ new.bytes.now
          → answer ≡ plan_numbers (job_of pieces P.links) → PlanPromise file buffer answer after
      unfolding plan_answer plan_buffer plan_answer_of plan_buffer_of
      plan_kept lent front put more left answer = record {
        answered = answer ∙ ap plan_answer_of (sym accepted_here);
        left_there = left ∙ rw (lent, front) at (puts_on put more).written
            ∙ stored_front buffer (results ++ runs) (omega (arith, all_fit))
            ∙ ap (λ w. at_front w buffer) (bytes_here P.finished)
            ∙ ap (λ o. plan_buffer_of o buffer) (sym accepted_here);
      }
