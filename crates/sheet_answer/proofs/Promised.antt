-- From a block sheet to the promise of its call: an accepted file is answered with its sheet, and a refused one, a desk
-- above 31 and a buffer that is too short leave every byte.
use Prim.Native.Nat.{ℕ, ◌*◌, ◌≤◌}
use mathlib.Core.List.{List, ◌++◌}
use mathlib.Core.Path.{◌≡◌, refl, sym, ap, ◌∙◌}
use native.Mathlib.Omega.{arith}
use borrow.Author.Tests.{le-ltb, ltb-false}
use lib.Dec.{ltb}
use lib.IntN.{ℤ}
use lib.ListN.{length}
use Rattle.std.specs.Prelude.{Err}
use Rattle.rules.specs.Words.{when}
use Rattle.rules.specs.Job.{Job, piece_count, refused, accepted}
use Rattle.rules.specs.Answers.{BlockAnswer}
use Rattle.rules.specs.Told.{number_of, refusal_of, block_answer_told}
use Rattle.rules.specs.declared.fault.Fault.{Fault}
use Rattle.rules.specs.declared.fault.Fault.TheVariants.{BytesLeft, UnknownKind, PieceAfterLink, TooMany, Desk}
use Rattle.rules.specs.declared.fault.Fault.TheVariants.{Duration, ReleaseOrDue, NotZero, NoSuchPiece, Handover, Ring}
use Rattle.rules.specs.declared.fault.Fault.TheVariants.{BufferTooShort, AskedDesk, NoRoomForFile}
use Rattle.rules.specs.declared.fault.Refusal.{Refusal as Refused}
use Rattle.rules.specs.declared.Run.{Run}
use Rattle.rules.specs.Judgement.{refuse, then_judge, unless_no_desk, unless_short, file_outcome, block_outcome}
use Rattle.rules.specs.Plan.{at_front}
use Rattle.rules.specs.BlockSheet.{block_numbers, block_answer_of, block_buffer_of, block_answer, block_buffer}
use Rattle.demands.specs.Promises.{BlockPromise}
use Rattle.laws.proofs.Words.{by_test, when_true, when_false}
use Rattle.method.specs.declared.BlockRow.{BlockRow}
use Rattle.sheet_answer.specs.Listed.{block_row, run_row, rows_bytes}
use Rattle.sheet_answer.specs.Refused.{sheet_fault}
use Rattle.sheet_answer.specs.SheetFile.{SheetFile}
use Rattle.sheet_answer.proofs.SheetLaws.{bytes_here}

-- Every fault has a number.
numbered : (f : Fault) → number_of f ≡ 0 → ⊥
numbered BytesLeft e = absurd (omega (arith, e))
numbered UnknownKind e = absurd (omega (arith, e))
numbered PieceAfterLink e = absurd (omega (arith, e))
numbered TooMany e = absurd (omega (arith, e))
numbered Desk e = absurd (omega (arith, e))
numbered Duration e = absurd (omega (arith, e))
numbered ReleaseOrDue e = absurd (omega (arith, e))
numbered NotZero e = absurd (omega (arith, e))
numbered NoSuchPiece e = absurd (omega (arith, e))
numbered Handover e = absurd (omega (arith, e))
numbered Ring e = absurd (omega (arith, e))
numbered BufferTooShort e = absurd (omega (arith, e))
numbered AskedDesk e = absurd (omega (arith, e))
numbered NoRoomForFile e = absurd (omega (arith, e))

-- Whatever is refused leaves the buffer as it was.
leaves_all : (file : List ℕ) (d : ℕ) (buffer : List ℕ) (x : Refused)
    → block_outcome file d (length buffer) ≡ refused (refusal_of x) → BlockPromise file d buffer (block_answer_told (Err x)) buffer
unfolding block_answer block_buffer block_answer_of block_buffer_of
leaves_all file d buffer x o =
    record { answered = ap (λ o. block_answer_of o d) (sym o); left_there = ap (λ o. block_buffer_of o d buffer) (sym o) }

pub sheet_refused : (file : List ℕ) (d : ℕ) (buffer : List ℕ) (x : Refused) → file_outcome file ≡ refused (refusal_of x)
    → BlockPromise file d buffer (block_answer_told (Err x)) buffer
unfolding block_outcome then_judge
sheet_refused file d buffer x says =
    leaves_all file d buffer x
    (ap (λ o. then_judge (then_judge o (unless_no_desk d)) (unless_short (length buffer))) says)

-- What is refused for the call itself, 13 or 12, and what is not.
module _ (file : List ℕ) (d n : ℕ) (J : Job) (says : file_outcome file ≡ accepted J) (count : piece_count J ≡ n) where
  judged : (room : ℕ) → block_outcome file d room
      ≡ then_judge (when (ltb 31 d) (refuse 13 0) (accepted J)) (unless_short room)
  unfolding block_outcome then_judge unless_no_desk
  judged room = ap (λ o. then_judge (then_judge o (unless_no_desk d)) (unless_short room)) says

  pub sheet_faulty : (buffer : List ℕ) (f : Fault) → number_of f ≡ sheet_fault d n (length buffer)
      → BlockPromise file d buffer (block_answer_told (Err (record { fault = f; place = 0 }))) buffer
  unfolding sheet_fault then_judge unless_short when
  sheet_faulty buffer f e =
      leaves_all file d buffer (record { fault = f; place = 0 }) (judged (length buffer) ∙ rw e (by_test (ltb 31 d)
      (λ h. rw (h, when))
      (λ h. rw (h, when, count) (by_test (ltb (length buffer) (48 * n))
      (λ k. rw (k, when))
      (λ k. absurd (numbered f (e ∙ when_false (ltb 31 d) 13 _ h ∙ when_false (ltb (length buffer) (48 * n)) 12 0 k)))))))

  pub no_fault : (room : ℕ) → sheet_fault d n room ≡ 0 → (d ≤ 31) × (48 * n ≤ room)
  unfolding sheet_fault when
  no_fault room e = by_test (ltb 31 d)
      (λ h. absurd (omega (arith, sym (when_true (ltb 31 d) 13 _ h) ∙ e)))
      (λ h. by_test (ltb room (48 * n))
      (λ k. absurd (omega (arith, sym (when_false (ltb 31 d) 13 _ h ∙ when_true (ltb room (48 * n)) 12 0 k) ∙ e)))
      (λ k. (omega (arith, ltb-false 31 d h), omega (arith, ltb-false room (48 * n) k))))

module _ {file : List ℕ} {d : ℕ} {rows : List BlockRow} {runs : List Run} {worst : ℤ} (buffer : List ℕ)
    (F : SheetFile file d rows runs worst (length buffer)) where
  sheet_accepted_lem : block_outcome file d (length buffer) ≡ accepted F.job
  unfolding then_judge unless_short
  sheet_accepted_lem =
      judged file d (piece_count F.job) F.job F.says refl (length buffer)
      ∙ ap (λ o. then_judge o (unless_short (length buffer)))
      (when_false (ltb 31 d) (refuse 13 0) (accepted F.job) (le-ltb 31 d F.there))
      ∙ when_false (ltb (length buffer) (48 * piece_count F.job)) _ _
      (le-ltb (length buffer) (48 * piece_count F.job) F.enough)

  -- The promise is kept: blocks at the front, runs right after them, and the answer.
  pub sheet_kept : (answer : BlockAnswer) (after : List ℕ) → answer ≡ block_numbers F.job d
      → after ≡ at_front (rows_bytes (block_row d) rows ++ rows_bytes (run_row d) runs) buffer
      → BlockPromise file d buffer answer after
  unfolding block_answer block_buffer block_answer_of block_buffer_of
  sheet_kept answer after a p = record {
    answered = a ∙ ap (λ o. block_answer_of o d) (sym sheet_accepted_lem);
    left_there = p ∙ ap (λ w. at_front w buffer) (bytes_here F.sheet)
        ∙ ap (λ o. block_buffer_of o d buffer) (sym sheet_accepted_lem);
  }
