-- The place of a refusal is the place of a record or the number of a piece, so it fits a signed number of 64 bits.
use Prim.Native.Nat.{ℕ, ◌+◌, ◌*◌, ◌/◌, ◌≤◌}
use mathlib.Core.List.{List, [], ◌∷◌}
use lib.IntN.{ℤ, pos}
use mathlib.Core.Option.{Option, none, some}
use mathlib.Core.Path.{◌≡◌, refl}
use native.Mathlib.Omega.{arith}
use lib.Dec.{ltb}
use lib.ListN.{length}
use Rattle.rules.specs.Words.{when}
use Rattle.rules.specs.Job.{Job, Outcome, refused, accepted, piece_count}
use Rattle.rules.specs.Reading.{read_job}
use Rattle.rules.specs.Rings.{linked, ring_piece}
use Rattle.rules.specs.Judgement.{then_judge, unless_ring, unless_no_desk, unless_short, file_outcome, plan_outcome, block_outcome}
use Rattle.rules.specs.Plan.{plan_numbers, plan_answer_of, plan_answer}
use Rattle.rules.specs.BlockSheet.{block_numbers, block_answer_of, block_answer}
use Rattle.rules.specs.Answers.{PlanAnswer, BlockAnswer}
use Rattle.exports.specs.Calls.{plan_row, sheet_row}
use Rattle.laws.proofs.Words.{by_test}
use Rattle.laws.proofs.Rings.{ring_found}
use Rattle.laws.proofs.Reading.{job_sound}
use Rattle.reader.proofs.Refusals.{read_listed}

-- The place of an outcome; 0 where it is accepted.
unfoldable pub place_of : Outcome → ℕ
place_of (refused r) = r.place
place_of (accepted J) = 0

-- Within the records of the file, or a piece's number.
abbrev Near : List ℕ → Outcome → Type 0
Near file o = place_of o ≤ length file / 16 + 256

-- A further judgement keeps the place near, if its own places are.
near_then : (file : List ℕ) (o : Outcome) (further : Job → Outcome) → Near file o → ((J : Job) → o ≡ accepted J → Near file (further J))
    → Near file (then_judge o further)
unfolding then_judge
near_then file (refused r) further h k = h
near_then file (accepted J) further h k = k J refl

near_ring : (file : List ℕ) (J : Job) → read_job file ≡ accepted J → Near file (unless_ring J)
unfolding unless_ring place_of ring_piece
near_ring file J read = go (ring_piece J) refl
  where
    go : (o : Option ℕ) → ring_piece J ≡ o → Near file (unless_ring J)
    go none e = rw (e, unless_ring) (omega arith)
    go (some i) e =
        let w = ring_found (linked J) (piece_count J) i e in
        rw (e, unless_ring) (omega (arith, w.0, (job_sound file J read).few_pieces))

near_short : (file : List ℕ) (room : ℕ) (J : Job) → Near file (unless_short room J)
unfolding unless_short place_of when
near_short file room J = by_test (ltb room (48 * piece_count J)) (λ e. rw (e, when) (omega arith)) (λ e. rw (e, when) (omega arith))

near_desk : (file : List ℕ) (d : ℕ) (J : Job) → Near file (unless_no_desk d J)
unfolding unless_no_desk place_of when
near_desk file d J = by_test (ltb 31 d) (λ e. rw (e, when) (omega arith)) (λ e. rw (e, when) (omega arith))

near_read : (file : List ℕ) → Near file (read_job file)
unfolding place_of
near_read file = go (read_job file) refl
  where
    go : (o : Outcome) → read_job file ≡ o → Near file (read_job file)
    go (refused r) e = rw e (omega (arith, (read_listed file r e).placed))
    go (accepted J) e = rw e (omega arith)

near_file : (file : List ℕ) → Near file (file_outcome file)
unfolding file_outcome
near_file file = near_then file (read_job file) unless_ring (near_read file) (λ J e. near_ring file J e)

pub plan_place : (file buffer : List ℕ) → (plan_answer file buffer).place ≤ length file / 16 + 256
unfolding plan_answer plan_outcome place_of plan_answer_of plan_numbers
plan_place file buffer = go (plan_outcome file (length buffer))
    (near_then file (file_outcome file) (unless_short (length buffer)) (near_file file) (λ J e. near_short file (length buffer) J))
  where
    go : (o : Outcome) → Near file o → (plan_answer_of o).place ≤ length file / 16 + 256
    go (refused r) h = h
    go (accepted J) h = h

pub sheet_place : (file : List ℕ) (d : ℕ) (buffer : List ℕ) → (block_answer file d buffer).place ≤ length file / 16 + 256
unfolding block_answer block_outcome place_of block_answer_of block_numbers
sheet_place file d buffer = go (block_outcome file d (length buffer))
    (near_then file (then_judge (file_outcome file) (unless_no_desk d)) (unless_short (length buffer))
    (near_then file (file_outcome file) (unless_no_desk d) (near_file file) (λ J e. near_desk file d J))
    (λ J e. near_short file (length buffer) J))
  where
    go : (o : Outcome) → Near file o → (block_answer_of o d).place ≤ length file / 16 + 256
    go (refused r) h = h
    go (accepted J) h = h
