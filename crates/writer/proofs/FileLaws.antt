-- The writer's promise, by the way it ends: refused for the form, refused for the room, or written.
use Rattle.std.specs.Prelude.{ℕ, ◌+◌, ◌*◌, ◌/◌, ◌≤◌, ◌<◌, List, ◌++◌, ◌≡◌, length, Ok, Err}
use Rattle.std.proofs.Common.{arith, sym, ap, ◌∙◌}
use borrow.Author.Tests.{lt-ltb, le-ltb}
use Rattle.rules.specs.Words.{below, joined}
use Rattle.rules.specs.Job.{Job, Outcome, refused, accepted}
use Rattle.rules.specs.Judgement.{then_judge, refuse}
use Rattle.rules.specs.Writing.{piece_record, link_record, file_of}
use Rattle.rules.specs.Plan.{at_front}
use Rattle.rules.specs.Form.{piece_row, link_row, form_job, form_outcome, unless_no_room, write_outcome, write_answer_of}
use Rattle.rules.specs.Form.{write_buffer_of, write_answer, write_buffer}
use Rattle.rules.specs.Told.{refusal_of, write_answer_told}
use Rattle.rules.specs.declared.fault.Fault.TheVariants.{NoRoomForFile}
use Rattle.rules.specs.declared.fault.Refusal.{Refusal}
use Rattle.laws.proofs.Words.{when_true, when_false}
use Rattle.laws.proofs.Joined.{map_twice}
use Rattle.laws.proofs.Reread.{piece_sized, file_parts, file_long}
use Rattle.demands.specs.Promises.{WritePromise}
use Rattle.forms.specs.Written.{rows_bytes}
use Rattle.forms.proofs.InTurn.{rows_count}
use Rattle.forms.proofs.RowsPut.{rows_long}

module _ (pieces links buffer : List ℕ) where
  abbrev F : Job
  F = form_job pieces links

  -- The bytes of the records of the pieces, of those of the links, and of the file.
  abbrev behind : ℕ
  behind = 16 * (length pieces / 4)

  abbrev bytes : ℕ
  bytes = behind + 16 * (length links / 3)

  -- The outcome fixes the promise.
  by_outcome : (o : Outcome) → write_outcome pieces links (length buffer) ≡ o
      → WritePromise pieces links buffer (write_answer_of o) (write_buffer_of o buffer)
  unfolding write_answer write_buffer
  by_outcome o e =
      record { answered = ap write_answer_of (sym e); left_there = ap (λ x. write_buffer_of x buffer) (sym e) }

  pub form_refused : (r : Refusal) → form_outcome pieces links ≡ refused (refusal_of r)
      → WritePromise pieces links buffer (write_answer_told (Err r)) buffer
  unfolding write_outcome then_judge write_answer_of write_buffer_of
  form_refused r h = by_outcome (refused (refusal_of r)) (ap (λ o. then_judge o (unless_no_room (length buffer))) h)

  -- The length of the file.
  pub form_long : length (file_of F) ≡ bytes
  unfolding form_job
  form_long =
      omega (
        arith,
        file_long F,
        rows_count (piece_row pieces) (length pieces / 4),
        rows_count (link_row links) (length links / 3),
      )

  module _ (fine : form_outcome pieces links ≡ accepted F) where
    pub no_room : length buffer < bytes
        → WritePromise pieces links buffer (write_answer_told (Err (record { fault = NoRoomForFile; place = 0 }))) buffer
    unfolding write_outcome then_judge unless_no_room write_answer_of write_buffer_of
    no_room short = by_outcome (refuse 14 0)
        (ap (λ o. then_judge o (unless_no_room (length buffer))) fine
        ∙ when_true _ _ _ (lt-ltb (length buffer) (length (file_of F)) (omega (arith, form_long))))

    -- The records of pieces and links are the file.
    abbrev of_pieces : List ℕ
    of_pieces = rows_bytes (λ i. piece_record (piece_row pieces i)) (length pieces / 4)

    abbrev of_links : List ℕ
    of_links = rows_bytes (λ k. link_record (link_row links k)) (length links / 3)

    file_bytes : of_pieces ++ of_links ≡ file_of F
    unfolding form_job rows_bytes
    file_bytes =
        sym (file_parts F
        ∙ λ i. joined (map_twice (piece_row pieces) piece_record (below (length pieces / 4)) i)
        ++ joined (map_twice (link_row links) link_record (below (length links / 3)) i))

    pub pieces_long : length of_pieces ≡ behind
    pieces_long =
        rows_long (λ i. piece_record (piece_row pieces i)) (λ i. piece_sized (piece_row pieces i)) (length pieces / 4)

    pub records_fit : bytes ≤ length buffer → length (of_pieces ++ of_links) ≤ length buffer
    records_fit room = omega (arith, ap (λ l. length l) file_bytes, form_long, room)

    pub written : (last : List ℕ) → bytes ≤ length buffer → last ≡ at_front (of_pieces ++ of_links) buffer
        → WritePromise pieces links buffer (write_answer_told (Ok bytes)) last
    unfolding write_outcome then_judge unless_no_room write_answer_of write_buffer_of
    written last room stored =
        rw (stored ∙ ap (λ l. at_front l buffer) file_bytes, ← form_long) (by_outcome (accepted F)
        (ap (λ o. then_judge o (unless_no_room (length buffer))) fine
        ∙ when_false _ _ _ (le-ltb (length buffer) (length (file_of F)) (omega (arith, form_long)))))
