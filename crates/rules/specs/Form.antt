-- "Job files from the order desk": pieces and links typed into a form, as rows of numbers, make a job file. Each row is
-- judged as the reader judges its record; then 1, a row cut short; then 14, the lent buffer too short for the file.
use Rattle.std.specs.Prelude.{ℕ, ◌+◌, ◌*◌, ◌/◌, ◌%◌, List, [], ◌∷◌, ◌++◌, map, ltb, eqb, length, get_or}
use Rattle.rules.specs.Words.{when, below, joined}
use Rattle.rules.specs.Job.{Job, Outcome, refused, accepted, empty_job, piece_count}
use Rattle.rules.specs.File.{of_piece, of_link}
use Rattle.rules.specs.Reading.{piece_fault, link_fault, order_fault, first_fault, unless_fault, and_then}
use Rattle.rules.specs.Writing.{file_of}
use Rattle.rules.specs.Judgement.{refuse, then_judge}
use Rattle.rules.specs.Plan.{at_front}
use Rattle.rules.specs.declared.Piece.{Piece}
use Rattle.rules.specs.declared.Link.{Link}
use Rattle.rules.specs.Answers.{Item, Work, Tie, Stop, Done, WriteAnswer}

-- A piece is a row of four numbers: desk, duration, release, due. A link is a row of three: the piece before, the piece
-- after, the handover.
unfoldable pub piece_row : List ℕ → ℕ → Piece
piece_row rows i = record {
  desk = get_or rows (4 * i) 0;
  duration = get_or rows (4 * i + 1) 0;
  release = get_or rows (4 * i + 2) 0;
  due = get_or rows (4 * i + 3) 0;
}

unfoldable pub link_row : List ℕ → ℕ → Link
link_row rows k =
    record { before = get_or rows (3 * k) 0; after = get_or rows (3 * k + 1) 0; handover = get_or rows (3 * k + 2) 0 }

-- What the whole rows of a form say.
unfoldable pub form_job : List ℕ → List ℕ → Job
unfolding piece_row link_row below
form_job pieces links = record {
  pieces = map (piece_row pieces) (below (length pieces / 4));
  links = map (link_row links) (below (length links / 3));
}

-- The other way: the rows that a job is typed as.
unfoldable pub typed_pieces : Job → List ℕ
unfolding joined
typed_pieces J = joined (map (λ p. p.desk ∷ p.duration ∷ p.release ∷ p.due ∷ []) J.pieces)

unfoldable pub typed_links : Job → List ℕ
unfolding joined
typed_links J = joined (map (λ l. l.before ∷ l.after ∷ l.handover ∷ []) J.links)

-- Pieces and links in the order of the file to be made.
unfoldable pub offers : Job → List Item
offers F = map Work F.pieces ++ map Tie F.links

-- The fault of what is offered behind J, as its record would have it: 3, 4, then 5 to 10. Its kind is known, and its bytes
-- that must be zero are.
unfoldable pub offer_fault : Job → Item → ℕ
unfolding first_fault order_fault piece_fault link_fault
offer_fault J (Work p) = first_fault (order_fault of_piece J) (piece_fault p)
offer_fault J (Tie l) = first_fault (order_fault of_link J) (link_fault (piece_count J) l)
offer_fault J (Stop r) = 0
offer_fault J Done = 0

-- What is offered is taken one by one, from place k on; the first refusal met ends it.
unfoldable pub take_all : List Item → ℕ → Job → Outcome
unfolding and_then unless_fault offer_fault
take_all [] k J = accepted J
take_all (x ∷ xs) k J = and_then (unless_fault (offer_fault J x) k x) J (λ J'. take_all xs (k + 1) J')

-- 1: numbers left after the last whole row; its place is the count of whole rows.
unfoldable pub unless_cut : List ℕ → List ℕ → Job → Outcome
unfolding when
unless_cut pieces links J =
    when (eqb (length pieces % 4 + length links % 3) 0) (accepted J)
    (refuse 1 (length pieces / 4 + length links / 3))

-- 14: lent buffer too short for the file.
unfoldable pub unless_no_room : ℕ → Job → Outcome
unfolding when file_of
unless_no_room room J = when (ltb room (length (file_of J))) (refuse 14 0) (accepted J)

-- A form judged for itself, and for a buffer of so many bytes.
unfoldable pub form_outcome : List ℕ → List ℕ → Outcome
unfolding then_judge take_all offers form_job unless_cut
form_outcome pieces links = then_judge (take_all (offers (form_job pieces links)) 0 empty_job) (unless_cut pieces links)

unfoldable pub write_outcome : List ℕ → List ℕ → ℕ → Outcome
unfolding then_judge form_outcome unless_no_room
write_outcome pieces links room = then_judge (form_outcome pieces links) (unless_no_room room)

-- Answer: the bytes of the file. A refusal returns its number and place, every other number zero.
unfoldable pub write_answer_of : Outcome → WriteAnswer
unfolding file_of
write_answer_of (refused r) = record { number = r.number; place = r.place; bytes = 0 }
write_answer_of (accepted J) = record { number = 0; place = 0; bytes = length (file_of J) }

-- The file stands at the front of the lent buffer, and bytes after it stay; nothing is written by a refusal.
unfoldable pub write_buffer_of : Outcome → List ℕ → List ℕ
unfolding at_front file_of
write_buffer_of (refused r) buffer = buffer
write_buffer_of (accepted J) buffer = at_front (file_of J) buffer

-- THE WRITER: the rows of pieces and of links and a lent buffer give this answer, and leave this in the buffer.
unfoldable pub write_answer : List ℕ → List ℕ → List ℕ → WriteAnswer
unfolding write_answer_of write_outcome
write_answer pieces links buffer = write_answer_of (write_outcome pieces links (length buffer))

unfoldable pub write_buffer : List ℕ → List ℕ → List ℕ → List ℕ
unfolding write_buffer_of write_outcome
write_buffer pieces links buffer = write_buffer_of (write_outcome pieces links (length buffer)) buffer
