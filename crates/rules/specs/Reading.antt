-- "Refusal numbers", 2 to 10 and 1: whole records are judged in file order, each for 2, 3, 4, 5, 6, 7, 9, 10, 8 in that
-- order; the first refusal met ends the reading. Then come the bytes left after the last whole record.
use Rattle.std.specs.Prelude.{ℕ, zero, suc, ◌+◌, ◌%◌, not, ◌||◌, List, leb, ltb, eqb, length}
use Rattle.rules.specs.Words.{when, one_of}
use Rattle.rules.specs.Job.{Job, Outcome, refused, accepted, empty_job, with_piece, with_link, piece_count}
use Rattle.rules.specs.File.{byte_at, whole_records, record_at, Kind, of_piece, of_link, unknown, kind_of, as_piece, as_link, zero_places}
use Rattle.rules.specs.declared.Piece.{Piece}
use Rattle.rules.specs.declared.Link.{Link}
use Rattle.rules.specs.Answers.{Item, Work, Tie, Stop, Done}

-- The value faults of a piece: 5, desk above 31; 6, duration 0 or above 960; 7, release or due above 40,000. 0: none.
unfoldable pub piece_fault : Piece → ℕ
unfolding when
piece_fault p =
    when (ltb 31 p.desk) 5
    (when (eqb p.duration 0 || ltb 960 p.duration) 6
    (when (ltb 40000 p.release || ltb 40000 p.due) 7 0))

-- The value faults of a link, n pieces read before it: 9, it names a number not below n; 10, handover above 480.
unfoldable pub link_fault : ℕ → Link → ℕ
unfolding when
link_fault n l =
    when (leb n l.before || leb n l.after) 9
    (when (ltb 480 l.handover) 10 0)

-- 8: a byte that must be zero is not.
unfoldable pub zero_fault : Kind → List ℕ → ℕ
unfolding when one_of
zero_fault k r = when (one_of (λ i. not (eqb (byte_at r i) 0)) (zero_places k)) 8 0

-- 2: the kind is unknown.
unfoldable pub kind_fault : Kind → ℕ
kind_fault of_piece = 0
kind_fault of_link = 0
kind_fault unknown = 2

-- 3: a piece after a link. 4: a 257th piece or a 1,025th link. J holds what was read before the record.
unfoldable pub order_fault : Kind → Job → ℕ
unfolding when
order_fault of_piece J = when (ltb 0 (length J.links)) 3 (when (leb 256 (piece_count J)) 4 0)
order_fault of_link J = when (leb 1024 (length J.links)) 4 0
order_fault unknown J = 0

-- 5 to 10: the values of a record of that kind.
unfoldable pub value_fault : Kind → Job → List ℕ → ℕ
unfolding piece_fault link_fault as_piece as_link
value_fault of_piece J r = piece_fault (as_piece r)
value_fault of_link J r = link_fault (piece_count J) (as_link r)
value_fault unknown J r = 0

-- One judgement after another: the first fault, and 0 where there is none.
unfoldable pub first_fault : ℕ → ℕ → ℕ
first_fault zero later = later
first_fault (suc fault) later = suc fault

-- The whole judgement of a record, in the order 2, 3, 4, 5, 6, 7, 9, 10, 8.
unfoldable pub record_fault : Kind → Job → List ℕ → ℕ
unfolding first_fault kind_fault order_fault value_fault zero_fault
record_fault k J r =
    first_fault (kind_fault k) (first_fault (order_fault k J) (first_fault (value_fault k J r) (zero_fault k r)))

-- What a record without a fault says. (An unknown kind is a fault.)
unfoldable pub contents : Kind → List ℕ → Item
unfolding as_piece as_link
contents of_piece r = Work (as_piece r)
contents of_link r = Tie (as_link r)
contents unknown r = Done

-- The answer for the fault of record k: the refusal, or the contents.
unfoldable pub unless_fault : ℕ → ℕ → Item → Item
unless_fault zero k item = item
unless_fault (suc fault) k item = Stop (record { number = suc fault; place = k })

-- Record k, its bytes r, with J read before it.
unfoldable pub judged : Job → ℕ → List ℕ → Item
unfolding unless_fault record_fault contents kind_of
judged J k r = let kind = kind_of (byte_at r 0) in unless_fault (record_fault kind J r) k (contents kind r)

-- 1: bytes left after the last whole record; its place is the count of whole records.
unfoldable pub at_end : List ℕ → Item
unfolding when
at_end s = when (eqb (length s % 16) 0) Done (Stop (record { number = 1; place = whole_records s }))

-- The reader gives one record or one refusal at a time: record k, or the end behind the last one.
unfoldable pub item_at : List ℕ → ℕ → Job → Item
unfolding when judged at_end
item_at s k J = when (ltb k (whole_records s)) (judged J k (record_at s k)) (at_end s)

-- What an answer of the reader makes of the job read so far: it goes on, or the reading ends.
unfoldable pub and_then : Item → Job → (Job → Outcome) → Outcome
and_then (Work p) J onward = onward (with_piece J p)
and_then (Tie l) J onward = onward (with_link J l)
and_then (Stop r) J onward = refused r
and_then Done J onward = accepted J

-- The reading from record k on, with so many whole records still to come.
unfoldable pub read_from : List ℕ → ℕ → ℕ → Job → Outcome
unfolding and_then item_at
read_from s zero k J = and_then (item_at s k J) J accepted
read_from s (suc left) k J = and_then (item_at s k J) J (λ J'. read_from s left (k + 1) J')

-- A job file read: the job, or the refusal by 1 to 10 and its place.
unfoldable pub read_job : List ℕ → Outcome
unfolding read_from
read_job s = read_from s (whole_records s) 0 empty_job
