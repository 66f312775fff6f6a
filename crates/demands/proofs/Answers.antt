-- Demand 1 about the answers: a call answers or refuses by a number on the list, a refusal leaves every byte, only one
-- answer and one buffer meet a promise, and the first 20,496 bytes decide any longer file.
use Prim.Native.Nat.{ℕ, zero, suc, ◌+◌, ◌*◌, ◌%◌, ◌≤◌}
use mathlib.Core.Bool.{Bool, true, false, not, ◌||◌}
use mathlib.Core.List.{List}
use mathlib.Core.Option.{Option, none, some}
use mathlib.Core.Path.{◌≡◌, refl, sym, ap, ◌∙◌}
use native.Mathlib.Omega.{arith}
use lib.Dec.{leb, ltb, eqb}
use lib.ListN.{length, take}
use Rattle.rules.specs.Words.{when, one_of}
use Rattle.rules.specs.Job.{Job, Outcome, refused, accepted, piece_count, empty_job}
use Rattle.rules.specs.File.{byte_at, whole_records, record_at, Kind, of_piece, of_link, unknown, kind_of, as_piece}
use Rattle.rules.specs.File.{as_link, zero_places}
use Rattle.rules.specs.Reading.{piece_fault, link_fault, zero_fault, kind_fault, order_fault, value_fault}
use Rattle.rules.specs.Reading.{first_fault, record_fault, contents, unless_fault, judged, at_end, item_at, and_then}
use Rattle.rules.specs.Reading.{read_from, read_job}
use Rattle.rules.specs.Rings.{ring_piece}
use Rattle.rules.specs.Judgement.{then_judge, unless_ring, unless_no_desk, unless_short, file_outcome, plan_outcome}
use Rattle.rules.specs.Judgement.{block_outcome}
use Rattle.rules.specs.Plan.{plan_numbers, plan_answer_of, plan_buffer_of, plan_answer, plan_buffer}
use Rattle.rules.specs.BlockSheet.{block_numbers, block_answer_of, block_buffer_of, block_answer, block_buffer}
use Rattle.rules.specs.Listing.{listing_of, listing}
use Rattle.rules.specs.declared.Piece.{Piece}
use Rattle.rules.specs.declared.Link.{Link}
use Rattle.rules.specs.Answers.{Refusal, PlanAnswer, BlockAnswer, Item, Work, Tie, Stop, Done}
use Rattle.laws.proofs.Words.{by_test}
use Rattle.laws.proofs.Prefix.{first_bytes_decide}
use Rattle.demands.specs.Promises.{PlanPromise, BlockPromise, RunsPromise}

-- ONE ANSWER AND ONE BUFFER: of each call, what meets the promise is one pair.
pub one_plan : (file buffer : List ℕ) (a b : PlanAnswer) (s t : List ℕ)
    → PlanPromise file buffer a s → PlanPromise file buffer b t → (a ≡ b) × (s ≡ t)
one_plan file buffer a b s t p q = (p.answered ∙ sym q.answered, p.left_there ∙ sym q.left_there)

pub one_block_sheet : (file : List ℕ) (desk : ℕ) (buffer : List ℕ) (a b : BlockAnswer) (s t : List ℕ)
    → BlockPromise file desk buffer a s → BlockPromise file desk buffer b t → (a ≡ b) × (s ≡ t)
one_block_sheet file desk buffer a b s t p q = (p.answered ∙ sym q.answered, p.left_there ∙ sym q.left_there)

pub one_stretch : (records : List ℕ) (desk : ℕ) (a b : List ℕ) (s t : ℕ)
    → RunsPromise records desk a s → RunsPromise records desk b t → (a ≡ b) × (s ≡ t)
one_stretch records desk a b s t p q = (p.bytes ∙ sym q.bytes, p.begins ∙ sym q.begins)

-- A REFUSAL CHANGES NO BYTE.
pub refused_plan_leaves_all : (file buffer : List ℕ) → ((plan_answer file buffer).number ≡ 0 → ⊥) → plan_buffer file buffer ≡ buffer
unfolding plan_answer plan_buffer plan_answer_of plan_buffer_of plan_numbers
refused_plan_leaves_all file buffer h = go (plan_outcome file (length buffer)) refl
  where
    go : (o : Outcome) → plan_outcome file (length buffer) ≡ o → plan_buffer file buffer ≡ buffer
    go (refused r) e = rw (e, plan_buffer_of)
    go (accepted J) e = absurd (h (rw (e, plan_answer_of)))

pub refused_sheet_leaves_all : (file : List ℕ) (desk : ℕ) (buffer : List ℕ)
    → ((block_answer file desk buffer).number ≡ 0 → ⊥) → block_buffer file desk buffer ≡ buffer
unfolding block_answer block_buffer block_answer_of block_buffer_of block_numbers
refused_sheet_leaves_all file desk buffer h = go (block_outcome file desk (length buffer)) refl
  where
    go : (o : Outcome) → block_outcome file desk (length buffer) ≡ o → block_buffer file desk buffer ≡ buffer
    go (refused r) e = rw (e, block_buffer_of)
    go (accepted J) e = absurd (h (rw (e, block_answer_of)))

-- THE FIRST 20,496 BYTES DECIDE.
first_bytes_outcome : (file : List ℕ) → file_outcome (take 20496 file) ≡ file_outcome file
unfolding file_outcome
first_bytes_outcome file = ap (λ o. then_judge o unless_ring) (first_bytes_decide file)

pub first_bytes_plan : (file buffer : List ℕ)
    → (plan_answer (take 20496 file) buffer ≡ plan_answer file buffer) × (plan_buffer (take 20496 file) buffer ≡ plan_buffer file buffer)
unfolding plan_answer plan_buffer plan_outcome
first_bytes_plan file buffer =
    let e = first_bytes_outcome file in (
      ap (λ o. plan_answer_of (then_judge o (unless_short (length buffer)))) e,
      ap (λ o. plan_buffer_of (then_judge o (unless_short (length buffer))) buffer) e,
    )

pub first_bytes_sheet : (file : List ℕ) (desk : ℕ) (buffer : List ℕ)
    → (block_answer (take 20496 file) desk buffer ≡ block_answer file desk buffer)
    × (block_buffer (take 20496 file) desk buffer ≡ block_buffer file desk buffer)
unfolding block_answer block_buffer block_outcome
first_bytes_sheet file desk buffer =
    let e = first_bytes_outcome file in (
      ap (λ o. block_answer_of (then_judge (then_judge o (unless_no_desk desk)) (unless_short (length buffer))) desk) e,
      ap (λ o. block_buffer_of (then_judge (then_judge o (unless_no_desk desk)) (unless_short (length buffer))) desk buffer) e,
    )

pub first_bytes_listing : (file : List ℕ) → listing file ≡ listing_of (file_outcome file)
unfolding listing
first_bytes_listing file = ap listing_of (first_bytes_outcome file)

-- A NUMBER ON THE LIST. Each judgement gives 0 or its own number.
one_of_lem : (b : Bool) (fault later most : ℕ) → fault ≤ most → later ≤ most → when b fault later ≤ most
unfolding when
one_of_lem true fault later most h k = h
one_of_lem false fault later most h k = k

pub first_most : (a b most : ℕ) → a ≤ most → b ≤ most → first_fault a b ≤ most
unfolding first_fault
first_most zero b most h k = k
first_most (suc a) b most h k = h

kind_most : (k : Kind) → kind_fault k ≤ 10
unfolding kind_fault
kind_most of_piece = omega arith
kind_most of_link = omega arith
kind_most unknown = omega arith

pub order_most : (k : Kind) (K : Job) → order_fault k K ≤ 10
unfolding order_fault
order_most of_piece K =
    one_of_lem (ltb 0 (length K.links)) 3 (when (leb 256 (piece_count K)) 4 0) 10 (omega arith)
    (one_of_lem (leb 256 (piece_count K)) 4 0 10 (omega arith) (omega arith))
order_most of_link K = one_of_lem (leb 1024 (length K.links)) 4 0 10 (omega arith) (omega arith)
order_most unknown K = omega arith

pub piece_most : (p : Piece) → piece_fault p ≤ 10
unfolding piece_fault when
piece_most p = by_test (ltb 31 p.desk) (λ a. rw (a, when) (omega arith))
    (λ a. by_test (eqb p.duration 0 || ltb 960 p.duration) (λ b. rw (a, b, when) (omega arith))
    (λ b. by_test (ltb 40000 p.release || ltb 40000 p.due) (λ c. rw (a, b, c, when) (omega arith))
    (λ c. rw (a, b, c, when) (omega arith))))

pub link_most : (n : ℕ) (l : Link) → link_fault n l ≤ 10
unfolding link_fault when
link_most n l = by_test (leb n l.before || leb n l.after) (λ a. rw (a, when) (omega arith))
    (λ a. by_test (ltb 480 l.handover) (λ b. rw (a, b, when) (omega arith)) (λ b. rw (a, b, when) (omega arith)))

value_most : (k : Kind) (K : Job) (r : List ℕ) → value_fault k K r ≤ 10
unfolding value_fault
value_most of_piece K r = piece_most (as_piece r)
value_most of_link K r = link_most (piece_count K) (as_link r)
value_most unknown K r = omega arith

zero_most : (k : Kind) (r : List ℕ) → zero_fault k r ≤ 10
unfolding zero_fault
zero_most k r = one_of_lem (one_of (λ i. not (eqb (byte_at r i) 0)) (zero_places k)) 8 0 10 (omega arith) (omega arith)

record_most : (k : Kind) (K : Job) (r : List ℕ) → record_fault k K r ≤ 10
unfolding record_fault
record_most k K r =
    first_most (kind_fault k) (first_fault (order_fault k K) (first_fault (value_fault k K r) (zero_fault k r))) 10 (kind_most k)
    (first_most (order_fault k K) (first_fault (value_fault k K r) (zero_fault k r)) 10 (order_most k K)
    (first_most (value_fault k K r) (zero_fault k r) 10 (value_most k K r) (zero_most k r)))

-- The refusal that the reader gives, if it gives one.
unfoldable pub OnList : ℕ → Refusal → Type 0
OnList most r = (1 ≤ r.number) × (r.number ≤ most)

unfoldable pub Refuses : ℕ → Outcome → Type 0
Refuses most (refused r) = OnList most r
Refuses most (accepted J) = Unit {0}

Stops : Item → Type 0
Stops (Work p) = Unit {0}
Stops (Tie l) = Unit {0}
Stops (Stop r) = OnList 10 r
Stops Done = Unit {0}

fault_stops : (f k : ℕ) (x : Item) → f ≤ 10 → Stops x → Stops (unless_fault f k x)
unfolding unless_fault Stops OnList
fault_stops zero k x h s = s
fault_stops (suc f) k x h s = (omega arith, h)

contents_stops : (k : Kind) (r : List ℕ) → Stops (contents k r)
unfolding contents Stops
contents_stops of_piece r = tt
contents_stops of_link r = tt
contents_stops unknown r = tt

item_stops : (s : List ℕ) (k : ℕ) (K : Job) → Stops (item_at s k K)
unfolding item_at judged at_end Stops OnList when
item_stops s k K = by_test (ltb k (whole_records s))
    (λ e. rw (e, when) (fault_stops (record_fault (kind_of (byte_at (record_at s k) 0)) K (record_at s k)) k
    (contents (kind_of (byte_at (record_at s k) 0)) (record_at s k))
    (record_most (kind_of (byte_at (record_at s k) 0)) K (record_at s k))
    (contents_stops (kind_of (byte_at (record_at s k) 0)) (record_at s k))))
    (λ e. rw (e, when) (by_test (eqb (length s % 16) 0)
    (λ q. rw (q, when) tt) (λ q. rw (q, when) (omega arith, omega arith))))

then_refuses : (x : Item) (K : Job) (onward : Job → Outcome) → Stops x → ((K' : Job) → Refuses 10 (onward K'))
    → Refuses 10 (and_then x K onward)
unfolding and_then Refuses Stops
then_refuses (Work p) K onward s h = h _
then_refuses (Tie l) K onward s h = h _
then_refuses (Stop r) K onward s h = s
then_refuses Done K onward s h = tt

read_refuses : (s : List ℕ) (left k : ℕ) (K : Job) → Refuses 10 (read_from s left k K)
unfolding read_from Refuses
read_refuses s zero k K = then_refuses (item_at s k K) K accepted (item_stops s k K) (λ K'. tt)
read_refuses s (suc left) k K =
    then_refuses (item_at s k K) K (λ K'. read_from s left (k + 1) K') (item_stops s k K) (λ K'. read_refuses s left (k + 1) K')

pub judge_refuses : (few most : ℕ) → few ≤ most → (o : Outcome) (further : Job → Outcome) → Refuses few o
    → ((K : Job) → Refuses most (further K)) → Refuses most (then_judge o further)
unfolding then_judge Refuses OnList
judge_refuses few most l (refused r) further h k = (h.0, omega (arith, h.1))
judge_refuses few most l (accepted K) further h k = k K

ring_refuses : (K : Job) → Refuses 11 (unless_ring K)
unfolding unless_ring Refuses OnList
ring_refuses K = go (ring_piece K) refl
  where
    go : (o : Option ℕ) → ring_piece K ≡ o → Refuses 11 (unless_ring K)
    go none e = rw (e, unless_ring) tt
    go (some i) e = rw (e, unless_ring) (omega arith, omega arith)

short_refuses : (most room : ℕ) (K : Job) → 12 ≤ most → Refuses most (unless_short room K)
unfolding unless_short Refuses OnList when
short_refuses most room K l = by_test (ltb room (48 * piece_count K))
    (λ e. rw (e, when) (omega arith, omega arith)) (λ e. rw (e, when) tt)

desk_refuses : (d : ℕ) (K : Job) → Refuses 13 (unless_no_desk d K)
unfolding unless_no_desk Refuses OnList when
desk_refuses d K = by_test (ltb 31 d) (λ e. rw (e, when) (omega arith, omega arith)) (λ e. rw (e, when) tt)

file_refuses : (file : List ℕ) → Refuses 11 (file_outcome file)
unfolding file_outcome read_job
file_refuses file =
    judge_refuses 10 11 (omega arith) (read_job file) unless_ring (read_refuses file (whole_records file) 0 empty_job) ring_refuses

-- A plan is refused by a number from 1 to 12, a block sheet by one from 1 to 13; 0 is an answer.
pub plan_number_on_list : (file buffer : List ℕ) → (plan_answer file buffer).number ≤ 12
unfolding plan_answer plan_answer_of plan_outcome plan_numbers Refuses OnList
plan_number_on_list file buffer = go (plan_outcome file (length buffer))
    (judge_refuses 11 12 (omega arith) (file_outcome file) (unless_short (length buffer)) (file_refuses file)
    (λ K. short_refuses 12 (length buffer) K (omega arith)))
  where
    go : (o : Outcome) → Refuses 12 o → (plan_answer_of o).number ≤ 12
    go (refused r) h = h.1
    go (accepted K) h = omega arith

pub sheet_number_on_list : (file : List ℕ) (desk : ℕ) (buffer : List ℕ) → (block_answer file desk buffer).number ≤ 13
unfolding block_answer block_answer_of block_outcome block_numbers Refuses OnList
sheet_number_on_list file desk buffer = go (block_outcome file desk (length buffer))
    (judge_refuses 13 13 (omega arith) (then_judge (file_outcome file) (unless_no_desk desk)) (unless_short (length buffer))
    (judge_refuses 11 13 (omega arith) (file_outcome file) (unless_no_desk desk) (file_refuses file) (desk_refuses desk))
    (λ K. short_refuses 13 (length buffer) K (omega arith)))
  where
    go : (o : Outcome) → Refuses 13 o → (block_answer_of o desk).number ≤ 13
    go (refused r) h = h.1
    go (accepted K) h = omega arith
