-- The rest of a reading, record by record: a piece or a link is taken into the job and the reading goes on, a refusal
-- and the end of the file end it. And the one induction by which a saying holds of every reading.
use Prim.Native.Nat.{ℕ, zero, suc, ◌+◌, ◌-◌, ◌%◌}
use mathlib.Core.List.{List}
use mathlib.Core.Path.{◌≡◌, refl, ap, ◌∙◌}
use native.Mathlib.Omega.{arith}
use lib.Dec.{ltb, eqb}
use lib.ListN.{length}
use borrow.Author.Tests.{ltb-true, ltb-false}
use Rattle.rules.specs.Words.{when}
use Rattle.rules.specs.File.{whole_records}
use Rattle.rules.specs.Job.{Job, Outcome, refused, accepted, empty_job, with_piece, with_link}
use Rattle.rules.specs.Reading.{at_end, item_at, and_then, read_from, read_job}
use Rattle.rules.specs.declared.Piece.{Piece}
use Rattle.rules.specs.declared.Link.{Link}
use Rattle.rules.specs.Answers.{Refusal, Item, Work, Tie, Stop, Done}
use Rattle.laws.proofs.Words.{by_test}
use Rattle.cursor.proofs.Judged.{item_end}
use Rattle.reader.specs.Rest.{rest}

-- The whole is the rest from record 0 on.
pub from_start : (s : List ℕ) → read_job s ≡ rest s 0 empty_job
unfolding read_job
from_start s = let z : whole_records s - 0 ≡ whole_records s = omega arith in rw z

-- At the end nothing goes on.
end_ends : (s : List ℕ) (J : Job) (f g : Job → Outcome) → and_then (at_end s) J f ≡ and_then (at_end s) J g
unfolding at_end and_then
end_ends s J f g = by_test (eqb (length s % 16) 0) (λ e. rw (e, when)) (λ e. rw (e, when))

pub reading_on : (s : List ℕ) (k : ℕ) (J : Job) →
    rest s k J ≡ and_then (item_at s k J) J (λ J'. rest s (k + 1) J')
unfolding read_from
reading_on s k J =
    by_test (ltb k (whole_records s))
    (λ t.
    let here = ltb-true k (whole_records s) t in
    let z : whole_records s - k ≡ suc (whole_records s - (k + 1)) = omega arith in
    rw z)
    (λ t.
    let past = ltb-false k (whole_records s) t in
    let z : whole_records s - k ≡ 0 = omega arith in
    rw (z, item_end s k J past) (end_ends s J accepted (λ J'. rest s (k + 1) J')))

module _ (s : List ℕ) (k : ℕ) (J : Job) where
  pub on_piece : (p : Piece) → item_at s k J ≡ Work p → rest s k J ≡ rest s (k + 1) (with_piece J p)
  unfolding and_then
  on_piece p h = reading_on s k J ∙ ap (λ i. and_then i J (λ J'. rest s (k + 1) J')) h

  pub on_link : (l : Link) → item_at s k J ≡ Tie l → rest s k J ≡ rest s (k + 1) (with_link J l)
  unfolding and_then
  on_link l h = reading_on s k J ∙ ap (λ i. and_then i J (λ J'. rest s (k + 1) J')) h

  pub on_stop : (r : Refusal) → item_at s k J ≡ Stop r → rest s k J ≡ refused r
  unfolding and_then
  on_stop r h = reading_on s k J ∙ ap (λ i. and_then i J (λ J'. rest s (k + 1) J')) h

  pub on_done : item_at s k J ≡ Done → rest s k J ≡ accepted J
  unfolding and_then
  on_done h = reading_on s k J ∙ ap (λ i. and_then i J (λ J'. rest s (k + 1) J')) h

-- What holds of every reading: a saying Q of the job read so far that each piece and each link keeps, and a saying R of
-- the outcome that every refusal meets, and every job of which Q holds.
module _ (s : List ℕ) (Q : Job → Type 0) (R : Outcome → Type 0)
    (piece : (k : ℕ) (J : Job) (p : Piece) → Q J → item_at s k J ≡ Work p → Q (with_piece J p))
    (link : (k : ℕ) (J : Job) (l : Link) → Q J → item_at s k J ≡ Tie l → Q (with_link J l))
    (stop : (k : ℕ) (J : Job) (r : Refusal) → item_at s k J ≡ Stop r → R (refused r))
    (done : (J : Job) → Q J → R (accepted J)) where
  one_answer : (k : ℕ) (J : Job) → Q J → (onward : Job → Outcome) → ((G : Job) → Q G → R (onward G)) → (i : Item) →
      item_at s k J ≡ i → R (and_then i J onward)
  unfolding and_then
  one_answer k J q onward next (Work p) e = next (with_piece J p) (piece k J p q e)
  one_answer k J q onward next (Tie l) e = next (with_link J l) (link k J l q e)
  one_answer k J q onward next (Stop r) e = stop k J r e
  one_answer k J q onward next Done e = done J q

  every_rest : (left k : ℕ) (J : Job) → Q J → R (read_from s left k J)
  unfolding read_from
  every_rest zero k J q = one_answer k J q accepted done (item_at s k J) refl
  every_rest (suc left) k J q =
      one_answer k J q (λ G. read_from s left (k + 1) G) (λ G g. every_rest left (k + 1) G g) (item_at s k J) refl

  pub every_reading : Q empty_job → R (read_job s)
  unfolding read_job
  every_reading q = every_rest (whole_records s) 0 empty_job q
