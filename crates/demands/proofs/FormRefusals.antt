-- What the writer refuses: as the reader would, with the same number and place, whatever was typed; 14 last; always by a
-- number on the list, and without a byte changed.
use Prim.Native.Nat.{ℕ, zero, suc, ◌+◌, ◌%◌, ◌≤◌}
use mathlib.Core.List.{List, [], ◌∷◌, ◌++◌, map}
use mathlib.Core.Logic.{◌↔◌}
use mathlib.Core.Path.{◌≡◌, refl, sym, ap, ◌∙◌}
use native.Mathlib.Omega.{arith}
use borrow.Author.Tests.{eq-eqb}
use lib.Dec.{ltb, eqb}
use lib.ListN.{length}
use Rattle.rules.specs.Words.{when, row}
use Rattle.rules.specs.Job.{Job, Outcome, refused, accepted, empty_job, with_piece, with_link, piece_count}
use Rattle.rules.specs.File.{of_piece, of_link}
use Rattle.rules.specs.Reading.{piece_fault, link_fault, order_fault, unless_fault, and_then, read_job}
use Rattle.rules.specs.Judgement.{then_judge}
use Rattle.rules.specs.Writing.{file_of}
use Rattle.rules.specs.Form.{form_job, offers, offer_fault, take_all, unless_cut, unless_no_room, form_outcome}
use Rattle.rules.specs.Form.{write_outcome, write_answer_of, write_buffer_of, write_answer, write_buffer}
use Rattle.rules.specs.declared.Piece.{Piece}
use Rattle.rules.specs.declared.Link.{Link}
use Rattle.rules.specs.Answers.{Item, Work, Tie, Refusal, WriteAnswer}
use Rattle.laws.specs.Held.{Held, cut_down}
use Rattle.laws.proofs.Words.{by_test, when_true}
use Rattle.laws.proofs.Reread.{file_judged}
use Rattle.laws.proofs.CutDown.{Same, cut-judged}
use Rattle.demands.specs.Promises.{WritePromise}
use Rattle.demands.proofs.Answers.{OnList, Refuses, first_most, order_most, piece_most, link_most, judge_refuses}

-- ONE ANSWER AND ONE BUFFER.
pub one_file : (pieces links buffer : List ℕ) (a b : WriteAnswer) (s t : List ℕ)
    → WritePromise pieces links buffer a s → WritePromise pieces links buffer b t → (a ≡ b) × (s ≡ t)
one_file pieces links buffer a b s t p q = (p.answered ∙ sym q.answered, p.left_there ∙ sym q.left_there)

-- No row is cut short.
abbrev pub Whole : List ℕ → List ℕ → Type 0
Whole pieces links = length pieces % 4 + length links % 3 ≡ 0

abbrev pub is_refused : Outcome → ℕ
is_refused (refused r) = 1
is_refused (accepted J) = 0

module _ (pieces links : List ℕ) where
  abbrev F : Job
  F = form_job pieces links

  nothing_cut : Whole pieces links → (J : Job) → unless_cut pieces links J ≡ accepted J
  unfolding unless_cut
  nothing_cut whole J = when_true _ _ _ (eq-eqb (length pieces % 4 + length links % 3) 0 whole)

  pub form_rows : Whole pieces links → form_outcome pieces links ≡ take_all (offers F) 0 empty_job
  unfolding form_outcome then_judge
  form_rows whole = go (take_all (offers F) 0 empty_job)
    where
      go : (o : Outcome) → then_judge o (unless_cut pieces links) ≡ o
      go (refused r) = refl
      go (accepted J) = nothing_cut whole J

  -- REFUSED AS BY THE READER, with the same number and place, and 14 last: for every form without a row cut short and of
  -- values that a record can hold, the writer judges as the reader judges the file that it would make.
  pub judged_as_by_the_reader : Whole pieces links → Held F → (room : ℕ)
      → write_outcome pieces links room ≡ then_judge (read_job (file_of F)) (unless_no_room room)
  unfolding write_outcome
  judged_as_by_the_reader whole held room =
      ap (λ o. then_judge o (unless_no_room room)) (form_rows whole ∙ sym (file_judged F held))

  module _ (buffer : List ℕ) where
    pub same_number_and_place : Whole pieces links → Held F → (r : Refusal) → read_job (file_of F) ≡ refused r
        → write_answer pieces links buffer ≡ record { number = r.number; place = r.place; bytes = 0 }
    unfolding write_answer write_answer_of then_judge
    same_number_and_place whole held r h =
        ap write_answer_of (judged_as_by_the_reader whole held (length buffer)
        ∙ ap (λ o. then_judge o (unless_no_room (length buffer))) h)

-- FOR EVERY NUMBER THAT CAN BE TYPED: a form is refused exactly if the reader refuses the file of its numbers, each cut down
-- to the greatest that its field holds, and by the same refusal.
same_refusal : (o p : Outcome) → Same o p → (r : Refusal) → (p ≡ refused r) ↔ (o ≡ refused r)
same_refusal (refused a) (refused b) e r = (λ h. ap refused e ∙ h, λ h. ap refused (sym e) ∙ h)
same_refusal (refused a) (accepted K) e r = absurd e
same_refusal (accepted J) (refused b) e r = absurd e
same_refusal (accepted J) (accepted K) e r = (
  λ h. let z : ◌≡◌ {A = ℕ} 0 1 = ap is_refused h in absurd (omega arith),
  λ h. let z : ◌≡◌ {A = ℕ} 0 1 = ap is_refused h in absurd (omega arith),
)

pub refused_as_by_the_reader : (pieces links : List ℕ) → Whole pieces links → (r : Refusal)
    → (form_outcome pieces links ≡ refused r) ↔ (read_job (file_of (cut_down (form_job pieces links))) ≡ refused r)
refused_as_by_the_reader pieces links whole r =
    same_refusal _ (form_outcome pieces links)
    (rw (form_rows pieces links whole) (cut-judged (form_job pieces links))) r

-- A NUMBER ON THE LIST: what is offered is refused by a number from 1 to 10, a form by one from 1 to 14.
offer_refuses : (f k : ℕ) (x : Item) (J : Job) (onward : Job → Outcome) → f ≤ 10 → Refuses 10 (and_then x J onward)
    → Refuses 10 (and_then (unless_fault f k x) J onward)
unfolding unless_fault and_then Refuses OnList
offer_refuses zero k x J onward h ok = ok
offer_refuses (suc f) k x J onward h ok = (omega arith, h)

links_refuse : (ls : List Link) (k : ℕ) (J : Job) → Refuses 10 (take_all (map Tie ls) k J)
unfolding take_all offer_fault and_then Refuses
links_refuse [] k J = tt
links_refuse (l ∷ ls) k J =
    offer_refuses (offer_fault J (Tie l)) k (Tie l) J (λ J'. take_all (map Tie ls) (k + 1) J')
    (first_most (order_fault of_link J) (link_fault (piece_count J) l) 10 (order_most of_link J) (link_most (piece_count J) l))
    (links_refuse ls (k + 1) (with_link J l))

rows_refuse : (ps : List Piece) (ls : List Link) (k : ℕ) (J : Job) → Refuses 10 (take_all (map Work ps ++ map Tie ls) k J)
unfolding take_all offer_fault and_then
rows_refuse [] ls k J = links_refuse ls k J
rows_refuse (p ∷ ps) ls k J =
    offer_refuses (offer_fault J (Work p)) k (Work p) J (λ J'. take_all (map Work ps ++ map Tie ls) (k + 1) J')
    (first_most (order_fault of_piece J) (piece_fault p) 10 (order_most of_piece J) (piece_most p))
    (rows_refuse ps ls (k + 1) (with_piece J p))

cut_refuses : (pieces links : List ℕ) (J : Job) → Refuses 10 (unless_cut pieces links J)
unfolding unless_cut Refuses OnList when
cut_refuses pieces links J = by_test (eqb (length pieces % 4 + length links % 3) 0)
    (λ e. rw (e, when) tt) (λ e. rw (e, when) (omega arith, omega arith))

room_refuses : (room : ℕ) (J : Job) → Refuses 14 (unless_no_room room J)
unfolding unless_no_room Refuses OnList when
room_refuses room J = by_test (ltb room (length (file_of J)))
    (λ e. rw (e, when) (omega arith, omega arith)) (λ e. rw (e, when) tt)

pub form_refuses : (pieces links : List ℕ) → Refuses 10 (form_outcome pieces links)
unfolding form_outcome offers
form_refuses pieces links =
    judge_refuses 10 10 (omega arith) (take_all (offers (form_job pieces links)) 0 empty_job) (unless_cut pieces links)
    (rows_refuse (form_job pieces links).pieces (form_job pieces links).links 0 empty_job) (cut_refuses pieces links)

pub write_refuses : (pieces links : List ℕ) (room : ℕ) → Refuses 14 (write_outcome pieces links room)
unfolding write_outcome
write_refuses pieces links room =
    judge_refuses 10 14 (omega arith) (form_outcome pieces links) (unless_no_room room) (form_refuses pieces links)
    (room_refuses room)

pub write_number_on_list : (pieces links buffer : List ℕ) → (write_answer pieces links buffer).number ≤ 14
unfolding write_answer write_answer_of Refuses OnList
write_number_on_list pieces links buffer =
    go (write_outcome pieces links (length buffer)) (write_refuses pieces links (length buffer))
  where
    go : (o : Outcome) → Refuses 14 o → (write_answer_of o).number ≤ 14
    go (refused r) h = h.1
    go (accepted J) h = omega arith

-- A REFUSAL CHANGES NO BYTE.
pub refused_writer_leaves_all : (pieces links buffer : List ℕ) → ((write_answer pieces links buffer).number ≡ 0 → ⊥)
    → write_buffer pieces links buffer ≡ buffer
unfolding write_answer write_buffer write_answer_of write_buffer_of
refused_writer_leaves_all pieces links buffer h = go (write_outcome pieces links (length buffer)) refl
  where
    go : (o : Outcome) → write_outcome pieces links (length buffer) ≡ o → write_buffer pieces links buffer ≡ buffer
    go (refused r) e = rw (e, write_buffer_of)
    go (accepted J) e = absurd (h (rw (e, write_answer_of)))
