-- The place of the writer's refusal is that of a row, or the count of whole rows, so it fits a signed number of 64 bits.
use Prim.Native.Nat.{ℕ, zero, suc, ◌+◌, ◌%◌, ◌/◌, ◌≤◌}
use mathlib.Core.List.{List, [], ◌∷◌, ◌++◌, map}
use lib.IntN.{ℤ, pos}
use mathlib.Core.Path.{◌≡◌, ◌∙◌}
use native.Mathlib.Omega.{arith}
use lib.Dec.{ltb, eqb}
use lib.ListN.{length, length-map}
use Rattle.rules.specs.Words.{when, below}
use Rattle.rules.specs.Job.{Job, Outcome, refused, accepted, empty_job, with_piece, with_link}
use Rattle.rules.specs.Reading.{unless_fault, and_then}
use Rattle.rules.specs.Judgement.{then_judge}
use Rattle.rules.specs.Writing.{file_of}
use Rattle.rules.specs.Form.{piece_row, link_row, form_job, offers, offer_fault, take_all, unless_cut, unless_no_room}
use Rattle.rules.specs.Form.{form_outcome, write_outcome, write_answer_of, write_answer}
use Rattle.rules.specs.declared.Piece.{Piece}
use Rattle.rules.specs.declared.Link.{Link}
use Rattle.rules.specs.Answers.{Item, Work, Tie, WriteAnswer}
use Rattle.exports.specs.Calls.{write_row}
use Rattle.exports.proofs.Places.{place_of}
use Rattle.laws.proofs.Words.{by_test, length-below}

-- One offer: refused at its own place, or taken, and then what comes after it decides.
offer_place : (f k most : ℕ) (x : Item) (J : Job) (onward : Job → Outcome) → k ≤ most → place_of (and_then x J onward) ≤ most
    → place_of (and_then (unless_fault f k x) J onward) ≤ most
unfolding unless_fault and_then place_of
offer_place zero k most x J onward here later = later
offer_place (suc f) k most x J onward here later = here

links_place : (ls : List Link) (k : ℕ) (J : Job) → place_of (take_all (map Tie ls) k J) ≤ k + length ls
unfolding take_all and_then place_of
links_place [] k J = omega arith
links_place (l ∷ ls) k J =
    let ih : place_of (take_all (map Tie ls) (k + 1) (with_link J l)) ≤ k + 1 + length ls =
    links_place ls (k + 1) (with_link J l) in
    offer_place (offer_fault J (Tie l)) k (k + suc (length ls)) (Tie l) J (λ J'. take_all (map Tie ls) (k + 1) J')
    (omega arith) (omega (arith, ih))

rows_place : (ps : List Piece) (ls : List Link) (k : ℕ) (J : Job)
    → place_of (take_all (map Work ps ++ map Tie ls) k J) ≤ k + length ps + length ls
unfolding take_all and_then place_of
rows_place [] ls k J = omega (arith, links_place ls k J)
rows_place (p ∷ ps) ls k J =
    let ih : place_of (take_all (map Work ps ++ map Tie ls) (k + 1) (with_piece J p)) ≤ k + 1 + length ps + length ls =
    rows_place ps ls (k + 1) (with_piece J p) in
    offer_place (offer_fault J (Work p)) k (k + suc (length ps) + length ls) (Work p) J
    (λ J'. take_all (map Work ps ++ map Tie ls) (k + 1) J') (omega arith) (omega (arith, ih))

module _ (pieces links : List ℕ) where
  abbrev rows : ℕ
  rows = length pieces / 4 + length links / 3

  -- A further judgement keeps the place within the rows, if its own places are.
  then_place : (o : Outcome) (further : Job → Outcome) → place_of o ≤ rows → ((J : Job) → place_of (further J) ≤ rows)
      → place_of (then_judge o further) ≤ rows
  unfolding then_judge
  then_place (refused r) further h k = h
  then_place (accepted J) further h k = k J

  cut_place : (J : Job) → place_of (unless_cut pieces links J) ≤ rows
  unfolding unless_cut place_of when
  cut_place J = by_test (eqb (length pieces % 4 + length links % 3) 0)
      (λ e. rw (e, when) (omega arith)) (λ e. rw (e, when) (omega arith))

  room_place : (room : ℕ) (J : Job) → place_of (unless_no_room room J) ≤ rows
  unfolding unless_no_room place_of when
  room_place room J = by_test (ltb room (length (file_of J)))
      (λ e. rw (e, when) (omega arith)) (λ e. rw (e, when) (omega arith))

  taken_place : place_of (take_all (offers (form_job pieces links)) 0 empty_job) ≤ rows
  unfolding offers form_job
  taken_place =
      let ps : length (form_job pieces links).pieces ≡ length pieces / 4 =
      length-map (below (length pieces / 4)) (piece_row pieces) ∙ length-below (length pieces / 4) in
      let ls : length (form_job pieces links).links ≡ length links / 3 =
      length-map (below (length links / 3)) (link_row links) ∙ length-below (length links / 3) in
      omega (arith, ps, ls, rows_place (form_job pieces links).pieces (form_job pieces links).links 0 empty_job)

  pub write_place : (buffer : List ℕ) → (write_answer pieces links buffer).place ≤ rows
  unfolding write_answer write_answer_of write_outcome form_outcome place_of
  write_place buffer = go (write_outcome pieces links (length buffer))
      (then_place (form_outcome pieces links) (unless_no_room (length buffer))
      (then_place (take_all (offers (form_job pieces links)) 0 empty_job) (unless_cut pieces links) taken_place cut_place)
      (room_place (length buffer)))
    where
      go : (o : Outcome) → place_of o ≤ rows → (write_answer_of o).place ≤ rows
      go (refused r) h = h
      go (accepted J) h = h
