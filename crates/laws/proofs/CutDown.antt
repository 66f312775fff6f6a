-- A number too large for its field is judged as the greatest number of the field is: so every form, whatever was typed, is
-- refused with the number and the place by which the reader refuses the file with its numbers cut down.
use Prim.Native.Nat.{ℕ, zero, suc, ◌+◌, ◌≤◌, ◌<◌}
use mathlib.Core.List.{List, [], ◌∷◌, ◌++◌, map}
use mathlib.Core.Path.{◌≡◌, refl, sym, ap, ◌∙◌}
use native.Mathlib.Omega.{arith}
use borrow.Author.Tests.{ltb-true, ltb-false, lt-ltb, le-leb, ne_eqb}
use lib.Dec.{ltb, leb, eqb}
use lib.ListN.{length, length-append}
use Rattle.rules.specs.Words.{when}
use Rattle.rules.specs.Job.{Job, Outcome, refused, accepted, empty_job, with_piece, with_link, piece_count}
use Rattle.rules.specs.File.{of_piece, of_link}
use Rattle.rules.specs.Reading.{piece_fault, link_fault, order_fault, first_fault, unless_fault, and_then, read_job}
use Rattle.rules.specs.Writing.{file_of}
use Rattle.rules.specs.Form.{offers, offer_fault, take_all}
use Rattle.rules.specs.declared.Piece.{Piece}
use Rattle.rules.specs.declared.Link.{Link}
use Rattle.rules.specs.Answers.{Item, Work, Tie}
use Rattle.laws.specs.Held.{Held, cut_to, cut_piece, cut_link, cut_down}
use Rattle.laws.proofs.Words.{by_test, when_true, when_false}
use Rattle.laws.proofs.Joined.{mem_of_map}
use Rattle.laws.proofs.Offers.{offer_piece}
use Rattle.laws.proofs.Reread.{file_judged}

-- A number cut down: what is left of it has room, and stands to every bound below as the number does.
module _ (most n : ℕ) where
  by_cut : {P : Type 0} → (most < n → cut_to most n ≡ most → P) → (n ≤ most → cut_to most n ≡ n → P) → P
  unfolding cut_to
  by_cut f g = by_test (ltb most n)
      (λ e. f (ltb-true most n e) (when_true _ _ _ e))
      (λ e. g (ltb-false most n e) (when_false _ _ _ e))

  cut_room : cut_to most n ≤ most
  cut_room = by_cut (λ h e. omega (arith, e)) (λ h e. omega (arith, e))

  cut-ltb : (m : ℕ) → m < most → ltb m (cut_to most n) ≡ ltb m n
  cut-ltb m b = by_cut
      (λ h e. ap (ltb m) e ∙ lt-ltb m most b ∙ sym (lt-ltb m n (omega arith)))
      (λ h e. ap (ltb m) e)

  cut-leb : (m : ℕ) → m ≤ most → leb m (cut_to most n) ≡ leb m n
  cut-leb m b = by_cut
      (λ h e. ap (leb m) e ∙ le-leb m most b ∙ sym (le-leb m n (omega arith)))
      (λ h e. ap (leb m) e)

  cut-zero : 0 < most → eqb (cut_to most n) 0 ≡ eqb n 0
  cut-zero b = by_cut
      (λ h e. ap (λ k. eqb k 0) e ∙ ne_eqb most 0 (λ z. omega (arith, z)) ∙ sym (ne_eqb n 0 (λ z. omega (arith, z))))
      (λ h e. ap (λ k. eqb k 0) e)

cut-piece : (p : Piece) → piece_fault (cut_piece p) ≡ piece_fault p
unfolding piece_fault
cut-piece p =
    rw (
      cut-ltb 255 p.desk 31 (omega arith),
      cut-zero 65535 p.duration (omega arith),
      cut-ltb 65535 p.duration 960 (omega arith),
      cut-ltb 4294967295 p.release 40000 (omega arith),
      cut-ltb 4294967295 p.due 40000 (omega arith),
    )

cut_link_lem : (n : ℕ) (l : Link) → n ≤ 256 → link_fault n (cut_link l) ≡ link_fault n l
unfolding link_fault
cut_link_lem n l few =
    rw (
      cut-leb 65535 l.before n (omega arith),
      cut-leb 65535 l.after n (omega arith),
      cut-ltb 65535 l.handover 480 (omega arith),
    )

-- Two outcomes say the same: the same refusal, or both are accepted.
abbrev pub Same : Outcome → Outcome → Type 0
Same (refused r) (refused s) = r ≡ s
Same (refused r) (accepted K) = ⊥
Same (accepted J) (refused s) = ⊥
Same (accepted J) (accepted K) = Unit {0}

-- Two jobs of as many pieces and links.
pub record Alike (J K : Job) : Type 0 where
  pub pieces_alike : piece_count J ≡ piece_count K
  pub links_alike : length J.links ≡ length K.links
  pub few : piece_count K ≤ 256

order_alike : (J K : Job) → Alike J K
    → (order_fault of_piece J ≡ order_fault of_piece K) × (order_fault of_link J ≡ order_fault of_link K)
unfolding order_fault
order_alike J K a = (
  λ i. when (ltb 0 (a.links_alike i)) 3 (when (leb 256 (a.pieces_alike i)) 4 0),
  λ i. when (leb 1024 (a.links_alike i)) 4 0,
)

-- An offer and its like: both are taken, or both are refused alike.
both : (f g k : ℕ) (x y : Item) (J K : Job) (onward ahead : Job → Outcome) → f ≡ g
    → (g ≡ 0 → Same (and_then x J onward) (and_then y K ahead))
    → Same (and_then (unless_fault f k x) J onward) (and_then (unless_fault g k y) K ahead)
unfolding unless_fault and_then
both zero zero k x y J K onward ahead e h = h refl
both zero (suc g) k x y J K onward ahead e h = absurd (omega arith)
both (suc f) zero k x y J K onward ahead e h = absurd (omega arith)
both (suc f) (suc g) k x y J K onward ahead e h = λ i. record { number = e i; place = k }

links_same : (ls : List Link) (k : ℕ) (J K : Job) → Alike J K
    → Same (take_all (map Tie (map cut_link ls)) k J) (take_all (map Tie ls) k K)
unfolding take_all offer_fault and_then
links_same [] k J K a = tt
links_same (l ∷ ls) k J K a =
    let value : link_fault (piece_count J) (cut_link l) ≡ link_fault (piece_count K) l =
    ap (λ n. link_fault n (cut_link l)) a.pieces_alike ∙ cut_link_lem (piece_count K) l a.few in
    both (offer_fault J (Tie (cut_link l))) (offer_fault K (Tie l)) k (Tie (cut_link l)) (Tie l) J K _ _
    (λ i. first_fault ((order_alike J K a).1 i) (value i))
    (λ z. links_same ls (k + 1) (with_link J (cut_link l)) (with_link K l) (record {
      pieces_alike = a.pieces_alike;
      links_alike =
          omega (arith, a.links_alike, length-append J.links (cut_link l ∷ []), length-append K.links (l ∷ []));
      few = a.few;
    }))

rows_same : (ps : List Piece) (ls : List Link) (k : ℕ) (J K : Job) → Alike J K
    → Same (take_all (map Work (map cut_piece ps) ++ map Tie (map cut_link ls)) k J) (take_all (map Work ps ++ map Tie ls) k K)
unfolding take_all offer_fault and_then
rows_same [] ls k J K a = links_same ls k J K a
rows_same (p ∷ ps) ls k J K a =
    both (offer_fault J (Work (cut_piece p))) (offer_fault K (Work p)) k (Work (cut_piece p)) (Work p) J K _ _
    (λ i. first_fault ((order_alike J K a).0 i) (cut-piece p i))
    (λ z. rows_same ps ls (k + 1) (with_piece J (cut_piece p)) (with_piece K p) (record {
      pieces_alike =
          omega (arith, a.pieces_alike, length-append J.pieces (cut_piece p ∷ []), length-append K.pieces (p ∷ []));
      links_alike = a.links_alike;
      few = omega (arith, length-append K.pieces (p ∷ []), (offer_piece K p z).room);
    }))

-- What is cut down has room in its fields.
cut_held : (F : Job) → Held (cut_down F)
cut_held F = record {
  pieces_held = λ p m. let w = mem_of_map cut_piece F.pieces p m in rw w.2 (record {
    desk_held = omega (arith, cut_room 255 w.0.desk);
    duration_held = omega (arith, cut_room 65535 w.0.duration);
    release_held = omega (arith, cut_room 4294967295 w.0.release);
    due_held = omega (arith, cut_room 4294967295 w.0.due);
  });
  links_held = λ l m. let w = mem_of_map cut_link F.links l m in rw w.2 (record {
    before_held = omega (arith, cut_room 65535 w.0.before);
    after_held = omega (arith, cut_room 65535 w.0.after);
    handover_held = omega (arith, cut_room 65535 w.0.handover);
  });
}

-- EVERY FORM, WHATEVER WAS TYPED: the reader's answer for the file of its numbers cut down says the same.
pub cut-judged : (F : Job) → Same (read_job (file_of (cut_down F))) (take_all (offers F) 0 empty_job)
unfolding offers
cut-judged F =
    rw (file_judged (cut_down F) (cut_held F))
    (rows_same F.pieces F.links 0 empty_job empty_job
    (record { pieces_alike = refl; links_alike = refl; few = omega arith }))
