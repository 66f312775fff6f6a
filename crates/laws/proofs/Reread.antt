-- Files of what was offered: the reader judges each record as the writer judges the piece or link that it was made of, so
-- it refuses the file with the same number and place, and what was written is read back.
use Prim.Native.Nat.{ℕ, zero, suc, ◌+◌, ◌*◌, ◌%◌}
use mathlib.Core.Bool.{false}
use mathlib.Core.List.Memᴰ
use mathlib.Core.List.Memᴰ.{head as here}
use mathlib.Core.List.{List, [], ◌∷◌, ◌++◌, map, Memᴰ as Mem}
use mathlib.Core.Logic.{◌⊎◌, inl, inr}
use mathlib.Core.Path.{◌≡◌, refl, sym, ap, ◌∙◌, fun_ext}
use native.Mathlib.Omega.{arith}
use borrow.Author.Tests.{lt-ltb, le-ltb, eq-eqb}
use lib.Dec.{ltb}
use lib.ListN.{length, take, drop, length-append, length-map}
use lib.Seq.{take_at, drop_at, drop-drop}
use Rattle.rules.specs.Words.{when, one_of, joined}
use Rattle.rules.specs.Job.{Job, accepted, empty_job, piece_count, no_piece}
use Rattle.rules.specs.File.{whole_records, record_at, of_piece, of_link, kind_of, as_piece, as_link}
use Rattle.rules.specs.Reading.{piece_fault, link_fault, first_fault, kind_fault, order_fault, value_fault}
use Rattle.rules.specs.Reading.{zero_fault, record_fault, contents, unless_fault, judged, at_end, item_at, and_then}
use Rattle.rules.specs.Reading.{read_from, read_job}
use Rattle.rules.specs.Tables.{Sound, no_link}
use Rattle.rules.specs.Bytes.{half, word, plan_record}
use Rattle.rules.specs.Writing.{piece_record, link_record, file_of}
use Rattle.rules.specs.Form.{offers, offer_fault, take_all}
use Rattle.rules.specs.declared.Piece.{Piece}
use Rattle.rules.specs.declared.Link.{Link}
use Rattle.rules.specs.Answers.{Item, Work, Tie, Stop, Done}
use Rattle.laws.specs.Held.{PieceHeld, LinkHeld, Held}
use Rattle.laws.proofs.Words.{on_tail, when_true, when_false}
use Rattle.laws.proofs.Joined.{map_append, map_twice, joined_append, mem_of_map}
use Rattle.laws.proofs.Sound.{piece_fits, link_fits, mem_place}
use Rattle.laws.proofs.Writing.{piece_back, link_back}
use Rattle.laws.proofs.Offers.{sound_taken}

-- The record of what is offered, and that its fields hold the values.
abbrev made : Item → List ℕ
made (Work p) = piece_record p
made (Tie l) = link_record l
made (Stop r) = []
made Done = []

abbrev Fit : Item → Type 0
Fit (Work p) = PieceHeld p
Fit (Tie l) = LinkHeld l
Fit (Stop r) = ⊥
Fit Done = ⊥

pub piece_sized : (p : Piece) → length (piece_record p) ≡ 16
unfolding piece_record plan_record half word
piece_sized p = refl

pub link_sized : (l : Link) → length (link_record l) ≡ 16
unfolding link_record plan_record half word
link_sized l = refl

made_sized : (x : Item) → Fit x → length (made x) ≡ 16
made_sized (Work p) h = piece_sized p
made_sized (Tie l) h = link_sized l
made_sized (Stop r) h = absurd h
made_sized Done h = absurd h

no_further : (f : ℕ) → first_fault f 0 ≡ f
unfolding first_fault
no_further zero = refl
no_further (suc f) = refl

-- The record is judged as the offer is.
made_judged : (J : Job) (k : ℕ) (x : Item) → Fit x → judged J k (made x) ≡ unless_fault (offer_fault J x) k x
unfolding judged record_fault contents value_fault zero_fault kind_of kind_fault first_fault offer_fault piece_record
    link_record plan_record half word one_of when
made_judged J k (Work p) h =
    let back : as_piece (piece_record p) ≡ p = piece_back p h.duration_held h.release_held h.due_held in
    ap (λ q. unless_fault (first_fault (order_fault of_piece J) (first_fault (piece_fault q) 0)) k (Work q)) back
    ∙ ap (λ f. unless_fault (first_fault (order_fault of_piece J) f) k (Work p)) (no_further (piece_fault p))
made_judged J k (Tie l) h =
    let back : as_link (link_record l) ≡ l = link_back l h.before_held h.after_held h.handover_held in
    ap (λ q. unless_fault (first_fault (order_fault of_link J) (first_fault (link_fault (piece_count J) q) 0)) k (Tie q)) back
    ∙ ap (λ f. unless_fault (first_fault (order_fault of_link J) f) k (Tie l)) (no_further (link_fault (piece_count J) l))
made_judged J k (Stop r) h = absurd h
made_judged J k Done h = absurd h

-- And so one record after another, to the end of the file.
module _ (s : List ℕ) where
  read_made : (xs : List Item) (k : ℕ) (J : Job) → drop (16 * k) s ≡ joined (map made xs) → length s ≡ 16 * (k + length xs)
      → ((x : Item) → Mem x xs → Fit x) → read_from s (length xs) k J ≡ take_all xs k J
  unfolding read_from take_all joined item_at at_end and_then
  read_made [] k J at_end_lem long fit =
      let end : ltb k (whole_records s) ≡ false = le-ltb k (whole_records s) (omega arith) in
      ap (λ x. and_then x J accepted) (when_false _ _ _ end ∙ when_true _ _ _ (eq-eqb (length s % 16) 0 (omega arith)))
  read_made (x ∷ xs) k J at-record long fit =
      let rest : List ℕ = joined (map made xs) in
      let fits : Fit x = fit x (here refl) in
      let this : record_at s k ≡ made x = ap (take 16) at-record ∙ take_at (made x) rest 16 (made_sized x fits) in
      let given : item_at s k J ≡ unless_fault (offer_fault J x) k x =
      when_true _ _ _ (lt-ltb k (whole_records s) (omega arith)) ∙ ap (judged J k) this ∙ made_judged J k x fits in
      let y : 16 * (k + 1) ≡ 16 * k + 16 = omega arith in
      let next : drop (16 * (k + 1)) s ≡ rest =
      ap (λ n. drop n s) y ∙ sym (drop-drop 16 (16 * k) s) ∙ ap (drop 16) at-record
      ∙ drop_at (made x) rest 16 (made_sized x fits) in
      ap (λ i. and_then i J (λ J'. read_from s (length xs) (k + 1) J')) given
      ∙ ap (and_then (unless_fault (offer_fault J x) k x) J)
      (fun_ext (λ J'. read_made xs (k + 1) J' next (omega arith) (on_tail x xs fit)))

file_made_of : (F : Job) → file_of F ≡ joined (map made (offers F))
unfolding file_of offers
file_made_of F =
    sym (ap joined (map_append made (map Work F.pieces) (map Tie F.links)
    ∙ (λ i. map_twice Work made F.pieces i ++ map_twice Tie made F.links i)))

-- A file has 16 bytes for each piece and each link.
pub records_long : {A : Type 0} (made : A → List ℕ) → ((a : A) → length (made a) ≡ 16) → (bs : List A)
    → length (joined (map made bs)) ≡ 16 * length bs
unfolding joined
records_long made sized [] = refl
records_long made sized (b ∷ bs) =
    omega (arith, length-append (made b) (joined (map made bs)), sized b, records_long made sized bs)

pub file_parts : (F : Job) → file_of F ≡ joined (map piece_record F.pieces) ++ joined (map link_record F.links)
unfolding file_of
file_parts F = joined_append (map piece_record F.pieces) (map link_record F.links)

pub file_long : (F : Job) → length (file_of F) ≡ 16 * piece_count F + 16 * length F.links
file_long F =
    omega (
      arith,
      ap length (file_parts F),
      length-append (joined (map piece_record F.pieces)) (joined (map link_record F.links)),
      records_long piece_record piece_sized F.pieces,
      records_long link_record link_sized F.links,
    )

offers_fit : (F : Job) → Held F → (x : Item) → Mem x (offers F) → Fit x
unfolding offers
offers_fit F held x m = go (Memᴰ.append_cases (map Work F.pieces) m)
  where
    go : Mem x (map Work F.pieces) ⊎ Mem x (map Tie F.links) → Fit x
    go (inl n) = let w = mem_of_map Work F.pieces x n in rw w.2 (held.pieces_held w.0 w.1)
    go (inr n) = let w = mem_of_map Tie F.links x n in rw w.2 (held.links_held w.0 w.1)

-- THE READER REFUSES WHAT THE WRITER REFUSES, with the same number and place, and accepts what it accepts: all values that
-- a record can hold.
pub file_judged : (F : Job) → Held F → read_job (file_of F) ≡ take_all (offers F) 0 empty_job
unfolding read_job offers
file_judged F held =
    let s : List ℕ = file_of F in
    let count : length (offers F) ≡ piece_count F + length F.links =
    length-append (map Work F.pieces) (map Tie F.links)
    ∙ (λ i. length-map F.pieces Work i + length-map F.links Tie i) in
    let whole : whole_records s ≡ length (offers F) = omega (arith, count, file_long F) in
    ap (λ n. read_from s n 0 empty_job) whole
    ∙ read_made s (offers F) 0 empty_job (file_made_of F) (omega (arith, count, file_long F)) (offers_fit F held)

-- WHAT WAS WRITTEN IS READ BACK.
pub sound_held : (J : Job) → Sound J → Held J
sound_held J sound = record {
  pieces_held = λ p m.
      let w = mem_place no_piece J.pieces p m in
      let f = piece_fits p (rw w.2 at (sound.pieces_fit w.0 w.1)) in
      record {
        desk_held = omega (arith, f.desk_most);
        duration_held = omega (arith, f.duration_most);
        release_held = omega (arith, f.release_most);
        due_held = omega (arith, f.due_most);
      };
  links_held = λ l m.
      let w = mem_place no_link J.links l m in
      let f = link_fits (piece_count J) l (rw w.2 at (sound.links_fit w.0 w.1)) in
      record {
        before_held = omega (arith, f.before_one, sound.few_pieces);
        after_held = omega (arith, f.after_one, sound.few_pieces);
        handover_held = omega (arith, f.handover_most);
      };
}

pub file_read : (J : Job) → Sound J → read_job (file_of J) ≡ accepted J
file_read J sound = file_judged J (sound_held J sound) ∙ sound_taken J sound
