-- Laws of reading: a job that was read is sound; and the first 20,496 bytes decide any longer file, since of 1,281 records
-- one is refused at the latest by its count.
use Prim.Native.Nat.{ℕ, zero, suc, ◌+◌, ◌%◌, ◌<◌}
use mathlib.Core.List.{List, [], ◌∷◌, ◌++◌}
use mathlib.Core.Path.{◌≡◌, refl, sym, ap, ◌∙◌}
use native.Mathlib.Omega.{arith}
use borrow.Author.Tests.{ltb-true, ltb-false, leb-false}
use lib.Dec.{ltb, leb, eqb}
use lib.ListN.{length, get_or, length-append, get_or-append}
use lib.Seq.{get_or-append_seam}
use Rattle.rules.specs.Job.{Job, Outcome, refused, accepted, empty_job, with_piece, with_link, piece_count}
use Rattle.rules.specs.Job.{no_piece}
use Rattle.rules.specs.File.{byte_at, whole_records, record_at, Kind, of_piece, of_link, unknown, kind_of, as_piece}
use Rattle.rules.specs.File.{as_link}
use Rattle.rules.specs.Reading.{piece_fault, link_fault, kind_fault, order_fault, value_fault, first_fault}
use Rattle.rules.specs.Reading.{record_fault, contents, unless_fault, judged, at_end, item_at, and_then, read_from}
use Rattle.rules.specs.Reading.{read_job}
use Rattle.rules.specs.Tables.{Sound, no_link}
use Rattle.rules.specs.declared.Piece.{Piece}
use Rattle.rules.specs.declared.Link.{Link}
use Rattle.rules.specs.Answers.{Item, Work, Tie, Stop, Done}
use Rattle.laws.proofs.Words.{by_test, passed, when_true, when_false}

-- Two answers of the reader of different kind are not the same.
abbrev pub kind_no : Item → ℕ
kind_no (Work p) = 0
kind_no (Tie l) = 1
kind_no (Stop r) = 2
kind_no Done = 3

pub no_fault : (a b : ℕ) → first_fault a b ≡ 0 → (a ≡ 0) × (b ≡ 0)
unfolding first_fault
no_fault zero b h = (refl, h)
no_fault (suc a) b h = absurd (omega arith)

-- A record that was not refused has no fault.
pub unfaulted : (f k : ℕ) (x item : Item) → unless_fault f k x ≡ item → (kind_no item ≡ 2 → ⊥) → (f ≡ 0) × (x ≡ item)
unfolding unless_fault
unfaulted zero k x item h ne = (refl, h)
unfaulted (suc f) k x item h ne = absurd (ne (sym (ap kind_no h)))

-- What a record without a fault has passed.
pub record PieceRead (J : Job) (p : Piece) : Type 0 where
  pub no_link_lem : length J.links ≡ 0
  pub room : piece_count J < 256
  pub fit : piece_fault p ≡ 0

pub record LinkRead (J : Job) (l : Link) : Type 0 where
  pub room : length J.links < 1024
  pub fit : link_fault (piece_count J) l ≡ 0

pub work_inj : (p q : Piece) → Work p ≡ Work q → p ≡ q
work_inj p q e = cc

pub tie_inj : (l m : Link) → Tie l ≡ Tie m → l ≡ m
tie_inj l m e = cc

pub record_work : (J : Job) (k : ℕ) (r : List ℕ) (p : Piece) → judged J k r ≡ Work p → PieceRead J p
unfolding judged record_fault contents order_fault value_fault
record_work J k r p h = go (kind_of (byte_at r 0)) (unfaulted _ k _ (Work p) h (λ e. omega (arith, e)))
  where
    go : (kind : Kind) → (record_fault kind J r ≡ 0) × (contents kind r ≡ Work p) → PieceRead J p
    go of_piece w =
        let a = no_fault (kind_fault of_piece) _ w.0 in
        let b = no_fault (order_fault of_piece J) _ a.1 in
        let c = no_fault (value_fault of_piece J r) _ b.1 in
        let d = passed (ltb 0 (length J.links)) 2 _ b.0 in
        let e = passed (leb 256 (piece_count J)) 3 _ d.1 in
        record {
          no_link_lem = omega (arith, ltb-false 0 (length J.links) d.0);
          room = leb-false 256 (piece_count J) e.0;
          fit = ap piece_fault (work_inj p (as_piece r) (sym w.1)) ∙ c.0;
        }
    go of_link w = let z : ◌≡◌ {A = ℕ} 1 0 = ap kind_no w.1 in absurd (omega arith)
    go unknown w = let z : ◌≡◌ {A = ℕ} 3 0 = ap kind_no w.1 in absurd (omega arith)

pub record_tie : (J : Job) (k : ℕ) (r : List ℕ) (l : Link) → judged J k r ≡ Tie l → LinkRead J l
unfolding judged record_fault contents order_fault value_fault
record_tie J k r l h = go (kind_of (byte_at r 0)) (unfaulted _ k _ (Tie l) h (λ e. omega (arith, e)))
  where
    go : (kind : Kind) → (record_fault kind J r ≡ 0) × (contents kind r ≡ Tie l) → LinkRead J l
    go of_piece w = let z : ◌≡◌ {A = ℕ} 0 1 = ap kind_no w.1 in absurd (omega arith)
    go of_link w =
        let a = no_fault (kind_fault of_link) _ w.0 in
        let b = no_fault (order_fault of_link J) _ a.1 in
        let c = no_fault (value_fault of_link J r) _ b.1 in
        let e = passed (leb 1024 (length J.links)) 3 _ b.0 in
        record {
          room = leb-false 1024 (length J.links) e.0;
          fit = ap (link_fault (piece_count J)) (tie_inj l (as_link r) (sym w.1)) ∙ c.0;
        }
    go unknown w = let z : ◌≡◌ {A = ℕ} 3 1 = ap kind_no w.1 in absurd (omega arith)

-- A piece or a link is given by a record, and not behind the last one.
pub item_judged : (s : List ℕ) (k : ℕ) (J : Job) (x : Item) → item_at s k J ≡ x → kind_no x < 2 → judged J k (record_at s k) ≡ x
unfolding item_at at_end
item_judged s k J x h few = by_test (ltb k (whole_records s))
    (λ e. sym (when_true _ _ _ e) ∙ h)
    (λ e. by_test (eqb (length s % 16) 0)
    (λ q. let z : 3 ≡ kind_no x = ap kind_no (sym (when_false _ _ _ e ∙ when_true _ _ _ q) ∙ h) in absurd (omega arith))
    (λ q. let z : 2 ≡ kind_no x = ap kind_no (sym (when_false _ _ _ e ∙ when_false _ _ _ q) ∙ h) in absurd (omega arith)))

pub item_work : (s : List ℕ) (k : ℕ) (J : Job) (p : Piece) → item_at s k J ≡ Work p → PieceRead J p
item_work s k J p h = record_work J k (record_at s k) p (item_judged s k J (Work p) h (omega arith))

pub item_tie : (s : List ℕ) (k : ℕ) (J : Job) (l : Link) → item_at s k J ≡ Tie l → LinkRead J l
item_tie s k J l h = record_tie J k (record_at s k) l (item_judged s k J (Tie l) h (omega arith))

-- A member of a list with one more behind it: of the list, or that one.
last_of : {A : Type 0} (P : A → Type 0) (z x : A) (l : List A) → ((i : ℕ) → i < length l → P (get_or l i z)) → P x
    → (i : ℕ) → i < length (l ++ (x ∷ [])) → P (get_or (l ++ (x ∷ [])) i z)
last_of P z x l h k i b = by_test (ltb i (length l))
    (λ e. rw (get_or-append l (x ∷ []) z i (ltb-true i (length l) e)) (h i (ltb-true i (length l) e)))
    (λ e. let q : i ≡ length l = omega (arith, ltb-false i (length l) e, b, length-append l (x ∷ [])) in
    rw (q, get_or-append_seam l x [] z) k)

pub sound_piece : (J : Job) (p : Piece) → Sound J → PieceRead J p → Sound (with_piece J p)
sound_piece J p sound r = record {
  few_pieces = omega (arith, length-append J.pieces (p ∷ []), r.room);
  few_links = sound.few_links;
  pieces_fit = last_of (λ q. piece_fault q ≡ 0) no_piece p J.pieces sound.pieces_fit r.fit;
  links_fit = λ k h. absurd (omega (arith, r.no_link_lem));
}

pub sound_link : (J : Job) (l : Link) → Sound J → LinkRead J l → Sound (with_link J l)
sound_link J l sound r = record {
  few_pieces = sound.few_pieces;
  few_links = omega (arith, length-append J.links (l ∷ []), r.room);
  pieces_fit = sound.pieces_fit;
  links_fit = last_of (λ q. link_fault (piece_count J) q ≡ 0) no_link l J.links sound.links_fit r.fit;
}

pub sound_empty : Sound empty_job
sound_empty = record {
  few_pieces = omega arith;
  few_links = omega arith;
  pieces_fit = λ i h. absurd (omega arith);
  links_fit = λ k h. absurd (omega arith);
}

-- A job that was read is sound.
pub accepted_inj : (J K : Job) → accepted J ≡ accepted K → J ≡ K
accepted_inj J K e = cc

abbrev is_refused : Outcome → ℕ
is_refused (refused r) = 1
is_refused (accepted J) = 0

after_item : (s : List ℕ) (k : ℕ) (J : Job) (onward : Job → Outcome) (K : Job) → Sound J
    → ((J' : Job) → Sound J' → onward J' ≡ accepted K → Sound K)
    → (x : Item) → item_at s k J ≡ x → and_then x J onward ≡ accepted K → Sound K
unfolding and_then
after_item s k J onward K sound go (Work p) e h = go (with_piece J p) (sound_piece J p sound (item_work s k J p e)) h
after_item s k J onward K sound go (Tie l) e h = go (with_link J l) (sound_link J l sound (item_tie s k J l e)) h
after_item s k J onward K sound go (Stop r) e h =
    let z : ◌≡◌ {A = ℕ} 1 0 = ap is_refused h in absurd (omega arith)
after_item s k J onward K sound go Done e h = rw (← (accepted_inj J K h)) sound

read_sound : (s : List ℕ) (left k : ℕ) (J K : Job) → Sound J → read_from s left k J ≡ accepted K → Sound K
unfolding read_from
read_sound s zero k J K sound h =
    after_item s k J accepted K sound (λ J' ok e. rw (← (accepted_inj J' K e)) ok) (item_at s k J) refl h
read_sound s (suc left) k J K sound h =
    after_item s k J (λ J'. read_from s left (k + 1) J') K sound (λ J' ok e. read_sound s left (k + 1) J' K ok e)
    (item_at s k J) refl h

pub job_sound : (s : List ℕ) (J : Job) → read_job s ≡ accepted J → Sound J
unfolding read_job
job_sound s J h = read_sound s (whole_records s) 0 empty_job J sound_empty h
