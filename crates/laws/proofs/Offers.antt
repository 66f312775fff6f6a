-- Pieces and links offered for writing, taken one by one: what was taken is sound and is all that was offered, and a sound
-- job is taken whole.
use Prim.Native.Nat.{ℕ, zero, suc, ◌+◌, ◌≤◌, ◌<◌}
use mathlib.Core.List.{List, [], ◌∷◌, ◌++◌, map, append-nil, append_assoc}
use mathlib.Core.Path.{◌≡◌, refl, sym, ap, ◌∙◌}
use native.Mathlib.Omega.{arith}
use borrow.Author.Tests.{ltb-false, leb-false, le-ltb, lt-leb}
use lib.Dec.{ltb, leb}
use lib.ListN.{length, get_or, length-append}
use Rattle.rules.specs.Job.{Job, Outcome, refused, accepted, empty_job, with_piece, with_link, piece_count, no_piece}
use Rattle.rules.specs.File.{of_piece, of_link}
use Rattle.rules.specs.Reading.{piece_fault, link_fault, order_fault, first_fault, unless_fault, and_then}
use Rattle.rules.specs.Tables.{Sound, no_link}
use Rattle.rules.specs.Form.{offers, offer_fault, take_all}
use Rattle.rules.specs.declared.Piece.{Piece}
use Rattle.rules.specs.declared.Link.{Link}
use Rattle.rules.specs.Answers.{Item, Work, Tie, Stop, Done}
use Rattle.laws.proofs.Words.{passed, when_false}
use Rattle.laws.proofs.Reading.{no_fault, accepted_inj, PieceRead, LinkRead, sound_piece, sound_link, sound_empty}

-- The first judgement decides where it finds a fault, and the later ones where it finds none.
pub first_decides : (n a b : ℕ) → n ≡ a → (n ≡ 0 → ⊥) → n ≡ first_fault a b
unfolding first_fault
first_decides n zero b e h = absurd (h e)
first_decides n (suc a) b e h = e

pub later_decides : (n a b m : ℕ) → n ≡ a → n ≡ 0 → m ≡ b → m ≡ first_fault a b
unfolding first_fault
later_decides n zero b m e z q = q
later_decides n (suc a) b m e z q = absurd (omega (arith, e, z))

-- What is offered and has no fault has passed what a record has.
pub offer_piece : (J : Job) (p : Piece) → offer_fault J (Work p) ≡ 0 → PieceRead J p
unfolding offer_fault order_fault
offer_piece J p h =
    let a = no_fault (order_fault of_piece J) (piece_fault p) h in
    let d = passed (ltb 0 (length J.links)) 2 _ a.0 in
    let e = passed (leb 256 (piece_count J)) 3 _ d.1 in
    record {
      no_link_lem = omega (arith, ltb-false 0 (length J.links) d.0);
      room = leb-false 256 (piece_count J) e.0;
      fit = a.1;
    }

pub offer_link : (J : Job) (l : Link) → offer_fault J (Tie l) ≡ 0 → LinkRead J l
unfolding offer_fault order_fault
offer_link J l h =
    let a = no_fault (order_fault of_link J) (link_fault (piece_count J) l) h in
    let e = passed (leb 1024 (length J.links)) 3 _ a.0 in
    record { room = leb-false 1024 (length J.links) e.0; fit = a.1 }

-- And the other way.
pub piece-offered : (J : Job) (p : Piece) → PieceRead J p → offer_fault J (Work p) ≡ 0
unfolding offer_fault order_fault first_fault
piece-offered J p r =
    let order : order_fault of_piece J ≡ 0 =
    when_false (ltb 0 (length J.links)) 3 _ (le-ltb 0 (length J.links) (omega (arith, r.no_link_lem)))
    ∙ when_false (leb 256 (piece_count J)) 4 0 (lt-leb 256 (piece_count J) r.room) in
    sym (later_decides 0 (order_fault of_piece J) (piece_fault p) 0 (sym order) refl (sym r.fit))

pub link_offered : (J : Job) (l : Link) → LinkRead J l → offer_fault J (Tie l) ≡ 0
unfolding offer_fault order_fault first_fault
link_offered J l r =
    let order : order_fault of_link J ≡ 0 =
    when_false (leb 1024 (length J.links)) 4 0 (lt-leb 1024 (length J.links) r.room) in
    sym (later_decides 0 (order_fault of_link J) (link_fault (piece_count J) l) 0 (sym order) refl (sym r.fit))

-- One offer: taken, or refused at its place.
module _ (x : Item) (xs : List Item) (k : ℕ) (J : Job) where
  pub taken_first : offer_fault J x ≡ 0 → take_all (x ∷ xs) k J ≡ and_then x J (λ J'. take_all xs (k + 1) J')
  unfolding take_all unless_fault
  taken_first h = ap (λ f. and_then (unless_fault f k x) J (λ J'. take_all xs (k + 1) J')) h

  pub refused_first : (n : ℕ) → n ≡ offer_fault J x → (n ≡ 0 → ⊥)
      → take_all (x ∷ xs) k J ≡ refused (record { number = n; place = k })
  unfolding take_all
  refused_first n e h = ap (λ f. and_then (unless_fault f k x) J (λ J'. take_all xs (k + 1) J')) (sym e) ∙ go n h
    where
      go : (n : ℕ) → (n ≡ 0 → ⊥) → and_then (unless_fault n k x) J (λ J'. take_all xs (k + 1) J')
          ≡ refused (record { number = n; place = k })
      go zero h = absurd (h refl)
      go (suc n) h = refl

abbrev is_refused : Outcome → ℕ
is_refused (refused r) = 1
is_refused (accepted J) = 0

-- WHAT WAS TAKEN: the offer had no fault, and what is behind it was taken too.
module _ (xs : List Item) (k : ℕ) (J K : Job) where
  pub taken : (x : Item) → take_all (x ∷ xs) k J ≡ accepted K
      → (offer_fault J x ≡ 0) × (and_then x J (λ J'. take_all xs (k + 1) J') ≡ accepted K)
  unfolding take_all
  taken x h = go (offer_fault J x) refl h
    where
      go : (f : ℕ) → offer_fault J x ≡ f → and_then (unless_fault f k x) J (λ J'. take_all xs (k + 1) J') ≡ accepted K
          → (offer_fault J x ≡ 0) × (and_then x J (λ J'. take_all xs (k + 1) J') ≡ accepted K)
      go zero e q = (e, q)
      go (suc f) e q = let z : ◌≡◌ {A = ℕ} 1 0 = ap is_refused q in absurd (omega arith)

-- It is sound.
pub take_sound : (xs : List Item) (k : ℕ) (J K : Job) → Sound J → take_all xs k J ≡ accepted K → Sound K
unfolding take_all and_then
take_sound [] k J K sound h = rw (← (accepted_inj J K h)) sound
take_sound (Work p ∷ xs) k J K sound h =
    let w = taken xs k J K (Work p) h in
    take_sound xs (k + 1) (with_piece J p) K (sound_piece J p sound (offer_piece J p w.0)) w.1
take_sound (Tie l ∷ xs) k J K sound h =
    let w = taken xs k J K (Tie l) h in
    take_sound xs (k + 1) (with_link J l) K (sound_link J l sound (offer_link J l w.0)) w.1
take_sound (Stop r ∷ xs) k J K sound h =
    let z : ◌≡◌ {A = ℕ} 1 0 = ap is_refused (taken xs k J K (Stop r) h).1 in absurd (omega arith)
take_sound (Done ∷ xs) k J K sound h = rw (← (accepted_inj J K (taken xs k J K Done h).1)) sound

-- It is all that was offered.
abbrev further : Job → List Piece → List Link → Job
further J ps ls = record { pieces = J.pieces ++ ps; links = J.links ++ ls }

take_links : (ls : List Link) (k : ℕ) (J K : Job) → take_all (map Tie ls) k J ≡ accepted K → further J [] ls ≡ K
unfolding take_all and_then
take_links [] k J K h =
    (λ i. record { pieces = append-nil J.pieces i; links = append-nil J.links i }) ∙ accepted_inj J K h
take_links (l ∷ ls) k J K h =
    (λ i. record { pieces = J.pieces ++ []; links = sym (append_assoc J.links (l ∷ []) ls) i })
    ∙ take_links ls (k + 1) (with_link J l) K (taken (map Tie ls) k J K (Tie l) h).1

take_both : (ps : List Piece) (ls : List Link) (k : ℕ) (J K : Job) → take_all (map Work ps ++ map Tie ls) k J ≡ accepted K
    → further J ps ls ≡ K
unfolding and_then
take_both [] ls k J K h = take_links ls k J K h
take_both (p ∷ ps) ls k J K h =
    (λ i. record { pieces = sym (append_assoc J.pieces (p ∷ []) ps) i; links = J.links ++ ls })
    ∙ take_both ps ls (k + 1) (with_piece J p) K (taken (map Work ps ++ map Tie ls) k J K (Work p) h).1

pub taken_whole : (F K : Job) → take_all (offers F) 0 empty_job ≡ accepted K → F ≡ K
unfolding offers
taken_whole F K h = take_both F.pieces F.links 0 empty_job K h

pub taken_sound : (F K : Job) → take_all (offers F) 0 empty_job ≡ accepted K → Sound F
taken_sound F K h = rw (taken_whole F K h) (take_sound (offers F) 0 empty_job K sound_empty h)

-- A SOUND JOB IS TAKEN WHOLE.
links_taken : (ls : List Link) (k : ℕ) (J : Job) → length J.links + length ls ≤ 1024
    → ((i : ℕ) → i < length ls → link_fault (piece_count J) (get_or ls i no_link) ≡ 0)
    → take_all (map Tie ls) k J ≡ accepted (further J [] ls)
unfolding take_all and_then
links_taken [] k J room fit =
    λ i. accepted (record { pieces = sym (append-nil J.pieces) i; links = sym (append-nil J.links) i })
links_taken (l ∷ ls) k J room fit =
    taken_first (Tie l) (map Tie ls) k J (link_offered J l (record { room = omega arith; fit = fit 0 (omega arith) }))
    ∙ links_taken ls (k + 1) (with_link J l) (omega (arith, length-append J.links (l ∷ [])))
    (λ i h. fit (suc i) (omega arith))
    ∙ λ i. accepted (record { pieces = J.pieces ++ []; links = append_assoc J.links (l ∷ []) ls i })

pieces_taken : (ps : List Piece) (ls : List Link) (k : ℕ) (J : Job) → J.links ≡ [] → piece_count J + length ps ≤ 256
    → length ls ≤ 1024 → ((i : ℕ) → i < length ps → piece_fault (get_or ps i no_piece) ≡ 0)
    → ((i : ℕ) → i < length ls → link_fault (piece_count J + length ps) (get_or ls i no_link) ≡ 0)
    → take_all (map Work ps ++ map Tie ls) k J ≡ accepted (further J ps ls)
unfolding and_then
pieces_taken [] ls k J none few room fit tied =
    let z : piece_count J + 0 ≡ piece_count J = omega arith in
    links_taken ls k J (omega (arith, ap length none)) (λ i h. ap (λ n. link_fault n (get_or ls i no_link)) (sym z) ∙ tied i h)
pieces_taken (p ∷ ps) ls k J none few room fit tied =
    let z : piece_count J + suc (length ps) ≡ piece_count (with_piece J p) + length ps =
    omega (arith, length-append J.pieces (p ∷ [])) in
    taken_first (Work p) (map Work ps ++ map Tie ls) k J
    (piece-offered J p (record { no_link_lem = ap length none; room = omega arith; fit = fit 0 (omega arith) }))
    ∙ pieces_taken ps ls (k + 1) (with_piece J p) none (omega (arith, z)) room (λ i h. fit (suc i) (omega arith))
    (λ i h. ap (λ n. link_fault n (get_or ls i no_link)) (sym z) ∙ tied i h)
    ∙ λ i. accepted (record { pieces = append_assoc J.pieces (p ∷ []) ps i; links = J.links ++ ls })

pub sound_taken : (J : Job) → Sound J → take_all (offers J) 0 empty_job ≡ accepted J
unfolding offers
sound_taken J sound =
    let z : 0 + piece_count J ≡ piece_count J = omega arith in
    pieces_taken J.pieces J.links 0 empty_job refl (omega (arith, sound.few_pieces)) sound.few_links
    sound.pieces_fit (λ i h. ap (λ n. link_fault n (get_or J.links i no_link)) z ∙ sound.links_fit i h)
