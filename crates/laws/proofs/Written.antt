-- Every accepted file is what the writer makes of its contents: record by record, what was read makes the bytes read.
use Prim.Native.Nat.{ℕ, zero, suc, ◌+◌, ◌*◌, ◌%◌, ◌≤◌, ◌<◌}
use mathlib.Core.Bool.{not}
use mathlib.Core.List.Memᴰ.{head as here}
use mathlib.Core.List.Memᴰ.{tail as there}
use mathlib.Core.List.{List, [], ◌∷◌, ◌++◌, map, append-nil, append_assoc, Memᴰ as Mem}
use mathlib.Core.Path.{◌≡◌, refl, sym, ap, ◌∙◌}
use native.Mathlib.Omega.{arith}
use borrow.Author.Tests.{eqb-true, ltb-true, ltb-false}
use lib.Dec.{eqb, ltb}
use lib.ListN.{length, get_or, take, drop, length-drop}
use lib.Seq.{length-take-le, take_all, take-add, get_or-take, get_or-drop}
use Rattle.rules.specs.Words.{joined}
use Rattle.rules.specs.Job.{Job, Outcome, refused, accepted, empty_job, with_piece, with_link}
use Rattle.rules.specs.File.{byte_at, whole_records, record_at, Kind, of_piece, of_link, unknown, kind_of, as_piece}
use Rattle.rules.specs.File.{as_link, zero_places}
use Rattle.rules.specs.Reading.{first_fault, kind_fault, order_fault, value_fault, zero_fault, record_fault, contents}
use Rattle.rules.specs.Reading.{judged, at_end, item_at, and_then, read_from, read_job}
use Rattle.rules.specs.Writing.{piece_record, link_record, file_of}
use Rattle.rules.specs.declared.Piece.{Piece}
use Rattle.rules.specs.declared.Link.{Link}
use Rattle.rules.specs.Answers.{Item, Work, Tie, Stop, Done}
use Rattle.laws.proofs.Words.{by_test, passed, one_of-none, true_or_false, when_true, when_false}
use Rattle.laws.proofs.Joined.{map_append, joined_append}
use Rattle.laws.proofs.Reading.{kind_no, no_fault, unfaulted, work_inj, tie_inj, accepted_inj, record_work, item_judged}
use Rattle.laws.proofs.Writing.{Bytes, piece_made, link_made}

-- A byte that must be zero is, in a record without that fault.
zero_there : (k : Kind) (r : List ℕ) → zero_fault k r ≡ 0 → (i : ℕ) → Mem i (zero_places k) → byte_at r i ≡ 0
unfolding zero_fault
zero_there k r h i m =
    let w = one_of-none (λ i. not (eqb (byte_at r i) 0)) (zero_places k) (passed _ 7 0 h).0 i m in
    by_test (eqb (byte_at r i) 0)
    (λ e. eqb-true (byte_at r i) 0 e)
    (λ e. true_or_false (sym (ap not e) ∙ w))

-- The byte of a kind.
abbrev byte_of : Kind → ℕ
byte_of of_piece = 1
byte_of of_link = 2
byte_of unknown = 0

kind_byte : (n : ℕ) (k : Kind) → kind_of n ≡ k → 0 < byte_of k → n ≡ byte_of k
unfolding kind_of
kind_byte zero k e h = let z : 0 ≡ byte_of k = ap byte_of e in absurd (omega arith)
kind_byte (suc zero) k e h = ap byte_of e
kind_byte (suc (suc zero)) k e h = ap byte_of e
kind_byte (suc (suc (suc n))) k e h = let z : 0 ≡ byte_of k = ap byte_of e in absurd (omega arith)

-- A record that was taken makes its own bytes.
module _ (J : Job) (k : ℕ) (r : List ℕ) (sized : length r ≡ 16) (small : Bytes r) where
  work_made : (p : Piece) → judged J k r ≡ Work p → piece_record p ≡ r
  unfolding judged record_fault contents
  work_made p h = go (kind_of (byte_at r 0)) refl (unfaulted _ k _ (Work p) h (λ e. omega (arith, e)))
    where
      go : (kind : Kind) → kind_of (byte_at r 0) ≡ kind → (record_fault kind J r ≡ 0) × (contents kind r ≡ Work p) → piece_record p ≡ r
      go of_piece e w =
          let a = no_fault (kind_fault of_piece) _ w.0 in
          let b = no_fault (order_fault of_piece J) _ a.1 in
          let c = no_fault (value_fault of_piece J r) _ b.1 in
          let z = zero_there of_piece r c.1 in
          ap piece_record (work_inj p (as_piece r) (sym w.1))
          ∙ piece_made r sized small (kind_byte (byte_at r 0) of_piece e (omega arith)) (z 12 (here refl)) (z 13 (there (here refl)))
          (z 14 (there (there (here refl)))) (z 15 (there (there (there (here refl)))))
      go of_link e w = let z : ◌≡◌ {A = ℕ} 1 0 = ap kind_no w.1 in absurd (omega arith)
      go unknown e w = let z : ◌≡◌ {A = ℕ} 3 0 = ap kind_no w.1 in absurd (omega arith)

  tie_made : (l : Link) → judged J k r ≡ Tie l → link_record l ≡ r
  unfolding judged record_fault contents
  tie_made l h = go (kind_of (byte_at r 0)) refl (unfaulted _ k _ (Tie l) h (λ e. omega (arith, e)))
    where
      go : (kind : Kind) → kind_of (byte_at r 0) ≡ kind → (record_fault kind J r ≡ 0) × (contents kind r ≡ Tie l) → link_record l ≡ r
      go of_piece e w = let z : ◌≡◌ {A = ℕ} 0 1 = ap kind_no w.1 in absurd (omega arith)
      go of_link e w =
          let a = no_fault (kind_fault of_link) _ w.0 in
          let b = no_fault (order_fault of_link J) _ a.1 in
          let c = no_fault (value_fault of_link J r) _ b.1 in
          let z = zero_there of_link r c.1 in
          ap link_record (tie_inj l (as_link r) (sym w.1))
          ∙ link_made r sized small (kind_byte (byte_at r 0) of_link e (omega arith)) (z 1 (here refl)) (z 8 (there (here refl)))
          (z 9 (there (there (here refl)))) (z 10 (there (there (there (here refl)))))
          (z 11 (there (there (there (there (here refl))))))
          (z 12 (there (there (there (there (there (here refl)))))))
          (z 13 (there (there (there (there (there (there (here refl))))))))
          (z 14 (there (there (there (there (there (there (there (here refl)))))))))
          (z 15 (there (there (there (there (there (there (there (there (here refl))))))))))
      go unknown e w = let z : ◌≡◌ {A = ℕ} 3 1 = ap kind_no w.1 in absurd (omega arith)

-- Record k of a file: 16 bytes.
module _ (s : List ℕ) (k : ℕ) (whole : k < whole_records s) where
  record_sized : length (record_at s k) ≡ 16
  record_sized = length-take-le 16 (drop (16 * k) s) (omega (arith, length-drop (16 * k) s))

  record_small : Bytes s → Bytes (record_at s k)
  record_small small i = by_test (ltb i 16)
      (λ e. rw (get_or-take 16 (drop (16 * k) s) i 0 (ltb-true i 16 e), get_or-drop (16 * k) s i 0) (small (16 * k + i)))
      (λ e. rw (beyond (record_at s k) i (omega (arith, record_sized, ltb-false i 16 e))) (omega arith))
    where
      beyond : (l : List ℕ) (i : ℕ) → length l ≤ i → get_or l i 0 ≡ 0
      beyond [] i h = refl
      beyond (x ∷ xs) zero h = absurd (omega arith)
      beyond (x ∷ xs) (suc i) h = beyond xs i (omega arith)

  record_next : take (16 * (k + 1)) s ≡ take (16 * k) s ++ record_at s k
  record_next = let z : 16 * (k + 1) ≡ 16 * k + 16 = omega arith in ap (λ n. take n s) z ∙ take-add (16 * k) 16 s

-- One record more behind those of a job.
more_piece : (J : Job) (p : Piece) → length J.links ≡ 0 → file_of (with_piece J p) ≡ file_of J ++ piece_record p
unfolding file_of joined
more_piece J p none = go J.links none
  where
    go : (ls : List Link) → length ls ≡ 0
        → joined (map piece_record (J.pieces ++ (p ∷ [])) ++ map link_record ls)
        ≡ joined (map piece_record J.pieces ++ map link_record ls) ++ piece_record p
    go [] h =
        ap joined (append-nil (map piece_record (J.pieces ++ (p ∷ []))) ∙ map_append piece_record J.pieces (p ∷ []))
        ∙ joined_append (map piece_record J.pieces) (piece_record p ∷ [])
        ∙ ap (λ r. joined (map piece_record J.pieces) ++ r) (append-nil (piece_record p))
        ∙ ap (λ l. joined l ++ piece_record p) (sym (append-nil (map piece_record J.pieces)))
    go (l ∷ ls) h = absurd (omega arith)

more_link : (J : Job) (l : Link) → file_of (with_link J l) ≡ file_of J ++ link_record l
unfolding file_of joined
more_link J l =
    ap (λ t. joined (map piece_record J.pieces ++ t)) (map_append link_record J.links (l ∷ []))
    ∙ ap joined (sym (append_assoc (map piece_record J.pieces) (map link_record J.links) (link_record l ∷ [])))
    ∙ joined_append (map piece_record J.pieces ++ map link_record J.links) (link_record l ∷ [])
    ∙ ap (λ r. joined (map piece_record J.pieces ++ map link_record J.links) ++ r) (append-nil (link_record l))

-- No record says that the file is at its end.
judged_not_done : (J : Job) (k : ℕ) (r : List ℕ) → judged J k r ≡ Done → ⊥
unfolding judged record_fault contents kind_fault first_fault
judged_not_done J k r h = go (kind_of (byte_at r 0)) (unfaulted _ k _ Done h (λ e. omega (arith, e)))
  where
    go : (kind : Kind) → (record_fault kind J r ≡ 0) × (contents kind r ≡ Done) → ⊥
    go of_piece w = let z : ◌≡◌ {A = ℕ} 0 3 = ap kind_no w.1 in omega arith
    go of_link w = let z : ◌≡◌ {A = ℕ} 1 3 = ap kind_no w.1 in omega arith
    go unknown w = omega (arith, w.0)

-- Where the reader stands when it gives a record, and when it is at the end.
item_whole : (s : List ℕ) (k : ℕ) (J : Job) (x : Item) → item_at s k J ≡ x → kind_no x < 2 → k < whole_records s
unfolding item_at at_end
item_whole s k J x h few = by_test (ltb k (whole_records s))
    (λ e. ltb-true k (whole_records s) e)
    (λ e. by_test (eqb (length s % 16) 0)
    (λ q. let z : 3 ≡ kind_no x = ap kind_no (sym (when_false _ _ _ e ∙ when_true _ _ _ q) ∙ h) in absurd (omega arith))
    (λ q. let z : 2 ≡ kind_no x = ap kind_no (sym (when_false _ _ _ e ∙ when_false _ _ _ q) ∙ h) in absurd (omega arith)))

item_done : (s : List ℕ) (k : ℕ) (J : Job) → item_at s k J ≡ Done → (whole_records s ≤ k) × (length s % 16 ≡ 0)
unfolding item_at at_end
item_done s k J h = by_test (ltb k (whole_records s))
    (λ e. absurd (judged_not_done J k (record_at s k) (sym (when_true _ _ _ e) ∙ h)))
    (λ e. by_test (eqb (length s % 16) 0)
    (λ q. (ltb-false k (whole_records s) e, eqb-true (length s % 16) 0 q))
    (λ q. let z : ◌≡◌ {A = ℕ} 2 3 = ap kind_no (sym (when_false _ _ _ e ∙ when_false _ _ _ q) ∙ h) in absurd (omega arith)))

abbrev outcome_no : Outcome → ℕ
outcome_no (refused r) = 1
outcome_no (accepted J) = 0

-- The reading, record by record: what is read so far makes the bytes so far.
module _ (s : List ℕ) (small : Bytes s) (K : Job) where
  abbrev Ahead : ℕ → (Job → Outcome) → Type 0
  Ahead k onward = (J : Job) → file_of J ≡ take (16 * (k + 1)) s → onward J ≡ accepted K → file_of K ≡ s

  after : (k : ℕ) (J : Job) (onward : Job → Outcome) → k ≤ whole_records s → file_of J ≡ take (16 * k) s
      → (k < whole_records s → Ahead k onward) → (x : Item) → item_at s k J ≡ x → and_then x J onward ≡ accepted K → file_of K ≡ s
  unfolding and_then
  after k J onward le so_far go (Work p) e h =
      let w = item_whole s k J (Work p) e (omega arith) in
      let j = item_judged s k J (Work p) e (omega arith) in
      go w (with_piece J p)
      (more_piece J p (record_work J k (record_at s k) p j).no_link_lem
      ∙ (λ i. so_far i ++ work_made J k (record_at s k) (record_sized s k w) (record_small s k w small) p j i)
      ∙ sym (record_next s k w)) h
  after k J onward le so_far go (Tie l) e h =
      let w = item_whole s k J (Tie l) e (omega arith) in
      let j = item_judged s k J (Tie l) e (omega arith) in
      go w (with_link J l)
      (more_link J l
      ∙ (λ i. so_far i ++ tie_made J k (record_at s k) (record_sized s k w) (record_small s k w small) l j i)
      ∙ sym (record_next s k w)) h
  after k J onward le so_far go (Stop r) e h = let z : ◌≡◌ {A = ℕ} 1 0 = ap outcome_no h in absurd (omega arith)
  after k J onward le so_far go Done e h =
      let w = item_done s k J e in
      ap file_of (accepted_inj K J (sym h)) ∙ so_far ∙ take_all (16 * k) s (omega (arith, w.0, w.1))

  reading : (left k : ℕ) (J : Job) → k + left ≡ whole_records s → file_of J ≡ take (16 * k) s → read_from s left k J ≡ accepted K
      → file_of K ≡ s
  unfolding read_from
  reading zero k J so so_far h =
      after k J accepted (omega arith) so_far (λ w. absurd (omega arith)) (item_at s k J) refl h
  reading (suc left) k J so so_far h =
      after k J (λ J'. read_from s left (k + 1) J') (omega arith) so_far
      (λ w J' e q. reading left (k + 1) J' (omega arith) e q) (item_at s k J) refl h

-- EVERY ACCEPTED FILE is what the writer makes of its contents.
pub file_made : (s : List ℕ) → Bytes s → (J : Job) → read_job s ≡ accepted J → file_of J ≡ s
unfolding read_job file_of joined
file_made s small J h = reading s small J (whole_records s) 0 empty_job (omega arith) refl h
