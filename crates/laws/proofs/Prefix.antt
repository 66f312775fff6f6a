-- The first 20,496 bytes decide any longer file: they hold 1,281 whole records, and of so many one is refused at the
-- latest by its count.
use Prim.Native.Nat.{ℕ, zero, suc, ◌+◌, ◌-◌, ◌*◌, ◌/◌, ◌≤◌, ◌<◌}
use mathlib.Core.List.{List, [], ◌∷◌}
use mathlib.Core.Path.{◌≡◌, refl, sym, ap, ◌∙◌}
use native.Mathlib.Omega.{arith}
use native.Mathlib.Nat.{suc-add, zero-add}
use borrow.Author.Tests.{leb-true, leb-false, lt-ltb}
use lib.Dec.{leb}
use lib.ListN.{length, take, drop, length-append, length-take}
use lib.Seq.{take-take, take_all, take-nil}
use Rattle.rules.specs.Job.{Job, Outcome, empty_job, with_piece, with_link, piece_count}
use Rattle.rules.specs.File.{record_at}
use Rattle.rules.specs.Reading.{judged, item_at, and_then, read_from, read_job}
use Rattle.rules.specs.Tables.{Sound}
use Rattle.rules.specs.Answers.{Item, Work, Tie, Stop, Done}
use Rattle.laws.proofs.Words.{by_test, when_true}
use Rattle.laws.proofs.Reading.{item_work, item_tie, sound_piece, sound_link, sound_empty}

-- A part of the front of a list.
drop_front : {A : Type 0} (a b : ℕ) (l : List A) → drop a (take (a + b) l) ≡ take b (drop a l)
drop_front zero b l = rw zero-add
drop_front (suc a) b [] = rw suc-add (sym (take-nil b))
drop_front (suc a) b (x ∷ xs) = rw suc-add (drop_front a b xs)

same_record : (s : List ℕ) (k : ℕ) → k < 1281 → record_at (take 20496 s) k ≡ record_at s k
same_record s k h =
    let q : 20496 ≡ 16 * k + (20496 - 16 * k) = omega arith in
    ap (λ n. take 16 (drop (16 * k) (take n s))) q ∙ ap (take 16) (drop_front (16 * k) (20496 - 16 * k) s)
    ∙ take-take 16 (20496 - 16 * k) (drop (16 * k) s) (omega arith)

same_item : (s : List ℕ) (k : ℕ) (J : Job) → 20496 ≤ length s → k < 1281 → item_at (take 20496 s) k J ≡ item_at s k J
unfolding item_at
same_item s k J long h =
    let few : length (take 20496 s) ≡ 20496 = length-take 20496 s ∙ omega arith in
    when_true _ _ _ (lt-ltb k (length (take 20496 s) / 16) (omega arith)) ∙ ap (judged J k) (same_record s k h)
    ∙ sym (when_true _ _ _ (lt-ltb k (length s / 16) (omega arith)))

-- What two readings make of the same item is the same, if they go on alike.
same_then : (s : List ℕ) (k : ℕ) (J : Job) (f g : Job → Outcome) → Sound J → piece_count J + length J.links ≡ k
    → ((J' : Job) → Sound J' → piece_count J' + length J'.links ≡ k + 1 → f J' ≡ g J')
    → (x : Item) → item_at s k J ≡ x → and_then x J f ≡ and_then x J g
unfolding and_then
same_then s k J f g sound c go (Work p) e =
    go (with_piece J p) (sound_piece J p sound (item_work s k J p e)) (omega (arith, length-append J.pieces (p ∷ [])))
same_then s k J f g sound c go (Tie l) e =
    go (with_link J l) (sound_link J l sound (item_tie s k J l e)) (omega (arith, length-append J.links (l ∷ [])))
same_then s k J f g sound c go (Stop r) e = refl
same_then s k J f g sound c go Done e = refl

-- Reading from record k on, 1,281 records or more in all.
same_reading : (s : List ℕ) (few more k : ℕ) (J : Job) → 20496 ≤ length s → Sound J → piece_count J + length J.links ≡ k
    → few + k ≡ 1281 → few ≤ more → read_from (take 20496 s) few k J ≡ read_from s more k J
unfolding read_from
same_reading s zero more k J long sound c a b = absurd (omega (arith, sound.few_pieces, sound.few_links))
same_reading s (suc few) zero k J long sound c a b = absurd (omega arith)
same_reading s (suc few) (suc more) k J long sound c a b =
    rw (same_item s k J long (omega arith))
    (same_then s k J (λ J'. read_from (take 20496 s) few (k + 1) J') (λ J'. read_from s more (k + 1) J') sound c
    (λ J' ok c'. same_reading s few more (k + 1) J' long ok c' (omega arith) (omega arith)) (item_at s k J) refl)

-- The first 20,496 bytes decide.
pub first_bytes_decide : (s : List ℕ) → read_job (take 20496 s) ≡ read_job s
unfolding read_job
first_bytes_decide s = by_test (leb 20496 (length s))
    (λ e. let long : 20496 ≤ length s = leb-true 20496 (length s) e in
    let few : length (take 20496 s) ≡ 20496 = length-take 20496 s ∙ omega arith in
    let q : length (take 20496 s) / 16 ≡ 1281 = omega arith in
    rw q (same_reading s 1281 (length s / 16) 0 empty_job long sound_empty (omega arith) (omega arith) (omega arith)))
    (λ e. rw (take_all 20496 s (omega (arith, leb-false 20496 (length s) e))))
