-- The place of every refusal of the reading is on the page's list: a whole record of the file or, for the bytes left,
-- the count of whole records.
use Prim.Native.Nat.{ℕ, zero, suc, ◌%◌, ◌≤◌}
use mathlib.Core.List.{List}
use mathlib.Core.Path.{◌≡◌, refl, sym, subst, ◌∙◌}
use native.Mathlib.Omega.{arith}
use lib.Dec.{ltb, eqb}
use lib.ListN.{length}
use borrow.Author.Tests.{ltb-true, ltb-false}
use Rattle.rules.specs.Words.{when}
use Rattle.rules.specs.File.{byte_at, whole_records, record_at, Kind, of_piece, of_link, unknown, kind_of}
use Rattle.rules.specs.Job.{Job, refused, accepted}
use Rattle.rules.specs.Reading.{record_fault, contents, unless_fault, at_end, item_at, read_job}
use Rattle.rules.specs.Answers.{Refusal, Item, Stop}
use Rattle.laws.proofs.Words.{by_test}
use Rattle.cursor.proofs.Judged.{judged_as_lem, item_record, item_end}
use Rattle.reader.proofs.Rest.{every_reading}

pub record Listed (s : List ℕ) (r : Refusal) : Type 0 where
  pub placed : r.place ≤ whole_records s

-- A record's contents are no refusal.
not-contents : (kind : Kind) (r : List ℕ) (x : Refusal) → contents kind r ≡ Stop x → ⊥
unfolding contents
not-contents of_piece r x h = let z : ◌≡◌ {A = ℕ} 0 1 = cc in omega arith
not-contents of_link r x h = let z : ◌≡◌ {A = ℕ} 0 1 = cc in omega arith
not-contents unknown r x h = let z : ◌≡◌ {A = ℕ} 0 1 = cc in omega arith

listed_record : (s : List ℕ) (n k : ℕ) (item : Item) (x : Refusal) → k ≤ whole_records s → (item ≡ Stop x → ⊥) →
    unless_fault n k item ≡ Stop x → Listed s x
unfolding unless_fault
listed_record s zero k item x here none h = absurd (none h)
listed_record s (suc n) k item x here none h =
    let place : x.place ≡ k = cc in
    record { placed = omega arith }

listed_end : (s : List ℕ) (x : Refusal) → at_end s ≡ Stop x → Listed s x
unfolding at_end
listed_end s x =
    by_test (eqb (length s % 16) 0)
    (λ e. rw (e, when) (λ h. let z : ◌≡◌ {A = ℕ} 0 1 = cc in absurd (omega arith)))
    (λ e.
    rw (e, when)
    (λ h.
    let place : x.place ≡ whole_records s = cc in
    record { placed = omega arith }))

listed_item : (s : List ℕ) (k : ℕ) (J : Job) (x : Refusal) → item_at s k J ≡ Stop x → Listed s x
listed_item s k J x h =
    let r = record_at s k in
    let kind = kind_of (byte_at r 0) in
    by_test (ltb k (whole_records s))
    (λ t.
    let here = ltb-true k (whole_records s) t in
    listed_record s (record_fault kind J r) k (contents kind r) x (omega arith) (not-contents kind r x)
    (sym (judged_as_lem kind J k r refl) ∙ sym (item_record s k J here) ∙ h))
    (λ t. listed_end s x (sym (item_end s k J (ltb-false k (whole_records s) t)) ∙ h))

-- An accepted job is no refusal, and two outcomes that are refusals are one refusal.
not_refused : (J : Job) (x : Refusal) → accepted J ≡ refused x → ⊥
not_refused J x h = let z : ◌≡◌ {A = ℕ} 0 1 = cc in omega arith

same_refusal : (r x : Refusal) → refused r ≡ refused x → r ≡ x
same_refusal r x h = cc

pub read_listed : (s : List ℕ) (x : Refusal) → read_job s ≡ refused x → Listed s x
read_listed s =
    every_reading s (λ J. Unit) (λ o. (x : Refusal) → o ≡ refused x → Listed s x) (λ k J p q e. tt) (λ k J l q e. tt)
    (λ k J r e x h. subst (Listed s) (same_refusal r x h) (listed_item s k J r e))
    (λ J q x h. absurd (not_refused J x h)) tt
