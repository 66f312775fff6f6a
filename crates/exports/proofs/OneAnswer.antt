-- An answer is told by one row of numbers alone: two answers of the same row are the same answer. So the promises of the
-- public calls, which speak of the row, fix the answer itself, and a number that C is handed tells its fault.
use Rattle.std.specs.Prelude.{ℕ, ◌-◌, ◌≤◌, List, [], ◌∷◌, ◌≡◌, get_or, Result, Ok, Err}
use Rattle.std.proofs.Common.{arith, refl, sym, ap, ◌∙◌}
use Rattle.rules.specs.Told.{number_of, plan_answer_told, block_answer_told, write_answer_told}
use Rattle.rules.specs.declared.fault.Fault.{Fault}
use Rattle.rules.specs.declared.fault.Fault.TheVariants.{BytesLeft, UnknownKind, PieceAfterLink, TooMany, Desk}
use Rattle.rules.specs.declared.fault.Fault.TheVariants.{Duration, ReleaseOrDue, NotZero, NoSuchPiece, Handover, Ring}
use Rattle.rules.specs.declared.fault.Fault.TheVariants.{BufferTooShort, AskedDesk, NoRoomForFile}
use Rattle.rules.specs.declared.fault.Refusal.{Refusal}
use Rattle.rules.specs.declared.PlanFigures.{PlanFigures}
use Rattle.rules.specs.declared.BlockFigures.{BlockFigures}

-- The faults in the order of the list, from number 1 on.
faults : List Fault
faults = BytesLeft ∷ UnknownKind ∷ PieceAfterLink ∷ TooMany ∷ Desk ∷ Duration ∷ ReleaseOrDue ∷ NotZero ∷ NoSuchPiece
    ∷ Handover ∷ Ring ∷ BufferTooShort ∷ AskedDesk ∷ NoRoomForFile ∷ []

fault_at : ℕ → Fault
fault_at n = get_or faults (n - 1) NoRoomForFile

number_back : (f : Fault) → fault_at (number_of f) ≡ f
unfolding fault_at faults
number_back BytesLeft = refl
number_back UnknownKind = refl
number_back PieceAfterLink = refl
number_back TooMany = refl
number_back Desk = refl
number_back Duration = refl
number_back ReleaseOrDue = refl
number_back NotZero = refl
number_back NoSuchPiece = refl
number_back Handover = refl
number_back Ring = refl
number_back BufferTooShort = refl
number_back AskedDesk = refl
number_back NoRoomForFile = refl

-- No two faults have one number, and none has 0.
pub number_one : (f g : Fault) → number_of f ≡ number_of g → f ≡ g
number_one f g e = sym (number_back f) ∙ ap fault_at e ∙ number_back g

number_least : (f : Fault) → 1 ≤ number_of f
number_least BytesLeft = omega arith
number_least UnknownKind = omega arith
number_least PieceAfterLink = omega arith
number_least TooMany = omega arith
number_least Desk = omega arith
number_least Duration = omega arith
number_least ReleaseOrDue = omega arith
number_least NotZero = omega arith
number_least NoSuchPiece = omega arith
number_least Handover = omega arith
number_least Ring = omega arith
number_least BufferTooShort = omega arith
number_least AskedDesk = omega arith
number_least NoRoomForFile = omega arith

refusal_one : (r s : Refusal) → number_of r.fault ≡ number_of s.fault → r.place ≡ s.place → r ≡ s
refusal_one r s e p = λ i. record { fault = number_one r.fault s.fault e i; place = p i }

pub plan_one : (a b : Result PlanFigures Refusal) → plan_answer_told a ≡ plan_answer_told b → a ≡ b
plan_one (Ok f) (Ok g) e =
    ap Ok (λ i. record { pieces = (e i).pieces; runs = (e i).runs; end = (e i).end; worst = (e i).worst })
plan_one (Ok f) (Err s) e = absurd (omega (arith, number_least s.fault, ap (λ x. x.number) e))
plan_one (Err r) (Ok g) e = absurd (omega (arith, number_least r.fault, ap (λ x. x.number) e))
plan_one (Err r) (Err s) e = ap Err (refusal_one r s (ap (λ x. x.number) e) (ap (λ x. x.place) e))

pub block_one : (a b : Result BlockFigures Refusal) → block_answer_told a ≡ block_answer_told b → a ≡ b
block_one (Ok f) (Ok g) e = ap Ok (λ i. record { blocks = (e i).blocks; runs = (e i).runs; worst = (e i).worst })
block_one (Ok f) (Err s) e = absurd (omega (arith, number_least s.fault, ap (λ x. x.number) e))
block_one (Err r) (Ok g) e = absurd (omega (arith, number_least r.fault, ap (λ x. x.number) e))
block_one (Err r) (Err s) e = ap Err (refusal_one r s (ap (λ x. x.number) e) (ap (λ x. x.place) e))

pub write_one : (a b : Result ℕ Refusal) → write_answer_told a ≡ write_answer_told b → a ≡ b
write_one (Ok n) (Ok m) e = ap Ok (ap (λ x. x.bytes) e)
write_one (Ok n) (Err s) e = absurd (omega (arith, number_least s.fault, ap (λ x. x.number) e))
write_one (Err r) (Ok m) e = absurd (omega (arith, number_least r.fault, ap (λ x. x.number) e))
write_one (Err r) (Err s) e = ap Err (refusal_one r s (ap (λ x. x.number) e) (ap (λ x. x.place) e))
