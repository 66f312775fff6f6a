-- What it is to be accepted: the file was read without a fault, and no piece is on a ring.
use Prim.Native.Nat.{ℕ}
use mathlib.Core.List.{List}
use mathlib.Core.Option.{Option, none, some}
use mathlib.Core.Path.{◌≡◌, refl, sym, ap, ◌∙◌}
use native.Mathlib.Omega.{arith}
use Rattle.rules.specs.Job.{Job, Outcome, refused, accepted}
use Rattle.rules.specs.Reading.{read_job}
use Rattle.rules.specs.Rings.{ring_piece}
use Rattle.rules.specs.Judgement.{then_judge, unless_ring, file_outcome}
use Rattle.rules.specs.Tables.{Sound}
use Rattle.laws.proofs.Reading.{job_sound}
use Rattle.demands.specs.Accepted.{AcceptedAs}

abbrev code : Outcome → ℕ
code (refused r) = 1
code (accepted J) = 0

pub accepted_inj : (J K : Job) → accepted J ≡ accepted K → J ≡ K
accepted_inj J K e = cc

-- Read, and found without a ring.
pub record Passed (file : List ℕ) (J : Job) : Type 0 where
  pub read : read_job file ≡ accepted J
  pub free : ring_piece J ≡ none

unringed : (K J : Job) → unless_ring K ≡ accepted J → (K ≡ J) × (ring_piece K ≡ none)
unfolding unless_ring
unringed K J h = go (ring_piece K) refl
  where
    go : (o : Option ℕ) → ring_piece K ≡ o → (K ≡ J) × (ring_piece K ≡ none)
    go none e = (accepted_inj K J (rw (e, unless_ring) at h), e)
    go (some i) e = let z : ◌≡◌ {A = ℕ} 1 0 = ap code (rw (e, unless_ring) at h) in absurd (omega arith)

pub accepted_passed : (file : List ℕ) (J : Job) → AcceptedAs file J → Passed file J
unfolding file_outcome then_judge
accepted_passed file J h = go (read_job file) refl h
  where
    go : (o : Outcome) → read_job file ≡ o → then_judge o unless_ring ≡ accepted J → Passed file J
    go (refused r) e k = let z : ◌≡◌ {A = ℕ} 1 0 = ap code k in absurd (omega arith)
    go (accepted K) e k =
        let w = unringed K J k in
        record { read = e ∙ ap accepted w.0; free = ap ring_piece (sym w.0) ∙ w.1 }

pub accepted_sound : (file : List ℕ) (J : Job) → AcceptedAs file J → Sound J
accepted_sound file J h = job_sound file J (accepted_passed file J h).read

pub accepted_free : (file : List ℕ) (J : Job) → AcceptedAs file J → ring_piece J ≡ none
accepted_free file J h = (accepted_passed file J h).free
