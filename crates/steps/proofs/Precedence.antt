-- Keys keep the job's order of urgency: of two different pieces the one with the smaller key goes first.
use Prim.Native.Nat.{ℕ, ◌+◌, ◌*◌, ◌%◌, ◌≤◌, ◌<◌}
use mathlib.Core.Bool.{true}
use mathlib.Core.Path.{◌≡◌}
use native.Mathlib.Omega.{arith}
use borrow.Author.Tests.{ltb-true, ltb-false}
use lib.Dec.{ltb}
use lib.IntN.{ℤ, pos, negsuc}
use Rattle.rules.specs.Job.{Job}
use Rattle.rules.specs.Moments.{latest, sooner}
use Rattle.laws.proofs.Order.{smaller_sooner, lower_sooner}
use Rattle.laws.proofs.Signed.{up, dn}
use Rattle.laws.proofs.Words.{by_test}
use Rattle.steps.specs.Keys.{key_of, no_key}

-- A key is the raised moment and the number.
key_is : (z : ℤ) (i : ℕ) → dn z ≤ 524288 → key_of z i + dn z * 256 ≡ (up z + 524288) * 256 + i
unfolding key_of up dn
key_is (pos k) i h = omega arith
key_is (negsuc k) i h = omega arith

-- Its last eight bits tell the piece, and nobody has it.
pub key_tells : (z : ℤ) (i : ℕ) → i < 256 → key_of z i % 256 ≡ i
unfolding key_of
key_tells (pos k) i h = omega arith
key_tells (negsuc k) i h = omega arith

pub key_somebody : (z : ℤ) (i : ℕ) → i < 256 → up z ≤ 524288 → key_of z i < no_key
unfolding key_of up dn
key_somebody (pos k) i h b = omega arith
key_somebody (negsuc k) i h b = omega arith

pub key_sooner : (J : Job) (i x : ℕ) → i < 256 → x < 256 → dn (latest J i) ≤ 524288 → dn (latest J x) ≤ 524288 → (x ≡ i → ⊥)
    → key_of (latest J i) i ≤ key_of (latest J x) x → sooner J i x ≡ true
key_sooner J i x li lx ni nx apart h =
    let p = key_is (latest J i) i ni in
    let q = key_is (latest J x) x nx in
    let a = up (latest J i) + dn (latest J x) in
    let b = up (latest J x) + dn (latest J i) in
    by_test (ltb a b)
    (λ e. smaller_sooner J i x (ltb-true a b e))
    (λ e. lower_sooner J i x (omega (arith, p, q, h)) (lower (omega (arith, p, q, h, ltb-false a b e))))
  where
    lower : i ≤ x → i < x
    lower l = by_test (ltb i x) (λ e. ltb-true i x e) (λ e. absurd (apart (omega (arith, ltb-false i x e))))
