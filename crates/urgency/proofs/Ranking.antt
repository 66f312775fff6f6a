-- A latest moment raised above zero, and the keys of all pieces.
use Prim.Native.Nat.{ℕ, suc, ◌+◌, ◌-◌, ◌*◌, ◌≤◌, ◌<◌}
use mathlib.Core.List.{List}
use mathlib.Core.Path.{◌≡◌, refl, ap, ◌∙◌}
use native.Mathlib.Omega.{arith}
use borrow.Author.Tests.{le-ltb}
use lib.Dec.{ltb}
use lib.IntN.{ℤ, pos, negsuc, ◌+ℤ◌, nat_abs}
use lib.ListN.{length, get_or}
use mir.Syntax.{w32}
use mir.Val.{SFits}
use Rattle.rules.specs.Tables.{job_of}
use Rattle.rules.specs.declared.Link.{Link}
use Rattle.rules.specs.declared.Piece.{Piece}
use Rattle.laws.proofs.Latest.{latest_near}
use Rattle.steps.specs.Keys.{key_of, Keyed}
use Rattle.urgency.specs.Plan.{Given, Ranked}

pub record Raised (z : ℤ) (i : ℕ) : Type 0 where
  pub high : ℕ
  pub is : z +ℤ pos 524288 ≡ pos high
  pub small : high ≤ 1100000
  pub key : high * 256 + i ≡ key_of z i

pub raised : (z : ℤ) (i : ℕ) → nat_abs z ≤ 500000 → Raised z i
unfolding key_of
raised (pos k) i h = record { high = k + 524288; is = refl; small = omega arith; key = refl }
raised (negsuc k) i h =
    let e : ltb 524288 (suc k) ≡ _ = le-ltb 524288 (suc k) (omega arith) in
    record {
      high = 524287 - k;
      is = rw e (ap pos (let q : 524288 - suc k ≡ 524287 - k = omega arith in q));
      small = omega arith;
      key = refl;
    }

-- A latest moment fits four bytes.
pub fits_near : (z : ℤ) → nat_abs z ≤ 500000 → SFits w32 z
fits_near (pos k) h = record { sfits = omega arith }
fits_near (negsuc k) h = record { sfits = omega arith }

-- What is given of the latest moments, as keys.
module _ (ps : List Piece) (ls : List Link) (latests : List ℤ) (g : Given (job_of ps ls) (length ps) latests) where
  pub given_near : (i : ℕ) → i < length ps → nat_abs (get_or latests i (pos 0)) ≤ 500000
  given_near i h = rw (g.latest_is i h) (omega (arith, (latest_near _ g.sound g.free i h).abs_most))

  pub given_ranked : (keys : List ℕ) → Keyed (length ps) latests keys → Ranked (job_of ps ls) (length ps) keys
  given_ranked keys k = record {
    sound = g.sound;
    free = g.free;
    key_is = λ i h. k.each i h ∙ ap (λ z. key_of z i) (g.latest_is i h);
  }
