-- The run records of all desks, desk by desk, each desk's right behind those of the desks before it.
use Prim.Native.Nat.{ℕ, zero, suc, ◌+◌, ◌-◌, ◌≤◌, ◌<◌}
use mathlib.Core.List.{List, ◌++◌}
use mathlib.Core.Path.{◌≡◌, sym, ap, ◌∙◌}
use native.Mathlib.Omega.{arith}
use native.Mathlib.Numerals.{add-one}
use lib.ListN.{length, length-append}
use Rattle.laws.proofs.Joined.{joined_more}
use Rattle.records.specs.declared.lent.Lent.{Lent}
use Rattle.records.proofs.PutLaws.{nothing_put, puts_on, puts_as}
use Rattle.output.specs.Written.{desk_runs_in, runs_in, Logged, AllLogged}

module _ (count : ℕ) (desks pieces froms untils : List ℕ) where
  desk_more : (d : ℕ) → runs_in (suc d) count desks pieces froms untils
      ≡ runs_in d count desks pieces froms untils ++ desk_runs_in count desks pieces froms untils d
  unfolding runs_in
  desk_more d = joined_more (desk_runs_in count desks pieces froms untils) d

  desk-length : (d : ℕ) → length (runs_in (suc d) count desks pieces froms untils)
      ≡ length (runs_in d count desks pieces froms untils) + length (desk_runs_in count desks pieces froms untils d)
  desk-length d =
      ap length (desk_more d)
      ∙ length-append (runs_in d count desks pieces froms untils) (desk_runs_in count desks pieces froms untils d)

  grow : (d n : ℕ) → length (runs_in d count desks pieces froms untils)
      ≤ length (runs_in (d + n) count desks pieces froms untils)
  grow d zero = let q : d + 0 ≡ d = omega arith in rw q (omega arith)
  grow d (suc n) =
      let q : d + suc n ≡ suc (d + n) = omega arith in
      let ih : length (runs_in d count desks pieces froms untils)
      ≤ length (runs_in (d + n) count desks pieces froms untils) = grow d n in
      rw q (omega (arith, desk-length (d + n)))

  -- There is room for one desk's records.
  pub desk_room : (d n : ℕ) → d < n
      → length (runs_in d count desks pieces froms untils) + length (desk_runs_in count desks pieces froms untils d)
      ≤ length (runs_in n count desks pieces froms untils)
  desk_room d n h =
      let q : suc d + (n - suc d) ≡ n = omega arith in
      let g : length (runs_in (suc d) count desks pieces froms untils)
      ≤ length (runs_in n count desks pieces froms untils) =
      rw q at (grow (suc d) (n - suc d)) in
      omega (arith, desk-length d)

  pub no_desk_yet : (old : Lent) → AllLogged count desks pieces froms untils old 0 old
  unfolding runs_in
  no_desk_yet old = nothing_put old

  pub one_desk_more : {old mid new : Lent} (d : ℕ) → AllLogged count desks pieces froms untils old d mid
      → Logged desks pieces froms untils d mid count new → AllLogged count desks pieces froms untils old (d + 1) new
  one_desk_more d a l = rw add-one (puts_as (puts_on a l) (sym (desk_more d)))
