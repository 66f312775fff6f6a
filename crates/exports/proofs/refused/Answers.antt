-- `refused` meets its contract: number and place stand first, and all else is zero.
use Rattle.std.proofs.Common.{◌≡◌, ℕ, zero, suc, ◌∷◌, ◌-◌, ◌≤◌, ℤ, pos, refl, ap, ap₂, ◌∙◌, arith, replicate, set, w64}
use mir.ValLaws.{to_z-of_z, to_z_pos}
use Rattle.exports.proofs.refused.Goals as goal

-- A row of zeros with two numbers at its front.
row_is : (n : ℕ) (a b : ℤ) → 2 ≤ n → set (set (replicate n (pos 0)) 0 a) 1 b ≡ a ∷ b ∷ replicate (n - 2) (pos 0)
row_is zero a b h = absurd (omega arith)
row_is (suc zero) a b h = absurd (omega arith)
row_is (suc (suc n)) a b h =
    let q : n ≡ suc (suc n) - 2 = omega arith in ap (λ k. a ∷ b ∷ replicate k (pos 0)) q

pub returns : goal.returns
returns g c =
    let number = to_z-of_z w64 c.from-2.result (record { sfits = c.from-2.type_inv }) ∙ c.from-2.ensures
    ∙ ap pos c.from.ensures in
    let place = to_z_pos w64 c.args.refusal.place (omega (arith, c.requires.place)) in
    row_is g.row.N _ _ c.requires.both
    ∙ ap₂ (λ a b. a ∷ b ∷ replicate (g.row.N - 2) (pos 0)) number place
