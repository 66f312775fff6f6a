-- The block method as it fills the board: a set is cut into blocks one behind the other, and the slots between them go to
-- the piece that was set aside before; a block is its least costly piece set aside and the set of the others.
use Rattle.std.specs.Prelude.{ℕ, zero, suc, Bool, List, [], ◌∷◌}
use Rattle.std.proofs.Math.Option.{Option, none, some}
use Rattle.rules.specs.Blocks.{Block, block_end, cut_in_order, set_aside, others}
use Rattle.rules.specs.declared.Run.{Run as Stretch}
use Rattle.method.specs.Board.{give}

-- Blocks by time from moment t on, each solved; the slots before, between and behind them, up to `end`, are for `who`.
unfoldable pub around : (ℕ → ℕ → ℕ) → (Block → List Stretch → List Stretch) → Option ℕ → ℕ → ℕ → List Block
    → List Stretch → List Stretch
unfolding give block_end
around end_of solve who t end [] b = give who t end b
around end_of solve who t end (B ∷ Bs) b =
    around end_of solve who (block_end end_of B) end Bs (solve B (give who t B.from b))

-- A block, by at most so many cuttings.
unfoldable pub solved : (ℕ → ℕ → Bool) → (ℕ → ℕ → ℕ) → ℕ → Block → List Stretch → List Stretch
unfolding around set_aside others block_end cut_in_order
solved follows end_of zero B b = b
solved follows end_of (suc n) B b = elim (set_aside follows B) [
  | none ↦ b
  | some m ↦
      around end_of (solved follows end_of n) (some m.number) B.from (block_end end_of B)
      (cut_in_order end_of (others B m)) b
]
