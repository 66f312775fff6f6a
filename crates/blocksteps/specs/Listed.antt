-- Sets of entries as slices of structs: what the block method asks of them, and the first block of one.
use Rattle.std.specs.Prelude.{ℕ, ◌≤◌, ◌<◌, List, ◌∷◌, map, ◌≡◌, length, take, drop}
use Rattle.rules.specs.Blocks.{cut_in_order}
use Rattle.entries.specs.declared.list.Entry.{Entry}
use Rattle.entries.specs.Lent.{meant, entry_at}
use Rattle.method.specs.Hours.{desk_end}

-- At most 256 entries of pieces, none of which is ready so late that a sum of durations after it does not fit.
pub record Listed (es : List Entry) : Type 0 where
  pub few : length es ≤ 256
  pub known : (k : ℕ) → k < length es → (entry_at es k).number < 256
  pub early : (k : ℕ) → k < length es → (entry_at es k).ready ≤ 1000000

-- The first `count` entries are the first block, which is over at moment `over`.
pub record Extends (es : List Entry) (count over : ℕ) : Type 0 where
  pub some_one : 1 ≤ count
  pub within : count ≤ length es
  pub work : ℕ
  pub ends : over ≡ desk_end (entry_at es 0).ready work
  pub cuts : cut_in_order desk_end (map meant es)
      ≡ record { from = (entry_at es 0).ready; work = work; members = map meant (take count es) }
      ∷ cut_in_order desk_end (map meant (drop count es))
