-- What a call of the block sheet on an accepted file is refused for.
use Rattle.std.specs.Prelude.{ℕ, ◌*◌, ltb}
use Rattle.rules.specs.Words.{when}

-- 13: desk asked for above 31; then 12: lent buffer shorter than 48 bytes times the pieces.
unfoldable pub sheet_fault : ℕ → ℕ → ℕ → ℕ
unfolding when
sheet_fault d pieces room = when (ltb 31 d) 13 (when (ltb room (48 * pieces)) 12 0)
