-- "The runs of one desk": over all bytes, the stretch begins at the first whole record with byte 0 = 18 and byte 1 = the
-- desk and goes on while records are such. If there is none, it is the empty stretch at the front.
use Rattle.std.specs.Prelude.{ℕ, zero, suc, ◌+◌, ◌-◌, ◌*◌, Bool, not, ◌&&◌, List, ltb, eqb, take, drop}
use Rattle.rules.specs.Words.{when}
use Rattle.rules.specs.File.{byte_at, whole_records}

-- Record k is a run of desk d.
unfoldable pub is_run_of : List ℕ → ℕ → ℕ → Bool
is_run_of s d k = eqb (byte_at s (16 * k)) 18 && eqb (byte_at s (16 * k + 1)) d

-- The first of the n records from k on that is such (or not such, as `wanted` says); k + n where none is.
unfoldable pub first_from : (ℕ → Bool) → ℕ → ℕ → ℕ
unfolding when
first_from wanted zero k = k
first_from wanted (suc n) k = when (wanted k) k (first_from wanted n (k + 1))

-- The first record of the stretch; the count of whole records where there is none.
unfoldable pub first_run : List ℕ → ℕ → ℕ
unfolding first_from is_run_of
first_run s d = first_from (is_run_of s d) (whole_records s) 0

-- One past the last record of the stretch that begins at record k.
unfoldable pub past_last_run : List ℕ → ℕ → ℕ → ℕ
unfolding first_from is_run_of
past_last_run s d k = first_from (λ i. not (is_run_of s d i)) (whole_records s - k) k

-- The first byte of the stretch, and the byte after its last.
unfoldable pub stretch_from : List ℕ → ℕ → ℕ
unfolding when first_run
stretch_from s d = let k = first_run s d in when (ltb k (whole_records s)) (16 * k) 0

unfoldable pub stretch_end : List ℕ → ℕ → ℕ
unfolding when first_run past_last_run
stretch_end s d = let k = first_run s d in when (ltb k (whole_records s)) (16 * past_last_run s d k) 0

-- THE RUNS OF ONE DESK: these bytes of the caller's own plan.
unfoldable pub stretch : List ℕ → ℕ → List ℕ
unfolding stretch_from stretch_end
stretch s d = take (stretch_end s d - stretch_from s d) (drop (stretch_from s d) s)
