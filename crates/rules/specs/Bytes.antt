-- The records of a plan in the lent buffer, 16 bytes each, numbers little-endian: result (17), run (18), block (19).
use Rattle.std.specs.Prelude.{ℕ, ◌-◌, ◌/◌, ◌%◌, List, [], ◌∷◌, ◌++◌, ℤ, pos, negsuc}
use Rattle.rules.specs.Job.{Job, desk}
use Rattle.rules.specs.Moments.{latest}
use Rattle.rules.specs.Urgency.{start, finish}
use Rattle.rules.specs.Runs.{Run}

unfoldable pub half : ℕ → List ℕ
half n = n % 256 ∷ n / 256 % 256 ∷ []

unfoldable pub word : ℕ → List ℕ
word n = n % 256 ∷ n / 256 % 256 ∷ n / 65536 % 256 ∷ n / 16777216 % 256 ∷ []

-- A signed number as 32 bits, two's complement: -1 is 4,294,967,295.
unfoldable pub signed_word : ℤ → List ℕ
unfolding word
signed_word (pos n) = word n
signed_word (negsuc n) = word (4294967295 - n)

-- The common shape: kind, desk, a number of two bytes, and three of four bytes.
unfoldable pub plan_record : ℕ → ℕ → ℕ → List ℕ → List ℕ → List ℕ → List ℕ
unfolding half
plan_record kind d n a b c = kind ∷ d ∷ half n ++ a ++ b ++ c

-- Result: byte 0 is 17, byte 1 desk, 2-3 piece, 4-7 start, 8-11 finish, 12-15 latest moment.
unfoldable pub result_record : Job → ℕ → List ℕ
unfolding plan_record word signed_word start finish latest
result_record J i = plan_record 17 (desk J i) i (word (start J i)) (word (finish J i)) (signed_word (latest J i))

-- What a run record holds in bytes 12-15.
unfoldable pub last_word : Run → ℕ
last_word r = 0

-- Run: byte 0 is 18, byte 1 desk, 2-3 piece, 4-7 from, 8-11 until (not worked), 12-15 zero.
unfoldable pub run_record : ℕ → Run → List ℕ
unfolding plan_record word last_word
run_record d r = plan_record 18 d r.piece (word r.from) (word r.until) (word (last_word r))

-- Block: byte 0 is 19, byte 1 desk, 2-3 count of pieces, 4-7 from, 8-11 end, 12-15 zero.
unfoldable pub block_record : ℕ → ℕ → ℕ → ℕ → List ℕ
unfolding plan_record word
block_record d count from end = plan_record 19 d count (word from) (word end) (word 0)
