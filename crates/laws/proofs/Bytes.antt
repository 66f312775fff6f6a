-- Records of a plan: each is 16 bytes long, so records one behind the other are 16 bytes for each.
use Prim.Native.Nat.{ℕ, ◌*◌}
use mathlib.Core.List.Memᴰ.{head as here}
use mathlib.Core.List.{List, [], ◌∷◌, Memᴰ as Mem}
use mathlib.Core.Path.{◌≡◌, refl}
use native.Mathlib.Omega.{arith}
use lib.IntN.{ℤ, pos, negsuc}
use lib.ListN.{length, length-append}
use Rattle.rules.specs.Words.{joined}
use Rattle.rules.specs.Job.{Job, desk}
use Rattle.rules.specs.Moments.{latest}
use Rattle.rules.specs.Urgency.{start, finish}
use Rattle.rules.specs.Runs.{Run}
use Rattle.rules.specs.Bytes.{half, word, signed_word, plan_record, result_record, run_record, block_record}
use Rattle.laws.proofs.Words.{on_tail}

pub word_sized : (n : ℕ) → length (word n) ≡ 4
unfolding word
word_sized n = refl

pub signed_sized : (z : ℤ) → length (signed_word z) ≡ 4
unfolding signed_word word
signed_sized (pos n) = refl
signed_sized (negsuc n) = refl

-- A record of three words is 16 bytes long.
pub record_sized : (kind d n : ℕ) (a b c : List ℕ) → length a ≡ 4 → length b ≡ 4 → length c ≡ 4 → length (plan_record kind d n a b c) ≡ 16
unfolding plan_record half
record_sized kind d n a b c p q r =
    simp length-append (omega arith)

pub result_sized : (J : Job) (i : ℕ) → length (result_record J i) ≡ 16
unfolding result_record
result_sized J i =
    record_sized 17 (desk J i) i (word (start J i)) (word (finish J i)) (signed_word (latest J i))
    (word_sized (start J i)) (word_sized (finish J i)) (signed_sized (latest J i))

pub run_sized : (d : ℕ) (r : Run) → length (run_record d r) ≡ 16
unfolding run_record plan_record half word
run_sized d r = refl

pub block_sized : (d count from end : ℕ) → length (block_record d count from end) ≡ 16
unfolding block_record plan_record half word
block_sized d count from end = refl

-- Records one behind the other.
pub records_sized : (rs : List (List ℕ)) → ((r : List ℕ) → Mem r rs → length r ≡ 16) → length (joined rs) ≡ 16 * length rs
unfolding joined
records_sized [] h = refl
records_sized (r ∷ rs) h =
    let ih : length (joined rs) ≡ 16 * length rs = records_sized rs (on_tail r rs h) in
    omega (arith, length-append r (joined rs), h r (here refl))
