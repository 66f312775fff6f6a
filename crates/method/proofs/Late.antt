-- The worst lateness on a desk, over its runs: each piece has a run, and its lateness is that of its last run.
use Prim.Native.Nat.{ℕ, ◌≤◌}
use mathlib.Core.List.Memᴰ.{head as here}
use mathlib.Core.List.Memᴰ.{tail as there}
use mathlib.Core.List.{List, [], ◌∷◌, map, Memᴰ as Mem}
use mathlib.Core.Logic.{◌⊎◌, inl, inr, ⊎_elim}
use mathlib.Core.Option.{none}
use mathlib.Core.Path.{◌≡◌, refl, ap}
use native.Mathlib.Omega.{arith}
use borrow.Author.Tests.{ltb-true, eqb-true, eq-eqb}
use lib.Dec.{ltb, eqb}
use lib.IntN.{ℤ, pos, ◌-ℤ◌}
use Rattle.rules.specs.Words.{when, keep, greater, greatest, worst_of}
use Rattle.rules.specs.Job.{Job, desk_pieces}
use Rattle.rules.specs.Hours.{is_open}
use Rattle.rules.specs.Moments.{latest}
use Rattle.rules.specs.Rings.{ring_piece}
use Rattle.rules.specs.Tables.{Sound}
use Rattle.rules.specs.Urgency.{horizon}
use Rattle.rules.specs.Runs.{Run, runs_from}
use Rattle.rules.specs.Entries.{Entry, entry, entries}
use Rattle.rules.specs.Blocks.{block_worked}
use Rattle.rules.specs.BlockSheet.{block_runs, block_lateness}
use Rattle.laws.proofs.Words.{by_test, mem_map, mem_keep, keep_mem, greatest_mem}
use Rattle.laws.proofs.Joined.{mem_of_map}
use Rattle.laws.proofs.Signed.{up, dn, ◌≼◌, same, minus, greatest_z_start, greatest_z_mem, greatest_z_least}
use Rattle.laws.proofs.Hours.{always_open}
use Rattle.theory.proofs.Turns.{turns_of_lem, turns_of}
use Rattle.theory.proofs.RunOrder.{runs-true, runs_covering}
use Rattle.method.proofs.OfDesk.{works_own, works_each}

-- The worst of a list of signed numbers.
worst_mem : (l : List ℤ) (z : ℤ) → Mem z l → z ≼ worst_of l
unfolding worst_of
worst_mem [] z never = elim never [ ]
worst_mem (x ∷ xs) z (here e) = rw e (greatest_z_start x xs)
worst_mem (x ∷ xs) z (there m) = greatest_z_mem x xs z m

worst_least : (l : List ℤ) (z c : ℤ) → Mem z l → ((x : ℤ) → Mem x l → x ≼ c) → worst_of l ≼ c
unfolding worst_of
worst_least [] z c m h = elim m [ ]
worst_least (x ∷ xs) z c m h = greatest_z_least x c xs (h x (here refl)) (λ y n. h y (there n))

-- Two lists have the same worst where each number of the one is at most one of the other.
module _ {A B : Type 0} (f : A → ℤ) (g : B → ℤ) where
  worst_under : (xs : List A) (ys : List B) → ((x : A) → Mem x xs → (y : B) × Mem y ys × (f x ≼ g y)) → (x : A) → Mem x xs
      → worst_of (map f xs) ≼ worst_of (map g ys)
  worst_under xs ys h x m =
      worst_least (map f xs) (f x) (worst_of (map g ys)) (mem_map f xs x m)
      (λ z n.
      let a = mem_of_map f xs z n in
      let b = h a.0 a.1 in
      let k : g b.0 ≼ worst_of (map g ys) = worst_mem (map g ys) (g b.0) (mem_map g ys b.0 b.1) in
      let l : f a.0 ≼ g b.0 = b.2 in
      rw a.2 (omega arith))

pub worst_same : {A B : Type 0} (f : A → ℤ) (g : B → ℤ) (xs : List A) (ys : List B)
    → ((x : A) → Mem x xs → (y : B) × Mem y ys × (f x ≼ g y))
    → ((y : B) → Mem y ys → (x : A) × Mem x xs × (g y ≼ f x)) → worst_of (map f xs) ≡ worst_of (map g ys)
unfolding worst_of
worst_same f g [] [] h k = refl
worst_same f g [] (y ∷ ys) h k = elim (k y (here refl)).1 [ ]
worst_same f g (x ∷ xs) [] h k = elim (h x (here refl)).1 [ ]
worst_same f g (x ∷ xs) (y ∷ ys) h k =
    same (worst_of (map f (x ∷ xs))) (worst_of (map g (y ∷ ys)))
    (omega (
      arith,
      worst_under f g (x ∷ xs) (y ∷ ys) h x (here refl),
      worst_under g f (y ∷ ys) (x ∷ xs) k y (here refl),
    ))

-- The greatest of a list is 0 or stands in it.
greatest_reached : (l : List ℕ) → (greatest 0 l ≡ 0) ⊎ Mem (greatest 0 l) l
unfolding greatest greater
greatest_reached [] = inl refl
greatest_reached (y ∷ l) =
    by_test (ltb y (greatest 0 l))
    (λ e.
    rw (e, when)
    (⊎_elim
    (λ z. absurd (omega (arith, ltb-true y (greatest 0 l) e)))
    (λ m. inr (there m))
    (greatest_reached l)))
    (λ e. rw (e, when) (inr (here refl)))

later_later : (a b : ℕ) (z : ℤ) → a ≤ b → (pos a -ℤ z) ≼ (pos b -ℤ z)
unfolding up dn
later_later a b z h = omega (arith, minus (pos a) z, minus (pos b) z)

module _ (J : Job) (sound : Sound J) (free : ring_piece J ≡ none) (d : ℕ) where
  -- The lateness of a run.
  abbrev pub run_late : Run → ℤ
  run_late r = pos r.until -ℤ latest J r.piece

  runs_are : block_runs J d ≡ runs_from none (turns_of (is_open J d) (block_worked J d) (horizon J))
  unfolding block_runs
  runs_are = ap (runs_from none) (turns_of_lem J d (block_worked J d) (horizon J))

  own : ℕ → List Run
  own i = keep (λ r. eqb r.piece i) (block_runs J d)

  abbrev untils : ℕ → List ℕ
  untils i = map (λ (r : Run). r.until) (own i)

  -- A run's piece is the desk's, and its lateness is at most the piece's.
  run_entry : (r : Run) → Mem r (block_runs J d) → (e : Entry) × Mem e (entries J d) × (run_late r ≼ block_lateness J d e)
  unfolding block_lateness entries entry own
  run_entry r m =
      let t = runs-true (is_open J d) (block_worked J d) (horizon J) r (rw runs_are at m) in
      let i = r.piece in (
        entry J i,
        mem_map (entry J) (desk_pieces J d) i (works_own J sound free d r.from i t.begins),
        later_later r.until (greatest 0 (untils i)) (latest J i)
            (greatest_mem 0 (untils i) r.until
            (mem_map (λ (r : Run). r.until) (own i) r
            (keep_mem (λ r. eqb r.piece i) (block_runs J d) r m (eq-eqb i i refl)))),
      )

  -- Each piece has a run, and its lateness is that of one of its runs.
  piece_run : (i : ℕ) → Mem i (desk_pieces J d)
      → (r : Run) × Mem r (block_runs J d) × ((pos (greatest 0 (untils i)) -ℤ latest J i) ≼ run_late r)
  unfolding own
  piece_run i m =
      let k = works_each J sound free d i m in
      let c = runs_covering (is_open J d) (block_worked J d) (horizon J) k.0 i k.1 (always_open J d k.0) k.2 in
      ⊎_elim
      (λ z. (
        c.0,
        rw runs_are c.1,
        rw c.2 (later_later (greatest 0 (untils i)) c.0.until (latest J i) (omega arith)),
      ))
      (λ n.
      let a = mem_of_map (λ (r : Run). r.until) (own i) (greatest 0 (untils i)) n in
      let o = mem_keep (λ r. eqb r.piece i) (block_runs J d) a.0 a.1 in
      let q : a.0.piece ≡ i = eqb-true a.0.piece i o.1 in (
        a.0,
        o.0,
        rw q (later_later (greatest 0 (untils i)) a.0.until (latest J i) (omega (arith, a.2))),
      ))
      (greatest_reached (untils i))

  entry_run : (e : Entry) → Mem e (entries J d) → (r : Run) × Mem r (block_runs J d) × (block_lateness J d e ≼ run_late r)
  unfolding block_lateness entries entry own
  entry_run e m =
      let a = mem_of_map (entry J) (desk_pieces J d) e m in
      let r = piece_run a.0 a.1 in
      rw a.2 r

  pub worst_of_runs : worst_of (map run_late (block_runs J d)) ≡ worst_of (map (block_lateness J d) (entries J d))
  worst_of_runs = worst_same run_late (block_lateness J d) (block_runs J d) (entries J d) run_entry entry_run
