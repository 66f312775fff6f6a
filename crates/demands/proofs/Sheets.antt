-- The block sheet's counts: the bytes written are 16 for each block and each run that the answer counts, and they fit 48
-- bytes for each piece of the file.
use Prim.Native.Nat.{ℕ, ◌+◌, ◌*◌, ◌≤◌, ◌<◌}
use mathlib.Core.List.Memᴰ
use mathlib.Core.List.{List, ◌++◌, map, Memᴰ as Mem}
use mathlib.Core.Logic.{⊎_elim}
use mathlib.Core.Path.{◌≡◌, ap, ◌∙◌}
use native.Mathlib.Omega.{arith}
use lib.Dec.{eqb}
use lib.ListN.{length, length-map, length-append}
use Rattle.rules.specs.Words.{below}
use Rattle.rules.specs.Job.{Job, piece_count, desk, desk_pieces}
use Rattle.rules.specs.Hours.{next_open, open_end}
use Rattle.rules.specs.Runs.{runs}
use Rattle.rules.specs.Bytes.{run_record}
use Rattle.rules.specs.Entries.{entry, entries}
use Rattle.rules.specs.Blocks.{block_end}
use Rattle.rules.specs.BlockSheet.{blocks, block_runs, block_record_of, sheet_bytes, block_numbers}
use Rattle.laws.proofs.Words.{keep-length, length-below, below_mem, sum_mem}
use Rattle.laws.proofs.Joined.{mem_of_map}
use Rattle.laws.proofs.Bytes.{run_sized, block_sized, records_sized}
use Rattle.theory.proofs.BlockShape.{cut-length}
use Rattle.demands.specs.Accepted.{AcceptedAs}
use Rattle.demands.proofs.Agreement.{block_runs_agree}
use Rattle.demands.proofs.Runs.{run_records_lem, two_runs_a_piece}

module _ (J : Job) (d : ℕ) where
  -- A desk has no more pieces than there are, and no more blocks than pieces.
  pub desk_few : length (desk_pieces J d) ≤ piece_count J
  unfolding desk_pieces
  desk_few = omega (arith, keep-length (λ i. eqb (desk J i) d) (below (piece_count J)), length-below (piece_count J))

  pub blocks_few : length (blocks J d) ≤ piece_count J
  unfolding blocks entries
  blocks_few =
      omega (
        arith,
        cut-length (open_end J d) (entries J d),
        length-map (desk_pieces J d) (entry J),
        desk_few,
      )

  -- The bytes written are 16 for each block and each run that the answer counts.
  pub sheet_written_bytes : length (sheet_bytes J d) ≡ 16 * ((block_numbers J d).blocks + (block_numbers J d).runs)
  unfolding sheet_bytes block_numbers block_record_of
  sheet_written_bytes =
      records_sized (map (block_record_of J d) (blocks J d) ++ map (run_record d) (block_runs J d)) sized
      ∙ ap (λ n. 16 * n) (length-append (map (block_record_of J d) (blocks J d)) (map (run_record d) (block_runs J d))
      ∙ ap (λ n. n + length (map (run_record d) (block_runs J d))) (length-map (blocks J d) (block_record_of J d))
      ∙ ap (λ n. length (blocks J d) + n) (length-map (block_runs J d) (run_record d)))
    where
      block : (r : List ℕ) → Mem r (map (block_record_of J d) (blocks J d)) → length r ≡ 16
      block r m =
          let w = mem_of_map (block_record_of J d) (blocks J d) r m in
          rw w.2 (block_sized d (length w.0.members) (next_open J d w.0.from) (block_end (open_end J d) w.0))

      run : (r : List ℕ) → Mem r (map (run_record d) (block_runs J d)) → length r ≡ 16
      run r m = let w = mem_of_map (run_record d) (block_runs J d) r m in rw w.2 (run_sized d w.0)

      sized : (r : List ℕ) → Mem r (map (block_record_of J d) (blocks J d) ++ map (run_record d) (block_runs J d)) → length r ≡ 16
      sized r m = ⊎_elim (block r) (run r) (Memᴰ.append_cases (map (block_record_of J d) (blocks J d)) m)

-- They fit 48 bytes for each piece.
pub sheet_records_fit : (file : List ℕ) (J : Job) → AcceptedAs file J → (d : ℕ) → d < 32
    → length (sheet_bytes J d) ≤ 48 * piece_count J
unfolding block_numbers
sheet_records_fit file J accept d known =
    omega (
      arith,
      sheet_written_bytes J d,
      blocks_few J d,
      ap length (block_runs_agree file J accept d),
      sum_mem (λ d. length (runs J d)) (below 32) d (below_mem 32 d known),
      run_records_lem J,
      two_runs_a_piece file J accept,
    )
