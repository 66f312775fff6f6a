-- Runs of an accepted file: the run lengths of a piece add to its duration, a desk with m pieces has at most 2m - 1 runs,
-- the runs of a desk rise and do not overlap, and result and run records fit 48 bytes for each piece.
use Prim.Native.Nat.{ℕ, zero, suc, ◌+◌, ◌-◌, ◌*◌, ◌≤◌, ◌<◌}
use mathlib.Core.Bool.{Bool, false}
use mathlib.Core.List.Memᴰ
use mathlib.Core.List.Memᴰ.{head as here}
use mathlib.Core.List.{List, ◌∷◌, ◌++◌, map, Memᴰ as Mem, []}
use mathlib.Core.Logic.{⊎_elim}
use mathlib.Core.Option.{none}
use mathlib.Core.Path.{◌≡◌, refl, sym, ap, ◌∙◌}
use native.Mathlib.Omega.{arith}
use borrow.Author.Tests.{ltb-true, ltb-false, eqb-true, eqb-false, ne_eqb}
use lib.Dec.{ltb, eqb}
use lib.ListN.{length, length-map, length-append}
use Rattle.rules.specs.Words.{when, keep, row, below, sum}
use Rattle.rules.specs.Job.{Job, piece_count, desk, duration, desk_pieces}
use Rattle.rules.specs.Hours.{is_open}
use Rattle.rules.specs.Moments.{sooner}
use Rattle.rules.specs.Rings.{ring_piece}
use Rattle.rules.specs.Tables.{Sound}
use Rattle.rules.specs.Urgency.{worked, horizon}
use Rattle.rules.specs.Runs.{Run, runs_from, runs}
use Rattle.rules.specs.Entries.{raised}
use Rattle.rules.specs.Bytes.{result_record, run_record}
use Rattle.rules.specs.Plan.{desk_run_records, run_records, result_records, plan_bytes, plan_numbers}
use Rattle.laws.proofs.Words.{by_test, mem_below, length-below, sum_le, sum_same, map_same, on_tail}
use Rattle.laws.proofs.Joined.{sum_plus, map_twice, length-joined, mem_of_map, mem_of_joined}
use Rattle.laws.proofs.Sound.{fits}
use Rattle.laws.proofs.Hours.{always_open}
use Rattle.laws.proofs.Slots.{mem_desk_pieces, desk_pieces_mem, worked_chosen}
use Rattle.laws.proofs.Finishing.{all_finished}
use Rattle.laws.proofs.Bytes.{result_sized, run_sized, records_sized}
use Rattle.theory.proofs.Turns.{turns_of_lem, turns_of}
use Rattle.theory.proofs.RunCount.{runs_most}
use Rattle.theory.proofs.RunSlots.{slots_of, run_lengths}
use Rattle.theory.proofs.RunTruth.{TrueRun}
use Rattle.theory.proofs.RunOrder.{Rising, runs-true, runs_rising}
use Rattle.demands.specs.Accepted.{AcceptedAs}
use Rattle.demands.proofs.Accepting.{accepted_sound, accepted_free}
use Rattle.laws.proofs.Order.{itself}
use Rattle.demands.proofs.OneDesk.{pieces_distinct, urgency, had_here, desk_obeys}

runs_are : (J : Job) (d : ℕ) → runs J d ≡ runs_from none (turns_of (is_open J d) (worked J d) (horizon J))
unfolding runs
runs_are J d = ap (runs_from none) (turns_of_lem J d (worked J d) (horizon J))

module _ (J : Job) (sound : Sound J) (free : ring_piece J ≡ none) (d : ℕ) where
  -- The slots of piece i in the desk's runs.
  lengths : (i : ℕ) → Mem i (desk_pieces J d) → slots_of i (runs J d) ≡ duration J i
  lengths i m =
      rw (runs_are J d) (run_lengths (is_open J d) (worked J d) (λ t j e. always_open J d t) i (horizon J)
      ∙ omega (arith, had_here J sound free d (horizon J) i m, all_finished J sound free i (mem_desk_pieces J d i m).0))

  most : 1 ≤ length (desk_pieces J d) → length (runs J d) ≤ 2 * length (desk_pieces J d) - 1
  most h =
      rw (runs_are J d) (runs_most itself (raised J) (duration J) (is_open J d) (sooner J) (urgency J) (desk_pieces J d)
      (pieces_distinct J d) h (worked J d) (desk_obeys J sound free d) (horizon J))

  -- A desk without pieces has no runs.
  pub no_pieces_no_runs : length (desk_pieces J d) ≡ 0 → length (runs J d) ≡ 0
  no_pieces_no_runs z = go (runs J d) refl
    where
      nobody : (i : ℕ) → Mem i (desk_pieces J d) → ⊥
      nobody i m = empty (desk_pieces J d) z i m
        where
          empty : (l : List ℕ) → length l ≡ 0 → (i : ℕ) → Mem i l → ⊥
          empty [] e i n = elim n [ ]
          empty (x ∷ xs) e i n = omega arith

      go : (rs : List Run) → runs J d ≡ rs → length rs ≡ 0
      go [] e = refl
      go (r ∷ rs) e =
          let q : runs_from none (turns_of (is_open J d) (worked J d) (horizon J)) ≡ r ∷ rs = sym (runs_are J d) ∙ e in
          let t = runs-true (is_open J d) (worked J d) (horizon J) r (rw q (here refl)) in
          let c = (worked_chosen J d r.from r.piece t.begins).waits in
          absurd (nobody r.piece (desk_pieces_mem J d r.piece c.inside c.at_desk))

  pub runs_few : length (runs J d) ≤ 2 * length (desk_pieces J d)
  runs_few = by_test (ltb 0 (length (desk_pieces J d)))
      (λ e. omega (arith, most (ltb-true 0 _ e)))
      (λ e. omega (arith, no_pieces_no_runs (omega (arith, ltb-false 0 (length (desk_pieces J d)) e))))

-- Each piece is on one desk: the desks' pieces are all pieces.
bit : Bool → ℕ
bit b = when b 1 0

keep_count : {A : Type 0} (p : A → Bool) (x : A) (l : List A) → length (keep p (x ∷ l)) ≡ bit (p x) + length (keep p l)
unfolding keep bit when
keep_count p x l = by_test (p x) (λ e. rw (e, when) (omega arith)) (λ e. rw (e, when) (omega arith))

no_desk : (d n a : ℕ) → d < a → sum (map (λ e. bit (eqb d e)) (row a n)) ≡ 0
unfolding row sum bit when
no_desk d zero a h = refl
no_desk d (suc n) a h =
    let z : eqb d a ≡ false = ne_eqb d a (λ e. absurd (omega (arith, e))) in
    rw (z, when) (omega (arith, no_desk d n (suc a) (omega arith)))

one_desk : (d n a : ℕ) → a ≤ d → d < a + n → sum (map (λ e. bit (eqb d e)) (row a n)) ≡ 1
unfolding row sum bit when
one_desk d zero a h k = absurd (omega arith)
one_desk d (suc n) a h k = by_test (eqb d a)
    (λ e. rw (e, when) (omega (arith, no_desk d n (suc a) (omega (arith, eqb-true d a e)))))
    (λ e. let ne : d ≡ a → ⊥ = eqb-false d a e in
    rw (e, when) (omega (arith, one_desk d n (suc a) (omega arith) (omega arith))))

pub all_desks : (on : ℕ → ℕ) (l : List ℕ) → ((i : ℕ) → Mem i l → on i < 32)
    → sum (map (λ d. length (keep (λ i. eqb (on i) d) l)) (below 32)) ≡ length l
unfolding keep below
all_desks on [] h = sum_same 0 (below 32)
all_desks on (x ∷ xs) h =
    let split : map (λ d. length (keep (λ i. eqb (on i) d) (x ∷ xs))) (below 32)
    ≡ map (λ d. bit (eqb (on x) d) + length (keep (λ i. eqb (on i) d) xs)) (below 32) =
    map_same _ _ (below 32) (λ d m. keep_count (λ i. eqb (on i) d) x xs) in
    let ih : sum (map (λ d. length (keep (λ i. eqb (on i) d) xs)) (below 32)) ≡ length xs =
    all_desks on xs (on_tail x xs h) in
    ap sum split ∙ sum_plus (λ d. bit (eqb (on x) d)) (λ d. length (keep (λ i. eqb (on i) d) xs)) (below 32)
    ∙ omega (arith, one_desk (on x) 32 0 (omega arith) (omega (arith, h x (here refl))))

-- The pieces of the 32 desks are all pieces.
pub desks_have_all : (J : Job) → Sound J → sum (map (λ d. length (desk_pieces J d)) (below 32)) ≡ piece_count J
unfolding desk_pieces
desks_have_all J sound =
    all_desks (desk J) (below (piece_count J)) (λ i m. omega (arith, (fits J sound i (mem_below _ i m)).desk_most))
    ∙ length-below (piece_count J)

pub run_records_lem : (J : Job) → length (run_records J) ≡ sum (map (λ d. length (runs J d)) (below 32))
unfolding run_records desk_run_records
run_records_lem J =
    length-joined (map (desk_run_records J) (below 32)) ∙ ap sum (map_twice (desk_run_records J) length (below 32))
    ∙ ap sum (map_same _ (λ d. length (runs J d)) (below 32) (λ d m. length-map (runs J d) (run_record d)))

module _ (file : List ℕ) (J : Job) (accept : AcceptedAs file J) where
  -- The run lengths of a piece add to its duration.
  pub run_lengths_add_up : (d i : ℕ) → Mem i (desk_pieces J d) → slots_of i (runs J d) ≡ duration J i
  run_lengths_add_up d = lengths J (accepted_sound file J accept) (accepted_free file J accept) d

  -- A desk with m pieces, m at least 1, has at most 2m - 1 runs.
  pub at_most_2m_1_runs : (d : ℕ) → 1 ≤ length (desk_pieces J d) → length (runs J d) ≤ 2 * length (desk_pieces J d) - 1
  at_most_2m_1_runs d = most J (accepted_sound file J accept) (accepted_free file J accept) d

  -- The runs of a desk rise and do not overlap.
  pub runs_rise : (d : ℕ) → Rising (runs J d)
  runs_rise d = rw (runs_are J d) (runs_rising (is_open J d) (worked J d) (horizon J))

  -- In each slot of a run the desk works on its piece; the run is not empty, and counts its open slots.
  pub runs_are_true : (d : ℕ) (r : Run) → Mem r (runs J d) → TrueRun (is_open J d) (worked J d) r
  runs_are_true d r m = runs-true (is_open J d) (worked J d) (horizon J) r (rw (runs_are J d) at m)

  -- At most two runs for each piece, so result and run records fit 48 bytes for each piece.
  pub two_runs_a_piece : length (run_records J) ≤ 2 * piece_count J
  two_runs_a_piece =
      let sound = accepted_sound file J accept in
      let free = accepted_free file J accept in
      let each : sum (map (λ d. length (runs J d)) (below 32))
      ≤ sum (map (λ d. length (desk_pieces J d) + length (desk_pieces J d)) (below 32)) =
      sum_le (λ d. length (runs J d)) (λ d. length (desk_pieces J d) + length (desk_pieces J d)) (below 32)
      (λ d m. omega (arith, runs_few J sound free d)) in
      omega (
        arith,
        run_records_lem J,
        desks_have_all J sound,
        sum_plus (λ d. length (desk_pieces J d)) (λ d. length (desk_pieces J d)) (below 32),
      )

  results : (r : List ℕ) → Mem r (result_records J) → length r ≡ 16
  unfolding result_records
  results r m = let w = mem_of_map (result_record J) (below (piece_count J)) r m in rw w.2 (result_sized J w.0)

  any_run : (r : List ℕ) → Mem r (run_records J) → length r ≡ 16
  unfolding run_records desk_run_records
  any_run r m =
      let l = mem_of_joined (map (desk_run_records J) (below 32)) r m in
      let d = mem_of_map (desk_run_records J) (below 32) l.0 l.1 in
      let w = mem_of_map (run_record d.0) (runs J d.0) r (rw d.2 at l.2) in
      rw w.2 (run_sized d.0 w.0)

  -- The bytes written are 16 for each piece and each run that the answer counts.
  pub written_bytes : length (plan_bytes J) ≡ 16 * ((plan_numbers J).pieces + (plan_numbers J).runs)
  unfolding plan_bytes plan_numbers result_records run_records desk_run_records
  written_bytes =
      records_sized (result_records J ++ run_records J) sized
      ∙ ap (λ n. 16 * n) (length-append (result_records J) (run_records J)
      ∙ ap (λ n. n + length (run_records J)) (length-map (below (piece_count J)) (result_record J) ∙ length-below (piece_count J)))
    where
      sized : (r : List ℕ) → Mem r (result_records J ++ run_records J) → length r ≡ 16
      sized r m = ⊎_elim (results r) (any_run r) (Memᴰ.append_cases (result_records J) m)

  pub records_fit : length (plan_bytes J) ≤ 48 * piece_count J
  unfolding plan_numbers
  records_fit = omega (arith, written_bytes, two_runs_a_piece)
