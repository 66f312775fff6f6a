-- Records written one behind the other: each stands 16 bytes behind the one before, and a record more is one store
-- more.
use Prim.Native.Nat.{ℕ, zero, suc, ◌+◌, ◌-◌, ◌*◌, ◌≤◌, ◌<◌}
use mathlib.Core.Bool.{true, false}
use mathlib.Core.List.{List, ◌++◌, map}
use mathlib.Core.Path.{◌≡◌, refl, sym, ap, ◌∙◌}
use native.Mathlib.Omega.{arith}
use native.Mathlib.Numerals.{add-one}
use lib.IntN.{ℤ, pos}
use lib.ListN.{length, get_or, length-append, length-map}
use lib.Dec.{eqb}
use Rattle.rules.specs.Words.{keep, below, joined}
use Rattle.rules.specs.Bytes.{word, signed_word, plan_record, run_record, last_word}
use Rattle.steps.specs.Log.{run_at, logged_runs}
use Rattle.laws.proofs.Words.{by_test, length-below}
use Rattle.laws.proofs.Joined.{joined_more, kept_more, not_kept_more, map_twice, mem_of_map}
use Rattle.laws.proofs.Bytes.{word_sized, signed_sized, record_sized, run_sized, records_sized}
use Rattle.records.specs.Puts.{Puts}
use Rattle.records.specs.declared.lent.Lent.{Lent}
use Rattle.records.proofs.PutLaws.{nothing_put, puts_on, puts_as}
use Rattle.output.specs.Written.{result_in, results_in, desk_runs_in, Logged}

module _ (desks starts finishes : List ℕ) (latests : List ℤ) where
  pub result_is : (i : ℕ) → result_in desks starts finishes latests i
      ≡ plan_record 17 (get_or desks i 0) i (word (get_or starts i 0)) (word (get_or finishes i 0))
      (signed_word (get_or latests i (pos 0)))
  unfolding result_in
  result_is i = refl

  result_length : (i : ℕ) → length (result_in desks starts finishes latests i) ≡ 16
  unfolding result_in
  result_length i =
      record_sized 17 (get_or desks i 0) i (word (get_or starts i 0)) (word (get_or finishes i 0))
      (signed_word (get_or latests i (pos 0)))
      (word_sized (get_or starts i 0)) (word_sized (get_or finishes i 0)) (signed_sized (get_or latests i (pos 0)))

  pub results_length : (n : ℕ) → length (results_in n desks starts finishes latests) ≡ 16 * n
  unfolding results_in
  results_length n =
      records_sized (map (result_in desks starts finishes latests) (below n))
      (λ r m.
      let w = mem_of_map (result_in desks starts finishes latests) (below n) r m in
      rw w.2 (result_length w.0))
      ∙ ap (λ x. 16 * x) (length-map (below n) (result_in desks starts finishes latests) ∙ length-below n)

  -- One record more.
  pub results_step : {old mid new : Lent} (i w : ℕ) → Puts old (results_in i desks starts finishes latests) mid
      → word w ≡ signed_word (get_or latests i (pos 0))
      → Puts mid (plan_record 17 (get_or desks i 0) i (word (get_or starts i 0)) (word (get_or finishes i 0)) (word w)) new
      → Puts old (results_in (i + 1) desks starts finishes latests) new
  unfolding results_in
  results_step i w before signed put =
      puts_as (puts_on before (puts_as put (
      ap (plan_record 17 (get_or desks i 0) i (word (get_or starts i 0)) (word (get_or finishes i 0))) signed
      ∙ sym (result_is i))))
      (sym (ap (λ k. joined (map (result_in desks starts finishes latests) (below k))) (add-one i)
      ∙ joined_more (result_in desks starts finishes latests) i))

module _ (desks pieces froms untils : List ℕ) (d : ℕ) where
  -- The places of the desk's runs among the first n of the log.
  own : ℕ → List ℕ
  own n = keep (λ k. eqb (get_or desks (get_or pieces k 0) 0) d) (below n)

  -- The run at place k of the log is of the desk, or it is not.
  pub run_more : (k : ℕ) → eqb (get_or desks (get_or pieces k 0) 0) d ≡ true
      → desk_runs_in (suc k) desks pieces froms untils d
      ≡ desk_runs_in k desks pieces froms untils d ++ run_record d (run_at pieces froms untils k)
  unfolding desk_runs_in logged_runs own
  run_more k e =
      ap joined (map_twice (run_at pieces froms untils) (run_record d) (own (suc k)))
      ∙ kept_more (λ k. eqb (get_or desks (get_or pieces k 0) 0) d) (λ k. run_record d (run_at pieces froms untils k)) k e
      ∙ ap (λ l. joined l ++ run_record d (run_at pieces froms untils k))
      (sym (map_twice (run_at pieces froms untils) (run_record d) (own k)))

  pub run_passed : (k : ℕ) → eqb (get_or desks (get_or pieces k 0) 0) d ≡ false
      → desk_runs_in (suc k) desks pieces froms untils d ≡ desk_runs_in k desks pieces froms untils d
  unfolding desk_runs_in logged_runs keep below
  run_passed k e =
      ap (λ l. joined (map (run_record d) (map (run_at pieces froms untils) l)))
      (not_kept_more (λ k. eqb (get_or desks (get_or pieces k 0) 0) d) k e)

  -- More of the log, more bytes.
  pub runs_grow : (k n : ℕ) → length (desk_runs_in k desks pieces froms untils d)
      ≤ length (desk_runs_in (k + n) desks pieces froms untils d)
  runs_grow k zero = let q : k + 0 ≡ k = omega arith in rw q (omega arith)
  runs_grow k (suc n) =
      let q : k + suc n ≡ suc (k + n) = omega arith in
      let ih : length (desk_runs_in k desks pieces froms untils d)
      ≤ length (desk_runs_in (k + n) desks pieces froms untils d) =
      runs_grow k n in
      by_test (eqb (get_or desks (get_or pieces (k + n) 0) 0) d)
      (λ e. rw (
        q,
        run_more (k + n) e,
        length-append (desk_runs_in (k + n) desks pieces froms untils d)
            (run_record d (run_at pieces froms untils (k + n))),
      ) (omega arith))
      (λ e. rw (q, run_passed (k + n) e) ih)

  -- A run of the desk among the first `count` has room for its record.
  pub run_room : (k count : ℕ) → k < count → eqb (get_or desks (get_or pieces k 0) 0) d ≡ true
      → length (desk_runs_in k desks pieces froms untils d) + 16 ≤ length (desk_runs_in count desks pieces froms untils d)
  run_room k count h e =
      let q : suc k + (count - suc k) ≡ count = omega arith in
      let grown : length (desk_runs_in (suc k) desks pieces froms untils d)
      ≤ length (desk_runs_in count desks pieces froms untils d) =
      rw q at (runs_grow (suc k) (count - suc k)) in
      omega (
        arith,
        ap length (run_more k e),
        length-append (desk_runs_in k desks pieces froms untils d)
            (run_record d (run_at pieces froms untils k)),
        run_sized d (run_at pieces froms untils k),
      )

  run_is : (k : ℕ) → run_record d (run_at pieces froms untils k)
      ≡ plan_record 18 d (get_or pieces k 0) (word (get_or froms k 0)) (word (get_or untils k 0)) (word 0)
  unfolding run_record last_word
  run_is k = refl

  pub none_logged : (old : Lent) → Logged desks pieces froms untils d old 0 old
  unfolding desk_runs_in logged_runs keep below
  none_logged old = nothing_put old

  pub one_logged : {old mid new : Lent} (k : ℕ) → Logged desks pieces froms untils d old k mid
      → eqb (get_or desks (get_or pieces k 0) 0) d ≡ true
      → Puts mid (plan_record 18 d (get_or pieces k 0) (word (get_or froms k 0)) (word (get_or untils k 0)) (word 0)) new
      → Logged desks pieces froms untils d old (k + 1) new
  one_logged k l e put = rw add-one (puts_as (puts_on l (puts_as put (sym (run_is k)))) (sym (run_more k e)))

  pub one_passed : {old mid : Lent} (k : ℕ) → Logged desks pieces froms untils d old k mid
      → eqb (get_or desks (get_or pieces k 0) 0) d ≡ false → Logged desks pieces froms untils d old (k + 1) mid
  one_passed k l e = rw add-one (puts_as l (sym (run_passed k e)))
