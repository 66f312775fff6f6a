-- The bytes of result and run records in terms of the tables of a finished plan: for each piece its desk, start, finish
-- and latest moment; for each run of the log its piece, its first slot and one past its last.
use Rattle.std.specs.Prelude.{ℕ, ◌≤◌, ◌<◌, List, map, ℤ, pos, get_or}
use Rattle.rules.specs.Words.{below, joined}
use Rattle.rules.specs.Bytes.{word, signed_word, plan_record, run_record}
use Rattle.steps.specs.Log.{logged_runs}
use Rattle.records.specs.Puts.{Puts}
use Rattle.records.specs.declared.lent.Lent.{Lent}

unfoldable pub result_in : List ℕ → List ℕ → List ℕ → List ℤ → ℕ → List ℕ
unfolding plan_record word signed_word
result_in desks starts finishes latests i =
    plan_record 17 (get_or desks i 0) i (word (get_or starts i 0)) (word (get_or finishes i 0))
    (signed_word (get_or latests i (pos 0)))

unfoldable pub results_in : ℕ → List ℕ → List ℕ → List ℕ → List ℤ → List ℕ
unfolding joined result_in below
results_in n desks starts finishes latests = joined (map (result_in desks starts finishes latests) (below n))

-- The run records of one desk out of the log.
unfoldable pub desk_runs_in : ℕ → List ℕ → List ℕ → List ℕ → List ℕ → ℕ → List ℕ
unfolding joined run_record logged_runs
desk_runs_in count desks pieces froms untils d = joined (map (run_record d) (logged_runs desks pieces froms untils count d))

-- The run records of the first desks.
unfoldable pub runs_in : ℕ → ℕ → List ℕ → List ℕ → List ℕ → List ℕ → List ℕ
unfolding joined desk_runs_in below
runs_in n count desks pieces froms untils = joined (map (desk_runs_in count desks pieces froms untils) (below n))

-- The log has at most 512 runs, of n pieces.
pub record LogFits (count : ℕ) (pieces : List ℕ) (n : ℕ) : Type 0 where
  pub few : count ≤ 512
  pub known : (k : ℕ) → k < count → get_or pieces k 0 < n

-- The records of desk d among the first k of the log are put.
abbrev pub Logged : List ℕ → List ℕ → List ℕ → List ℕ → ℕ → Lent → ℕ → Lent → Type 0
Logged desks pieces froms untils d old k new = Puts old (desk_runs_in k desks pieces froms untils d) new

-- The records of the first n desks are put.
abbrev pub AllLogged : ℕ → List ℕ → List ℕ → List ℕ → List ℕ → Lent → ℕ → Lent → Type 0
AllLogged count desks pieces froms untils old n new = Puts old (runs_in n count desks pieces froms untils) new
