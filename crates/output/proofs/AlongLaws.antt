-- The run records of one desk put along its chain: what is put is what the log holds of the desk before the run that the
-- chain has come to.
use Prim.Native.Nat.{ℕ, ◌+◌, ◌-◌, ◌≤◌, ◌<◌}
use mathlib.Core.Bool.{true}
use mathlib.Core.List.{List}
use mathlib.Core.Path.{◌≡◌, sym, ap, subst, ◌∙◌}
use native.Mathlib.Omega.{arith}
use borrow.Author.Tests.{eqb-true}
use lib.Dec.{eqb}
use lib.ListN.{length, get_or}
use Rattle.rules.specs.Bytes.{word, plan_record}
use Rattle.records.specs.Puts.{Puts}
use Rattle.records.specs.declared.lent.Lent.{Lent}
use Rattle.output.specs.Chained.{desk_at, next_run, RunsChained}
use Rattle.output.specs.Written.{desk_runs_in, Logged}
use Rattle.output.proofs.ChainedLaws.{ahead, ahead_less, to_the_end, to_the_next}
use Rattle.output.proofs.WrittenLaws.{none_logged, one_logged, one_passed, run_room}

module _ (count : ℕ) (desks pieces froms untils : List ℕ) (d : ℕ) (old : Lent) where
  pub record Along (buf : Lent) (run : ℕ) : Type 0 where
    pub done : ℕ
    pub few : done ≤ count
    pub logged : Logged desks pieces froms untils d old done buf
    pub onward : run ≡ next_run desks pieces d (count - done) done

  -- The chain has come to the run at place k.
  pub record Here (buf : Lent) (k : ℕ) : Type 0 where
    pub place : k < count
    pub own : eqb (desk_at desks pieces k) d ≡ true
    pub logged : Logged desks pieces froms untils d old k buf
    pub room : length (desk_runs_in k desks pieces froms untils d) + 16
        ≤ length (desk_runs_in count desks pieces froms untils d)

  pub along_start : (run : ℕ) → run ≡ next_run desks pieces d (count - 0) 0 → Along old run
  along_start run e = record {
    done = 0;
    few = omega arith;
    logged = none_logged desks pieces froms untils d old;
    onward = e;
  }

module _ {count : ℕ} {desks pieces froms untils : List ℕ} {d : ℕ} {old buf : Lent} where
  pub along_here : {run : ℕ} (k : ℕ) → Along count desks pieces froms untils d old buf run → run ≡ k + 1
      → Here count desks pieces froms untils d old buf k
  along_here k a e =
      let on = to_the_next desks pieces d (λ j. Logged desks pieces froms untils d old j buf)
      (λ j t l. one_passed desks pieces froms untils d j l t) (count - a.done) a.done k
      (sym a.onward ∙ e) a.logged in
      let here : k < count = omega (arith, on.within, a.few) in
      record {
        place = here;
        own = on.own;
        logged = on.holds;
        room = run_room desks pieces froms untils d k count here on.own;
      }

  pub along_end : {run : ℕ} → Along count desks pieces froms untils d old buf run → run ≡ 0
      → Logged desks pieces froms untils d old count buf
  along_end a e =
      let q : a.done + (count - a.done) ≡ count = omega (arith, a.few) in
      subst (λ j. Logged desks pieces froms untils d old j buf) q
      (to_the_end desks pieces d (λ j. Logged desks pieces froms untils d old j buf)
      (λ j t l. one_passed desks pieces froms untils d j l t) (count - a.done) a.done
      (sym a.onward ∙ e) a.logged)

  -- Past the run that the chain has come to.
  module _ {k : ℕ} {first later : List ℕ} (chained : RunsChained desks pieces count 0 first later)
      (h : Here count desks pieces froms untils d old buf k) where
    pub along_on : {new : Lent}
        → Puts buf (plan_record 18 d (get_or pieces k 0) (word (get_or froms k 0)) (word (get_or untils k 0)) (word 0)) new
        → Along count desks pieces froms untils d old new (get_or later k 0)
    along_on put = record {
      done = k + 1;
      few = omega (arith, h.place);
      logged = one_logged desks pieces froms untils d k h.logged h.own put;
      onward = chained.goes_on k (omega arith) h.place
          ∙ ap (λ x. next_run desks pieces x (count - (k + 1)) (k + 1)) (eqb-true (desk_at desks pieces k) d h.own);
    }

    pub along_less : (run : ℕ) → run ≡ k + 1 → ahead count (get_or later k 0) < ahead count run
    along_less run e =
        ahead_less desks pieces count (desk_at desks pieces k) (count - (k + 1)) k run (get_or later k 0) h.place e
        (chained.goes_on k (omega arith) h.place)
