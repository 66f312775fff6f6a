-- The runs of a desk out of the log: what a run that begins and a run that goes on make of them.
use Prim.Native.Nat.{ℕ, zero, suc, ◌<◌}
use mathlib.Core.Bool.{Bool, true, false}
use mathlib.Core.List.{List, [], ◌∷◌, ◌++◌, map, map-append, append-nil}
use mathlib.Core.Path.{◌≡◌, refl, sym, ◌∙◌}
use native.Mathlib.Omega.{arith}
use borrow.Author.Tests.{eqb-true, eqb-false}
use lib.Dec.{eqb}
use lib.ListN.{get_or}
use Rattle.rules.specs.Words.{when, keep, below}
use Rattle.rules.specs.Runs.{Run}
use Rattle.laws.proofs.Words.{by_test}
use Rattle.steps.specs.Log.{run_at, logged_runs}
use Rattle.steps.proofs.Tables.{below_more}

keep_append : {A : Type 0} (p : A → Bool) (xs ys : List A) → keep p (xs ++ ys) ≡ keep p xs ++ keep p ys
unfolding keep
keep_append p [] ys = refl
keep_append p (x ∷ xs) ys = by_test (p x)
    (λ e. rw (e, when, keep_append p xs ys))
    (λ e. rw (e, when, keep_append p xs ys))

module _ (desks piece : List ℕ) where
  -- Place k of the log is a run of desk d.
  abbrev pub own_run : ℕ → ℕ → Bool
  own_run d k = eqb (get_or desks (get_or piece k 0) 0) d

module _ (desks piece from until : List ℕ) (d : ℕ) where
  abbrev own : ℕ → Bool
  own = own_run desks piece d

  abbrev run : ℕ → Run
  run = run_at piece from until

  pub none_logged : logged_runs desks piece from until 0 d ≡ []
  unfolding logged_runs below keep
  none_logged = refl

  -- One place more.
  pub own_more : (c : ℕ) → own c ≡ true
      → logged_runs desks piece from until (suc c) d ≡ logged_runs desks piece from until c d ++ (run c ∷ [])
  unfolding logged_runs keep
  own_more c e =
      rw (below_more c, keep_append own (below c) (c ∷ []))
      (map-append run (keep own (below c)) (keep own (c ∷ [])) ∙ rw (e, when))

  pub other_more : (c : ℕ) → own c ≡ false
      → logged_runs desks piece from until (suc c) d ≡ logged_runs desks piece from until c d
  unfolding logged_runs keep
  other_more c e =
      rw (below_more c, keep_append own (below c) (c ∷ []))
      (map-append run (keep own (below c)) (keep own (c ∷ [])) ∙ rw (e, when)
      (append-nil (map run (keep own (below c)))))

  -- The desk's last run stands at place k.
  pub last_logged : (c k : ℕ) → k < c → own k ≡ true → ((j : ℕ) → k < j → j < c → own j ≡ false)
      → logged_runs desks piece from until c d ≡ logged_runs desks piece from until k d ++ (run k ∷ [])
  last_logged zero k h e o = absurd (omega arith)
  last_logged (suc c) k h e o = by_test (eqb k c)
      (λ q. let z : k ≡ c = eqb-true k c q in rw z (own_more c (rw z at e)))
      (λ q. let ne = eqb-false k c q in
      other_more c (o c (omega arith) (omega arith)) ∙ last_logged c k (omega arith) e (λ j a b. o j a (omega arith)))

-- Two logs that have the same pieces at each place, and the same runs of desk d.
module _ (desks piece piece' from from' until until' : List ℕ) (d : ℕ) where
  pub logged_same : (c : ℕ) → ((k : ℕ) → k < c → get_or piece' k 0 ≡ get_or piece k 0)
      → ((k : ℕ) → k < c → own_run desks piece d k ≡ true → run_at piece' from' until' k ≡ run_at piece from until k)
      → logged_runs desks piece' from' until' c d ≡ logged_runs desks piece from until c d
  logged_same zero p r = none_logged desks piece' from' until' d ∙ sym (none_logged desks piece from until d)
  logged_same (suc c) p r =
      let ih = logged_same c (λ k h. p k (omega arith)) (λ k h. r k (omega arith)) in
      by_test (own_run desks piece d c)
      (λ e. own_more desks piece' from' until' d c (rw (p c (omega arith)) e)
      ∙ rw (ih, r c (omega arith) e) (sym (own_more desks piece from until d c e)))
      (λ e. other_more desks piece' from' until' d c (rw (p c (omega arith)) e)
      ∙ ih ∙ sym (other_more desks piece from until d c e))
