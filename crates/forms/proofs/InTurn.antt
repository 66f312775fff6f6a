-- Rows judged one after another: what is left to judge gives the whole answer. Told of rows of any kind, with the job
-- that the rows before each make.
use Rattle.std.specs.Prelude.{ℕ, suc, ◌+◌, ◌-◌, ◌<◌, List, [], ◌∷◌, ◌++◌, map, ◌≡◌, length}
use Rattle.std.proofs.Common.{arith, sym, ap, ◌∙◌}
use native.Mathlib.Numerals.{add-one}
use lib.ListN.{length-map}
use Rattle.rules.specs.Words.{row, below}
use Rattle.rules.specs.Job.{Job, Outcome, refused}
use Rattle.rules.specs.Told.{number_of}
use Rattle.rules.specs.Form.{offer_fault, take_all}
use Rattle.rules.specs.Answers.{Item}
use Rattle.rules.specs.declared.fault.Fault.{Fault}
use Rattle.judge.proofs.InTurn.{is_fault}
use Rattle.laws.proofs.Words.{length-below}
use Rattle.laws.proofs.Joined.{map_append, below_more}
use Rattle.laws.proofs.Offers.{taken_first, refused_first}
use Rattle.forms.specs.Rows.{AddsInTurn}

-- How many there are.
pub rows_count : {A : Type 0} (f : ℕ → A) (n : ℕ) → length (map f (below n)) ≡ n
rows_count f n = length-map (below n) f ∙ length-below n

-- One more of a table over the numbers below n.
map_more : {A : Type 0} (f : ℕ → A) (n : ℕ) → map f (below n) ++ (f n ∷ []) ≡ map f (below (n + 1))
map_more f n =
    sym (ap (λ k. map f (below k)) (add-one n) ∙ ap (map f) (below_more n) ∙ map_append f (below n) (n ∷ []))

-- n rows from place `from` of the file on, behind J, with more offered behind them.
module _ {E : Type 0} (item : E → Item) (said : ℕ → E) (J : Job) (from n : ℕ) (xs : List Item) where
  abbrev pub offer : ℕ → Item
  offer i = item (said i)

  abbrev pub whole : Outcome
  whole = take_all (map offer (below n) ++ xs) from J

  -- The judgement from row i on, with K before it.
  abbrev pub rest : ℕ → Job → Outcome
  rest i K = take_all (map offer (row i (n - i)) ++ xs) (from + i) K

  at_row : (i : ℕ) → i < n → map offer (row i (n - i)) ≡ offer i ∷ map offer (row (i + 1) (n - (i + 1)))
  unfolding row
  at_row i h =
      let q : n - i ≡ suc (n - (i + 1)) = omega arith in
      ap (λ m. map offer (row i m)) q
      ∙ ap (λ j. offer i ∷ map offer (row j (n - (i + 1)))) (sym (add-one i))

  -- The job that the rows before row i make.
  module _ {added : Job → List E → Job} (adds : AddsInTurn item added) where
    abbrev pub so_far : ℕ → Job
    so_far i = added J (map said (below i))

    pub judge_start : whole ≡ rest 0 (so_far 0)
    unfolding below
    judge_start =
        let z : n ≡ n - 0 = omega arith in
        let y : from ≡ from + 0 = omega arith in
        ap (λ m. take_all (map offer (row 0 m) ++ xs) from J) z
        ∙ ap (λ k. take_all (map offer (row 0 (n - 0)) ++ xs) k J) y
        ∙ ap (take_all (map offer (row 0 (n - 0)) ++ xs) (from + 0)) (sym (adds.none J))

    module _ (i : ℕ) (h : i < n) (now : whole ≡ rest i (so_far i)) (e : E) (here : e ≡ said i) where
      abbrev later : List Item
      later = map offer (row (i + 1) (n - (i + 1))) ++ xs

      fault_here : offer_fault (so_far i) (item e) ≡ offer_fault (so_far i) (offer i)
      fault_here = ap (λ x. offer_fault (so_far i) (item x)) here

      pub judge_on : 0 ≡ offer_fault (so_far i) (item e) → whole ≡ rest (i + 1) (so_far (i + 1))
      judge_on fine =
          let q : from + i + 1 ≡ from + (i + 1) = omega arith in
          now
          ∙ ap (λ l. take_all (l ++ xs) (from + i) (so_far i)) (at_row i h)
          ∙ taken_first (offer i) later (from + i) (so_far i) (sym (fine ∙ fault_here))
          ∙ adds.one (said i) (so_far i) (λ K. take_all later (from + i + 1) K)
          ∙ ap (take_all later (from + i + 1))
          (adds.more J (map said (below i)) (said i ∷ []) ∙ ap (added J) (map_more said i))
          ∙ ap (λ k. take_all later k (so_far (i + 1))) q

      pub judge_stops : (fault : Fault) → number_of fault ≡ offer_fault (so_far i) (item e)
          → whole ≡ refused (record { number = number_of fault; place = from + i })
      judge_stops fault found =
          now
          ∙ ap (λ l. take_all (l ++ xs) (from + i) (so_far i)) (at_row i h)
          ∙ refused_first (offer i) later (from + i) (so_far i) (number_of fault) (found ∙ fault_here) (is_fault fault)

    pub judge_ends : (i : ℕ) → i ≡ n → whole ≡ rest i (so_far i) → whole ≡ take_all xs (from + n) (so_far n)
    unfolding row
    judge_ends i done now =
        let z : n - n ≡ 0 = omega arith in
        now ∙ ap (λ k. rest k (so_far k)) done ∙ ap (λ m. take_all (map offer (row n m) ++ xs) (from + n) (so_far n)) z
