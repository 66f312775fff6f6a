-- Who a desk worked on last. Unless that piece is finished it is waiting still, and the desk leaves it only for a piece
-- that was never worked on: an interruption is always by a piece that is begun with it.
use Prim.Native.Nat.{ℕ, zero, suc, ◌+◌, ◌<◌}
use mathlib.Core.Bool.{true}
use mathlib.Core.List.{List, [], ◌∷◌, ◌++◌}
use mathlib.Core.Option.{none, some}
use mathlib.Core.Path.{◌≡◌, refl, sym, ap, ◌∙◌}
use native.Mathlib.Omega.{arith}
use borrow.Author.Tests.{ltb-true, ltb-false}
use lib.Dec.{ltb}
use Rattle.rules.specs.Job.{Job, piece_count, piece, desk, duration}
use Rattle.rules.specs.Moments.{sooner}
use Rattle.rules.specs.Urgency.{is_ready, work_at, worked}
use Rattle.rules.specs.Runs.{Run}
use Rattle.rules.specs.Tables.{Sound}
use Rattle.laws.proofs.Words.{by_test, true_or_false}
use Rattle.laws.proofs.Sound.{into_link, link_fit}
use Rattle.laws.proofs.Hours.{always_open}
use Rattle.laws.proofs.Progress.{left_falls, left_whole, finished_for_good}
use Rattle.laws.proofs.Order.{sooner_asym}
use Rattle.laws.proofs.Slots.{Waits, by_choice, choice-none, worked_chosen, ready_release, ready_before, ready_intro}
use Rattle.laws.proofs.Slots.{handed_fact, fact_handed, work_start, work_off, by_work, none_or_some, some_inj}
use Rattle.slots.specs.Stretch.{at}
use Rattle.slots.specs.Growth.{goes_on_at, fresh_run, longer, grown, after_turn, runs_until, last_piece, last_end}
use Rattle.slots.specs.Growth.{last_on}
use Rattle.slots.proofs.Growth.{by_last, goes_on_lem, grown_on, grown_anew}

pub last_piece_lem : (A : List Run) (r : Run) → last_piece (A ++ (r ∷ [])) ≡ some r.piece
unfolding last_piece
last_piece_lem [] r = refl
last_piece_lem (x ∷ []) r = refl
last_piece_lem (x ∷ y ∷ A) r = last_piece_lem (y ∷ A) r

pub last_end_lem : (A : List Run) (r : Run) → last_end (A ++ (r ∷ [])) ≡ r.until
unfolding last_end
last_end_lem [] r = refl
last_end_lem (x ∷ []) r = refl
last_end_lem (x ∷ y ∷ A) r = last_end_lem (y ∷ A) r

-- The runs that have grown by slots on a piece end with a run of it, at the end of those slots.
pub grown_ends : (A : List Run) (i t k : ℕ) → (last_piece (grown A i t k) ≡ some i) × (last_end (grown A i t k) ≡ t + k)
unfolding grown last_piece last_end
grown_ends A i t k = by_last (λ l. (last_piece (grown l i t k) ≡ some i) × (last_end (grown l i t k) ≡ t + k)) A
    (refl, refl) more
  where
    more : (B : List Run) (r : Run)
        → (last_piece (grown (B ++ (r ∷ [])) i t k) ≡ some i) × (last_end (grown (B ++ (r ∷ [])) i t k) ≡ t + k)
    more B r = by_test (goes_on_at r i t)
        (λ e. let w = goes_on_lem r i t e in
        rw (grown_on B r i t k w.0 w.1)
        (last_piece_lem B (longer r k) ∙ ap some w.0, last_end_lem B (longer r k) ∙ ap (λ x. x + k) w.1))
        (λ e. rw (grown_anew B r i t k e)
        (last_piece_lem (B ++ (r ∷ [])) (fresh_run i t k), last_end_lem (B ++ (r ∷ [])) (fresh_run i t k)))

module _ (J : Job) where
  pub last_nobody : (d : ℕ) → last_on J d 0 ≡ none
  unfolding last_on runs_until last_piece
  last_nobody d = refl

  pub last_worked : (d t i : ℕ) → worked J d t ≡ some i → last_on J d (suc t) ≡ some i
  unfolding last_on runs_until after_turn
  last_worked d t i e = rw e (grown_ends (runs_until J d t) i t 1).0

  pub last_rested : (d t : ℕ) → worked J d t ≡ none → last_on J d (suc t) ≡ last_on J d t
  unfolding last_on runs_until after_turn
  last_rested d t e = rw e

  end_worked : (d t i : ℕ) → worked J d t ≡ some i → last_end (runs_until J d (suc t)) ≡ t + 1
  unfolding runs_until after_turn
  end_worked d t i e = rw e (grown_ends (runs_until J d t) i t 1).1

  -- It is a piece of the desk.
  pub last_inside : (d t i : ℕ) → last_on J d t ≡ some i → (i < piece_count J) × (desk J i ≡ d)
  last_inside d zero i h = none_or_some (sym (last_nobody d) ∙ h)
  last_inside d (suc t) i h = by_choice (worked J d t)
      (λ e. last_inside d t i (sym (last_rested d t e) ∙ h))
      (λ x e. let w = (worked_chosen J d t x e).waits in
      let q : x ≡ i = some_inj (sym (last_worked d t x e) ∙ h) in
      rw (← q) (w.inside, w.at_desk))

  -- Before a desk worked at all, nothing is worked off its pieces.
  pub untouched_yet : (d t i : ℕ) → last_on J d t ≡ none → i < piece_count J → desk J i ≡ d → (at J t i).left ≡ duration J i
  untouched_yet d zero i h l q = ap (λ p. p.left) (work_start J i)
  untouched_yet d (suc t) i h l q = by_choice (worked J d t)
      (λ e. ap (λ p. p.left) (work_off J t i l (λ w. none_or_some (sym e ∙ ap (λ x. worked J x t) (sym q) ∙ w)))
      ∙ untouched_yet d t i (sym (last_rested d t e) ∙ h) l q)
      (λ x e. none_or_some (sym h ∙ last_worked d t x e))

  module _ (sound : Sound J) where
    -- Who is ready stays so, and whoever is begun is ready.
    pub ready-stays : (t i : ℕ) → is_ready J (work_at J t) t i ≡ true → is_ready J (work_at J (suc t)) (suc t) i ≡ true
    ready-stays t i h =
        ready_intro J (work_at J (suc t)) (suc t) i (omega (arith, ready_release J (work_at J t) t i h))
        (λ l m. let f = handed_fact J (work_at J t) t l (ready_before J (work_at J t) t i h l m) in
        let b = (link_fit J sound l (into_link J i l m).0).before_one in
        let z : t + 1 ≡ suc t = omega arith in
        let s : at J (suc t) l.before ≡ at J t l.before = rw z at (finished_for_good J 1 t l.before b f.0) in
        fact_handed J (work_at J (suc t)) (suc t) l
        (ap (λ p. p.left) s ∙ f.0)
        (rw s (omega (arith, f.1))))

    pub begun-ready : (t i : ℕ) → i < piece_count J → (at J t i).left < duration J i → is_ready J (work_at J t) t i ≡ true
    begun-ready zero i h b = absurd (omega (arith, ap (λ p. p.left) (work_start J i)))
    begun-ready (suc t) i h b = by_work J t i
        (λ e. ready-stays t i (worked_chosen J (desk J i) t i e).waits.ready_then)
        (λ e. ready-stays t i (begun-ready t i h (rw (work_off J t i h e) at b)))

    -- Who a desk worked on last, while it is unfinished: its run has no gap behind it, it waits, and it goes before every
    -- other piece that was begun on the desk.
    pub record UnderWay (d t j : ℕ) : Type 0 where
      pub on_time : last_end (runs_until J d t) ≡ t
      pub waits : Waits J (work_at J t) d t j
      pub first : (i : ℕ) → i < piece_count J → desk J i ≡ d → (i ≡ j → ⊥) → (at J t i).left < duration J i
          → 0 < (at J t i).left → sooner J j i ≡ true

    -- The desk rested in slot t: what it worked on last would have been waiting.
    not_resting : (d t j : ℕ) → worked J d t ≡ none → UnderWay d t j → ⊥
    unfolding worked
    not_resting d t j e u = choice-none J (work_at J t) d t (always_open J d t) e j u.waits

    just_worked : (d t j : ℕ) → worked J d t ≡ some j → 0 < (at J (suc t) j).left → UnderWay d (suc t) j
    just_worked d t j e a =
        let c = worked_chosen J d t j e in
        record {
          on_time = end_worked d t j e ∙ later;
          waits = record {
            inside = c.waits.inside;
            at_desk = c.waits.at_desk;
            unfinished = a;
            ready_then = ready-stays t j c.waits.ready_then;
          };
          first = λ i h q ne b l.
              let s : at J (suc t) i ≡ at J t i =
              work_off J t i h (λ w. ne (some_inj (sym w ∙ ap (λ x. worked J x t) q ∙ e))) in
              c.first i
              (record {
                inside = h;
                at_desk = q;
                unfinished = rw s at l;
                ready_then = begun-ready t i h (rw s at b);
              }) ne;
        }
      where
        later : t + 1 ≡ suc t
        later = omega arith

    pub under_way_lem : (d t j : ℕ) → last_on J d t ≡ some j → 0 < (at J t j).left → UnderWay d t j
    under_way_lem d zero j h a = none_or_some (sym (last_nobody d) ∙ h)
    under_way_lem d (suc t) j h a = by_choice (worked J d t)
        (λ e. let k : last_on J d t ≡ some j = sym (last_rested d t e) ∙ h in
        absurd (not_resting d t j e (under_way_lem d t j k (omega (arith, left_falls J t j (last_inside d t j k).0)))))
        (λ x e. let q : x ≡ j = some_inj (sym (last_worked d t x e) ∙ h) in just_worked d t j (e ∙ ap some q) a)

    -- A desk leaves an unfinished piece only for one that was never worked on.
    pub leaves_for_new : (d t j i : ℕ) → last_on J d t ≡ some j → 0 < (at J t j).left → worked J d t ≡ some i → (i ≡ j → ⊥)
        → (at J t i).left ≡ duration J i
    leaves_for_new d t j i h a e ne =
        let u = under_way_lem d t j h a in
        let c = worked_chosen J d t i e in
        by_test (ltb (at J t i).left (duration J i))
        (λ b. true_or_false
        (sym (c.first j u.waits (λ z. ne (sym z)))
        ∙ sooner_asym J j i (u.first i c.waits.inside c.waits.at_desk ne (ltb-true _ _ b)
        c.waits.unfinished)))
        (λ b. omega (arith, ltb-false (at J t i).left (duration J i) b, left_whole J t i c.waits.inside))
