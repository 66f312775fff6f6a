-- What is left of a piece once its desk worked on it stays, whatever the other desks do: each has a piece of its own. So
-- what is handed over may be told by the slots that are left in the end.
use Prim.Native.Nat.{ℕ, zero, suc, ◌+◌, ◌<◌, ◌≤◌}
use mathlib.Core.List.{List}
use mathlib.Core.Path.{◌≡◌, refl, sym, ap, ◌∙◌}
use native.Mathlib.Numerals.{add-one}
use native.Mathlib.Omega.{arith}
use borrow.Author.Tests.{ltb-true, ltb-false}
use lib.Dec.{ltb}
use lib.ListN.{get_or}
use lib.Seq.{get_or-set_other}
use lib.ListN.{set}
use Rattle.rules.specs.Job.{no_piece}
use Rattle.rules.specs.Tables.{durations_of, starts_of, finishes_of, no_span}
use Rattle.rules.specs.declared.Piece.{Piece}
use Rattle.rules.specs.declared.Span.{Span}
use Rattle.laws.proofs.Words.{by_test}
use Rattle.handing.specs.Open.{OnlyReady}
use Rattle.moving.proofs.Worked.{works_on, ready_stays}
use Rattle.moving.specs.Worked.{worked_state, worked_span}
use Rattle.steps.specs.States.{left_of, ready_of, no_state}
use Rattle.steps.specs.declared.State.{State}
use Rattle.steps.specs.Choice.{whom}
use Rattle.steps.specs.Handover.{Ties, Waiting, hand_on, hand_to}
use Rattle.steps.specs.Opening.{Hands, Working}
use Rattle.steps.specs.Work.{Work, work, forth, work_to}

module _ (durations : List ℕ) (t next count : ℕ) (chosen busy : List ℕ) (opened : ℕ) (table : List ℕ)
    (w : Working count chosen busy opened table) (v : Work) where
  abbrev left_after : ℕ → List ℕ
  left_after k = (work_to durations t next chosen busy k v).left

  left_later : (q k : ℕ) → q < k → k ≤ count → get_or (left_after k) (whom chosen busy q) 0
      ≡ get_or (left_after (suc q)) (whom chosen busy q) 0
  unfolding work_to
  left_later q zero h l = absurd (omega arith)
  left_later q (suc k) h l = by_test (ltb q k)
      (λ e. let b = ltb-true q k e in
      get_or-set_other (left_after k) (whom chosen busy k) (whom chosen busy q) _ 0
      (λ z. let y : q ≡ k = w.apart q k (omega arith) (omega arith) z in omega arith)
      ∙ left_later q k b (omega arith))
      (λ e. let z : q ≡ k = omega (arith, ltb-false q k e) in rw z refl)

  pub left_stays : (q : ℕ) → q < count
      → get_or (left_after (q + 1)) (whom chosen busy q) 0 ≡ get_or (left_after count) (whom chosen busy q) 0
  left_stays q h = rw (add-one q) (sym (left_later q count h (omega arith)))

-- What is handed over of piece i asks for nothing but what is left of it.
pub hands_by : (l : Ties) (m c : ℕ) (left left' : List ℕ) (i : ℕ) (s : Waiting) → get_or left i 0 ≡ get_or left' i 0
    → hand_on l m c left i s ≡ hand_on l m c left' i s
unfolding hand_on
hands_by l m c left left' i s e = rw e

pub opens_by : (m : ℕ) (afters : List ℕ) (i : ℕ) (left left' : List ℕ) (opened : ℕ) (table place waits : List ℕ)
    (opened₂ : ℕ) (table₂ place₂ waits₂ : List ℕ) → get_or left i 0 ≡ get_or left' i 0
    → Hands m afters i left opened table place waits opened₂ table₂ place₂ waits₂
    → Hands m afters i left' opened table place waits opened₂ table₂ place₂ waits₂
opens_by m afters i left left' opened table place waits opened₂ table₂ place₂ waits₂ e h = record {
  opening = λ n U U' few one others own. h.opening n U U' few one others (own ∙ sym (ap (λ x. ltb 0 x) e));
  stays = h.stays;
}

-- All desks looked at.
pub handed_end : (l : Ties) (m c : ℕ) (left rest chosen busy : List ℕ) (q count : ℕ) (s r : Waiting) → q ≡ count
    → rest ≡ left → r ≡ hand_to l m c left chosen busy q s → r ≡ hand_to l m c rest chosen busy count s
handed_end l m c left rest chosen busy q count s r e x h = rw (x, ← e) h

-- One desk's piece worked on and handed over, with what the code made of its state and of its span.
module _ (ps : List Piece) (t next i : ℕ) (xs zs : List State) (ws : List Span) (x : State) (y : Span)
    (state_is : x ≡ worked_state t next (get_or xs i no_state))
    (span_is : y ≡ worked_span t next (get_or ps i no_piece) (get_or xs i no_state) (get_or ws i no_span))
    (only : OnlyReady (set xs i x) zs) where
  pub worked_then : work (left_of zs) (starts_of (set ws i y)) (finishes_of (set ws i y))
      ≡ forth (durations_of ps) t next i (work (left_of xs) (starts_of ws) (finishes_of ws))
  worked_then = rw (only.left_stays, state_is, span_is) (works_on ps t next i xs ws)

  pub ready_then : ready_of (set xs i x) ≡ ready_of xs
  ready_then = rw state_is (ready_stays ps t next i xs ws)
