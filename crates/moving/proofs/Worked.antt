-- One piece worked on, as its state and its span are, and as the tables of all pieces are; and one desk more.
use Rattle.std.specs.Prelude.{ℕ, ◌+◌, ◌-◌, List, ◌≡◌, eqb, get_or, set}
use Rattle.std.proofs.Common.{refl, ◌∙◌, add-one}
use Rattle.std.proofs.lemmas.List.{map-set}
use Rattle.std.proofs.Math.ListN.{get_or-map}
use Rattle.std.proofs.Math.Seq.{map-set_same}
use Rattle.rules.specs.Job.{no_piece}
use Rattle.rules.specs.Tables.{durations_of, starts_of, finishes_of, no_span}
use Rattle.rules.specs.Words.{when}
use Rattle.rules.specs.declared.Piece.{Piece}
use Rattle.rules.specs.declared.Span.{Span}
use Rattle.laws.proofs.Columns.{get_or-durations}
use Rattle.laws.proofs.Words.{by_test}
use Rattle.steps.specs.States.{left_of, ready_of, no_state}
use Rattle.steps.specs.Work.{Work, work, forth, work_to}
use Rattle.steps.specs.declared.State.{State}
use Rattle.moving.specs.Worked.{worked_state, worked_span}

module _ (ps : List Piece) (t next i : ℕ) (xs : List State) (ws : List Span) where
  abbrev state : State
  state = get_or xs i no_state

  abbrev pub states_after : List State
  states_after = set xs i (worked_state t next state)

  abbrev span : Span
  span = worked_span t next (get_or ps i no_piece) state (get_or ws i no_span)

  abbrev pub spans_after : List Span
  spans_after = set ws i span

  starts_after : starts_of spans_after ≡ when (eqb state.left (get_or ps i no_piece).duration) (set (starts_of ws) i t)
      (starts_of ws)
  unfolding when
  starts_after = by_test (eqb state.left (get_or ps i no_piece).duration)
      (λ e. map-set (λ w. w.start) ws i span ∙ rw e)
      (λ e. map-set_same (λ w. w.start) ws i span no_span (rw e) ∙ rw e)

  pub works_on : work (left_of states_after) (starts_of spans_after) (finishes_of spans_after)
      ≡ forth (durations_of ps) t next i (work (left_of xs) (starts_of ws) (finishes_of ws))
  works_on =
      let left : left_of states_after ≡ set (left_of xs) i (state.left - (next - t)) = map-set (λ x. x.left) xs i _ in
      let ends : finishes_of spans_after ≡ set (finishes_of ws) i next = map-set (λ w. w.finish) ws i span in
      let was : get_or (left_of xs) i 0 ≡ state.left = get_or-map (λ x. x.left) xs i no_state in
      rw (was, get_or-durations ps i, left, starts_after, ends)

  pub ready_stays : ready_of states_after ≡ ready_of xs
  ready_stays = map-set_same (λ x. x.ready) xs i _ no_state refl

pub work_more : (durations : List ℕ) (t next : ℕ) (chosen busy : List ℕ) (q : ℕ) (w v r : Work)
    → v ≡ work_to durations t next chosen busy q w
    → r ≡ forth durations t next (get_or chosen (get_or busy q 0) 0) v → r ≡ work_to durations t next chosen busy (q + 1) w
unfolding work_to
work_more durations t next chosen busy q w v r a b = rw (add-one q, ← a) b
