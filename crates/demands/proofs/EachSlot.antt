-- Demand 2, slot by slot: in every slot a desk works on piece i exactly if i is on it, ready, unfinished and sooner than
-- every other such piece; it rests exactly if there is none.
use Prim.Native.Nat.{ℕ, ◌<◌}
use mathlib.Core.Bool.{true}
use mathlib.Core.List.{List, Memᴰ as Mem}
use mathlib.Core.Logic.{◌↔◌}
use mathlib.Core.Option.{none, some}
use mathlib.Core.Path.{◌≡◌}
use native.Mathlib.Omega.{arith}
use Rattle.rules.specs.Job.{Job, piece_count, piece, desk, links_into}
use Rattle.rules.specs.Moments.{sooner}
use Rattle.rules.specs.Rings.{ring_piece}
use Rattle.rules.specs.Tables.{Sound}
use Rattle.rules.specs.Urgency.{is_ready, work_at, worked, finish}
use Rattle.rules.specs.declared.Link.{Link}
use Rattle.laws.proofs.Sound.{into_link, link_fit}
use Rattle.laws.proofs.Slots.{Waits, choice-none, chosen_choice, resting_choice, worked_chosen, ready_release}
use Rattle.laws.proofs.Slots.{ready_before, ready_intro, handed_fact, fact_handed}
use Rattle.laws.proofs.Hours.{always_open}
use Rattle.laws.proofs.Progress.{left_at}
use Rattle.demands.specs.Accepted.{AcceptedAs}
use Rattle.demands.specs.EverySlot.{ReadyAt, MayWork, MostUrgent}
use Rattle.demands.proofs.Accepting.{accepted_sound, accepted_free}
use Rattle.demands.proofs.Finishes.{left_and_had, finish_settled, finished_at_finish, finished_once, finished_by}

module _ (J : Job) (sound : Sound J) (free : ring_piece J ≡ none) where
  before_inside : (i : ℕ) (l : Link) → Mem l (links_into J i) → l.before < piece_count J
  before_inside i l m = (link_fit J sound l (into_link J i l m).0).before_one

  -- The plan's test for ready pieces is the page's word.
  pub ready_is_ready : (t i : ℕ) → is_ready J (work_at J t) t i ≡ true → ReadyAt J t i
  ready_is_ready t i h = record {
    released = ready_release J (work_at J t) t i h;
    handed = λ l m.
        let w = handed_fact J (work_at J t) t l (ready_before J (work_at J t) t i h l m) in
        let b = before_inside i l m in (
          finish J l.before,
          finished_at_finish J sound free l.before b,
          omega (arith, w.1, finish_settled J sound free t l.before b w.0),
        );
  }

  pub ready_tested : (t i : ℕ) → ReadyAt J t i → is_ready J (work_at J t) t i ≡ true
  ready_tested t i r = ready_intro J (work_at J t) t i r.released
      (λ l m.
      let w = r.handed l m in
      let b = before_inside i l m in
      let c : w.0 ≡ finish J l.before = finished_once J sound free l.before w.0 b w.1 in
      let z : left_at J t l.before ≡ 0 = finished_by J sound free t l.before b (omega (arith, w.2)) in
      fact_handed J (work_at J t) t l z (omega (arith, w.2, finish_settled J sound free t l.before b z)))

  pub waits_may : (d t i : ℕ) → Waits J (work_at J t) d t i → MayWork J d t i
  waits_may d t i w = record {
    opened = always_open J d t;
    inside = w.inside;
    at_desk = w.at_desk;
    ready_then = ready_is_ready t i w.ready_then;
    unfinished = omega (arith, w.unfinished, left_and_had J t i w.inside);
  }

  pub may_waits : (d t i : ℕ) → MayWork J d t i → Waits J (work_at J t) d t i
  may_waits d t i m = record {
    inside = m.inside;
    at_desk = m.at_desk;
    unfinished = omega (arith, m.unfinished, left_and_had J t i m.inside);
    ready_then = ready_tested t i m.ready_then;
  }

-- DEMAND 2. In every slot of an accepted file's plan each desk works on the most urgent piece that it may work on.
pub works_on_the_most_urgent : (file : List ℕ) (J : Job) → AcceptedAs file J → (d t i : ℕ)
    → (worked J d t ≡ some i) ↔ MostUrgent J d t i
unfolding worked
works_on_the_most_urgent file J accept d t i = (there, back)
  where
    sound : Sound J
    sound = accepted_sound file J accept

    free : ring_piece J ≡ none
    free = accepted_free file J accept

    there : worked J d t ≡ some i → MostUrgent J d t i
    there h =
        let c = worked_chosen J d t i h in
        record {
          may = waits_may J sound free d t i c.waits;
          before_all = λ j m ne. c.first j (may_waits J sound free d t j m) ne;
        }

    back : MostUrgent J d t i → worked J d t ≡ some i
    back u = chosen_choice J (work_at J t) d t i (record {
      opened = u.may.opened;
      waits = may_waits J sound free d t i u.may;
      first = λ j w ne. u.before_all j (waits_may J sound free d t j w) ne;
    })

-- It rests only if there is none, and then it does.
pub rests_only_if_none_is_ready : (file : List ℕ) (J : Job) → AcceptedAs file J → (d t : ℕ)
    → (worked J d t ≡ none) ↔ ((i : ℕ) → MayWork J d t i → ⊥)
unfolding worked
rests_only_if_none_is_ready file J accept d t = (there, back)
  where
    sound : Sound J
    sound = accepted_sound file J accept

    free : ring_piece J ≡ none
    free = accepted_free file J accept

    there : worked J d t ≡ none → (i : ℕ) → MayWork J d t i → ⊥
    there h i m = choice-none J (work_at J t) d t m.opened h i (may_waits J sound free d t i m)

    back : ((i : ℕ) → MayWork J d t i → ⊥) → worked J d t ≡ none
    back n = resting_choice J (work_at J t) d t (λ i w. n i (waits_may J sound free d t i w))
