-- Demand 3, second half: no allowed plan of a desk's pieces has a smaller worst lateness than the plan has, and the plan
-- itself is allowed. It comes out of dominance: by every moment, as many slots on the pieces with latest moment at most x
-- as any allowed plan could have worked on them.
use Prim.Native.Nat.{ℕ, zero, suc, ◌≤◌}
use mathlib.Core.Bool.{true}
use mathlib.Core.List.{List, Memᴰ as Mem}
use mathlib.Core.Option.{Option, none, some}
use mathlib.Core.Path.{◌≡◌, refl}
use native.Mathlib.Omega.{arith}
use borrow.Author.Tests.{ltb-true, ltb-false}
use lib.Dec.{ltb}
use lib.IntN.{ℤ}
use lib.Signed.{le_z}
use Rattle.rules.specs.Words.{is_it}
use Rattle.rules.specs.Job.{Job, duration, desk_pieces}
use Rattle.rules.specs.Hours.{is_open, open_end}
use Rattle.rules.specs.Moments.{latest, sooner}
use Rattle.rules.specs.Rings.{linked, ring_piece}
use Rattle.rules.specs.Tables.{Sound}
use Rattle.rules.specs.Urgency.{worked, finish}
use Rattle.rules.specs.Entries.{ready, raised}
use Rattle.laws.proofs.Words.{by_test}
use Rattle.laws.proofs.Sound.{fits}
use Rattle.laws.proofs.Signed.{le_z_le, le_le_z}
use Rattle.laws.proofs.Order.{itself, sooner-latest}
use Rattle.laws.proofs.Hours.{always_open}
use Rattle.laws.proofs.Slots.{it_is, mem_desk_pieces, desk_pieces_mem, worked_chosen}
use Rattle.theory.proofs.Count.{cnt, cnt_hit}
use Rattle.theory.proofs.Allowed.{Allowed}
use Rattle.theory.proofs.Links.{Lin, Late, linked-raised}
use Rattle.theory.proofs.Finish.{Finish}
use Rattle.theory.proofs.Work.{on}
use Rattle.theory.proofs.Dominance.{obeys_dominates}
use Rattle.theory.proofs.Lateness.{worst_least}
use Rattle.demands.specs.Accepted.{AcceptedAs}
use Rattle.demands.specs.Allowed.{AllowedPlan, worst_lateness}
use Rattle.demands.proofs.Accepting.{accepted_sound, accepted_free}
use Rattle.demands.proofs.Finishes.{none_left, had_all, finished_at_finish}
use Rattle.demands.proofs.OneDesk.{pieces_distinct, desk_hours, urgency, had_here, waits_linked, raised_moments_lem}
use Rattle.demands.proofs.OneDesk.{desk_obeys}

module _ (J : Job) (sound : Sound J) (free : ring_piece J ≡ none) (d : ℕ) where
  some-work : (i : ℕ) → Mem i (desk_pieces J d) → 1 ≤ duration J i
  some-work i m = (fits J sound i (mem_desk_pieces J d i m).0).duration_least

  module _ (q : ℕ → Option ℕ) (ends : ℕ → ℕ) (a : AllowedPlan J d q ends) where
    -- An allowed plan too works on nothing before its raised ready moment.
    in_time : (t i : ℕ) → q t ≡ some i
        → Lin itself (ready J) (raised J) (duration J) (is_open J d) (open_end J d) (sooner J) (linked J) (desk_pieces J d) q t i
    in_time t i e =
        let m = a.own_pieces t i e in
        record {
          hour = a.open_slots t i e;
          ripe = a.when-ready t i e;
          left = omega (arith, a.no_more i (suc t) m, cnt_hit (λ s. is_it (q s) i) t (it_is _ i e));
          ahead = λ p k b. omega (arith, a.in_order t p i k b e);
        }

    late : (t : ℕ) → Late itself (ready J) (raised J) (duration J) (is_open J d) (open_end J d) (sooner J) (linked J) (desk_pieces J d) q t
    late zero s h i m e = absurd (omega arith)
    late (suc t) s h i m e = by_test (ltb s t)
        (λ k. late t s (ltb-true s t k) i m e)
        (λ k. let z : s ≡ t = omega (arith, ltb-false s t k) in
        let c = in_time s i e in (
          linked-raised itself (ready J) (raised J) (duration J) (is_open J d) (open_end J d) (sooner J) (linked J)
              (desk_pieces J d) q (desk_hours J d) (raised_moments_lem J sound free d) some-work s (rw (← z) at (late t)) i m c,
          c.hour,
        ))

    allowed_raised : Allowed itself (raised J) (duration J) (is_open J d) (desk_pieces J d) q
    allowed_raised = record {
      known = λ t i e. (i, a.own_pieces t i e, refl);
      hours = a.open_slots;
      after = λ i m t e. (late (suc t) t (omega arith) i m e).0;
      most = λ i m t. a.no_more i t m;
    }

    ends_are : (i : ℕ) → Mem i (desk_pieces J d) → Finish q i (duration J i) (ends i)
    ends_are i m = record {
      done = omega (arith, a.whole i m);
      first = λ t h. a.at_once i t m (omega (arith, a.no_more i t m));
    }

  finishes_are : (i : ℕ) → Mem i (desk_pieces J d) → Finish (worked J d) i (duration J i) (finish J i)
  finishes_are i m =
      let n = (mem_desk_pieces J d i m).0 in
      let f = finished_at_finish J sound free i n in
      record {
        done = omega (arith, had_here J sound free d (finish J i) i m, had_all J (finish J i) i n f.whole);
        first = λ t h. f.first t (none_left J t i n (omega (arith, had_here J sound free d t i m)));
      }

  -- The plan itself is one of the allowed plans.
  plan_allowed : AllowedPlan J d (worked J d) (finish J)
  plan_allowed = record {
    own_pieces = λ t i e. chosen_here t i e;
    open_slots = λ t i e. always_open J d t;
    when-ready = λ t i e. (lin t i e).ripe;
    in_order = λ t i j m b e. omega (arith, (lin t j e).ahead i m b, had_here J sound free d t i m);
    no_more = λ i t m. omega (arith, had_here J sound free d t i m);
    whole = λ i m. omega (arith, (finishes_are i m).done, had_here J sound free d (finish J i) i m);
    at_once = λ i t m h. (finishes_are i m).first t (omega arith);
  }
    where
      chosen_here : (t i : ℕ) → worked J d t ≡ some i → Mem i (desk_pieces J d)
      chosen_here t i e =
          let c = (worked_chosen J d t i e).waits in desk_pieces_mem J d i c.inside c.at_desk

      lin : (t i : ℕ) → worked J d t ≡ some i
          → Lin itself (ready J) (raised J) (duration J) (is_open J d) (open_end J d) (sooner J) (linked J)
          (desk_pieces J d) (worked J d) t i
      lin t i e = waits_linked J sound free d t i (chosen_here t i e) (worked_chosen J d t i e).waits

-- The slots before moment t in which a plan works on a piece of desk d with latest moment at most x.
abbrev pub slots_up_to : Job → ℕ → ℤ → (ℕ → Option ℕ) → ℕ → ℕ
slots_up_to J d x plan t = cnt (λ s. on itself (λ i. le_z (latest J i) x) (desk_pieces J d) (plan s)) t

module _ (file : List ℕ) (J : Job) (accept : AcceptedAs file J) (d : ℕ) where
  -- The plan of a desk is one of the allowed plans of its pieces.
  pub the_plan_is_allowed : AllowedPlan J d (worked J d) (finish J)
  the_plan_is_allowed = plan_allowed J (accepted_sound file J accept) (accepted_free file J accept) d

  -- DOMINANCE: for every moment and every x the plan has worked as many slots on the desk's pieces with latest moment at
  -- most x as any allowed plan could have worked on them by then.
  pub no_allowed_plan_is_ahead : (plan : ℕ → Option ℕ) (ends : ℕ → ℕ) → AllowedPlan J d plan ends → (x : ℤ) (t : ℕ)
      → slots_up_to J d x plan t ≤ slots_up_to J d x (worked J d) t
  no_allowed_plan_is_ahead plan ends a x t =
      let sound = accepted_sound file J accept in
      let free = accepted_free file J accept in
      obeys_dominates itself (raised J) (duration J) (is_open J d) (sooner J) (urgency J) (desk_pieces J d)
      (pieces_distinct J d) (worked J d) (desk_obeys J sound free d) (λ i. le_z (latest J i) x)
      (λ i j m k h l. le_le_z (latest J i) x
      (omega (arith, sooner-latest J i j h, le_z_le (latest J j) x l)))
      plan (allowed_raised J sound free d plan ends a) t

  -- DEMAND 3, SECOND HALF: no allowed plan of the desk's pieces has a smaller worst lateness.
  pub no_allowed_plan_is_better : (plan : ℕ → Option ℕ) (ends : ℕ → ℕ) → AllowedPlan J d plan ends
      → le_z (worst_lateness J d (finish J)) (worst_lateness J d ends) ≡ true
  no_allowed_plan_is_better plan ends a =
      let sound = accepted_sound file J accept in
      let free = accepted_free file J accept in
      worst_least itself (raised J) (duration J) (is_open J d) (sooner J) (urgency J) (desk_pieces J d) (pieces_distinct J d)
      (worked J d) (desk_obeys J sound free d) plan (allowed_raised J sound free d plan ends a) (latest J)
      (λ i j m k h. le_le_z (latest J i) (latest J j) (sooner-latest J i j h)) (some-work J sound free d)
      (finish J) ends (finishes_are J sound free d) (ends_are J sound free d plan ends a)
