-- Demand 3, first half: on the ready moments of the finished plan the block method gives each desk of an accepted file the
-- same piece in the same slot as the plan does. And step 2's clause on direct links never changes who is set aside.
use Prim.Native.Nat.{ℕ}
use mathlib.Core.Bool.{true}
use mathlib.Core.List.{List, Memᴰ as Mem}
use mathlib.Core.Path.{◌≡◌, refl, ap, ◌∙◌, fun_ext}
use mathlib.Core.Option.{none}
use native.Mathlib.Nat.{le_refl}
use lib.ListN.{length}
use Rattle.rules.specs.Job.{Job, duration, desk_pieces}
use Rattle.rules.specs.Hours.{is_open, open_end}
use Rattle.rules.specs.Moments.{sooner}
use Rattle.rules.specs.Rings.{linked, ring_piece}
use Rattle.rules.specs.Tables.{Sound}
use Rattle.rules.specs.Urgency.{worked, horizon}
use Rattle.rules.specs.Runs.{runs_from, turns, runs}
use Rattle.rules.specs.Entries.{Entry, raised, entry, entries}
use Rattle.rules.specs.Blocks.{cheapest, without_follower, block_worked}
use Rattle.rules.specs.BlockSheet.{block_runs}
use Rattle.laws.proofs.Sound.{linked_link}
use Rattle.laws.proofs.Latest.{before_is_sooner}
use Rattle.theory.proofs.Lists.{map_mem, Distinct}
use Rattle.laws.proofs.Order.{itself, number, urgent, same_order}
use Rattle.theory.proofs.OneBlock.{ready_at, lasting}
use Rattle.theory.proofs.SetAside.{LinksAhead, clause_idle}
use Rattle.theory.proofs.Renamed.{distinct_map, obeys_map}
use Rattle.theory.proofs.Rule.{Obeys}
use Rattle.theory.proofs.BlockMethod.{set_agrees}
use Rattle.demands.specs.Accepted.{AcceptedAs}
use Rattle.demands.proofs.Accepting.{accepted_sound, accepted_free}
use Rattle.demands.proofs.OneDesk.{pieces_distinct, desk_hours, desk_obeys}

pub entries_distinct : (J : Job) (d : ℕ) → Distinct number (entries J d)
unfolding entries entry
entries_distinct J d =
    distinct_map (entry J) itself (raised J) (duration J) number ready_at lasting (λ i. refl) (desk_pieces J d)
    (pieces_distinct J d)

module _ (J : Job) (sound : Sound J) (free : ring_piece J ≡ none) (d : ℕ) where
  entries_obey : Obeys number ready_at lasting (is_open J d) urgent (entries J d) (worked J d)
  unfolding entries entry
  entries_obey =
      obeys_map (entry J) itself (raised J) (duration J) number ready_at lasting (λ i. refl) (is_open J d) (sooner J) urgent
      (λ i. refl) (λ i. refl) (same_order J) (desk_pieces J d) (worked J d) (desk_obeys J sound free d)

  pub links_ahead : LinksAhead (linked J) (entries J d)
  unfolding entries entry
  links_ahead e f m n h =
      let i = map_mem (entry J) (desk_pieces J d) e m in
      let j = map_mem (entry J) (desk_pieces J d) f n in
      let k : linked J i.0 j.0 ≡ true = rw (i.2, j.2) at h in
      let l = linked_link J i.0 j.0 k in
      let first : sooner J i.0 j.0 ≡ true = rw (l.2, l.3) at (before_is_sooner J sound free l.0 l.1) in
      rw (i.2, j.2) (same_order J i.0 j.0 ∙ first)

  -- The block method works in every slot on the piece that the plan works on.
  pub agrees : (t : ℕ) → block_worked J d t ≡ worked J d t
  unfolding block_worked
  agrees t =
      set_agrees (linked J) (is_open J d) (open_end J d) (desk_hours J d) (length (entries J d)) (entries J d) (le_refl _)
      (entries_distinct J d) links_ahead (worked J d) entries_obey t

module _ (file : List ℕ) (J : Job) (accept : AcceptedAs file J) (d : ℕ) where
  -- DEMAND 3, FIRST HALF: the same piece in the same slot, for all slots.
  pub block_method_agrees : (t : ℕ) → block_worked J d t ≡ worked J d t
  block_method_agrees = agrees J (accepted_sound file J accept) (accepted_free file J accept) d

  -- So the runs of the block sheet are those of the plan.
  pub block_runs_agree : block_runs J d ≡ runs J d
  unfolding block_runs runs
  block_runs_agree = ap (λ w. runs_from none (turns J d w (horizon J))) (fun_ext block_method_agrees)

  -- The clause on direct links never changes who is set aside, in any set of the desk's entries.
  pub clause_on_links_is_idle : (es : List Entry) → Distinct number es → ((e : Entry) → Mem e es → Mem e (entries J d))
      → cheapest (without_follower (linked J) es) ≡ cheapest es
  clause_on_links_is_idle es apart part =
      clause_idle (linked J) es apart
      (λ e f m n. links_ahead J (accepted_sound file J accept) (accepted_free file J accept) d e f (part e m) (part f n))
