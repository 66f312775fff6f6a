-- One block of the block method: if the others are planned by the rule, then with the entry set aside in the slots
-- that they leave free, the block is planned by the rule, and is over by its end. Assumes nothing.
use mathlib.Core.Path.{◌≡◌, sym, ap, ◌∙◌}
use mathlib.Core.Bool.{Bool, true, ◌&&◌}
use mathlib.Core.Option.{some}
use mathlib.Core.List.{List, ◌∷◌}
use mathlib.Core.List.Memᴰ.{head as here}
use mathlib.Core.List.Memᴰ.{tail as there}
use Prim.Native.Nat.{ℕ, ◌≤◌, ◌<◌}
use lib.Dec.{leb, ltb}
use borrow.Author.Tests.{ltb-true}
use Rattle.rules.specs.Words.{when, or_else}
use Rattle.rules.specs.Entries.{Entry}
use Rattle.rules.specs.Blocks.{Block, block_end, set_aside, others, is_slot_of, in_block}
use Rattle.laws.proofs.Words.{by_test, and_true}
use Rattle.theory.proofs.Cases.{by_eq, clash}
use Rattle.theory.proofs.Lists.{◌∈◌, by-mem, Distinct, same_number, sum_of}
use Rattle.theory.proofs.Hours.{Hours}
use Rattle.theory.proofs.Plans as Plans
use Rattle.theory.proofs.Plans.{Plan, busy}
use Rattle.theory.proofs.Layers as Layers
use Rattle.theory.proofs.Rule.{Obeys}
use Rattle.theory.proofs.Obeyed.{layer_obeys, obeys_members, obeys_ext, obeys_fresh}
use Rattle.theory.proofs.Locality.{or_else-some, or_else-none}
use Rattle.theory.proofs.Gathered.{Chained, block_busy}
use Rattle.laws.proofs.Order.{number, urgent}
use Rattle.theory.proofs.SetAside.{LinksAhead, Last, set_aside_lem, others_mem, mem_others, others_distinct}

abbrev pub ready_at : Entry → ℕ
ready_at e = e.ready

abbrev pub lasting : Entry → ℕ
lasting e = e.duration

-- a plan that obeys the rule for a list of entries
abbrev pub ObeysFor : (ℕ → Bool) → List Entry → Plan → Type 0
ObeysFor opens es w = Obeys number ready_at lasting opens urgent es w

-- a block as it is gathered
pub record Sound (opens : ℕ → Bool) (B : Block) : Type 0 where
  pub filled : (e : Entry) × (e ∈ B.members)
  pub whole : B.work ≡ sum_of lasting B.members
  pub floor : (m : Entry) → m ∈ B.members → B.from ≤ m.ready
  pub apart : Distinct number B.members
  pub chain : Chained number ready_at lasting opens B.from B.members

module _ (follows : ℕ → ℕ → Bool) (opens : ℕ → Bool) (end_of : ℕ → ℕ → ℕ) (H : Hours opens end_of)
    (planned : List Entry → Plan) (B : Block) (S : Sound opens B)
    (links : LinksAhead follows B.members)
    (rest : (z : Entry) → z ∈ B.members → ObeysFor opens (others B z) (planned (others B z))) where
  -- who the block works on
  abbrev pub works : Plan
  works t = in_block follows opens end_of (λ es. planned es t) B t

  module _ (z : Entry) (chosen : set_aside follows B ≡ some z) (last : Last B.members z) where
    -- the others, and z in what they leave
    abbrev below : Plan
    below = planned (others B z)

    abbrev v : Plan
    v = Layers.layer number ready_at lasting opens z below

    layered : ObeysFor opens B.members v
    layered =
        obeys_members number ready_at lasting opens urgent (z ∷ others B z) B.members
        (λ f m. by-mem m (λ p. rw p last.member) (λ n. (mem_others B z f n).0))
        (λ f m.
        by_eq f.number z.number
        (λ e. here (same_number number B.members S.apart f z m last.member e))
        (λ e. there (others_mem B z f m e)))
        v
        (layer_obeys number ready_at lasting opens urgent z (others B z)
        (λ a m. (mem_others B z a m).1, others_distinct B z S.apart)
        (λ f m. let k = mem_others B z f m in last.behind f k.0 k.1)
        below
        (obeys_fresh number ready_at lasting opens urgent (others B z) below (rest z last.member) z.number
        (λ e m. (mem_others B z e m).1))
        (rest z last.member))

    -- it is busy in the slots of the block, and in no other
    slot_busy : (t : ℕ) → busy (v t) ≡ is_slot_of follows opens end_of B t
    unfolding is_slot_of block_end
    slot_busy t =
        block_busy number ready_at lasting opens end_of H urgent B.from B.members S.apart S.chain S.floor
        v layered t
        ∙ ap (λ (k : ℕ). leb B.from t && ltb t (end_of B.from k) && opens t) (sym S.whole)

    -- so it is what the block method does
    same : (t : ℕ) → v t ≡ works t
    unfolding in_block
    same t =
        rw (chosen, in_block)
        (by_test (is_slot_of follows opens end_of B t)
        (λ h. rw (h, when) (inside h))
        (λ h. rw (h, when) (Plans.busy_none (v t) (slot_busy t ∙ h))))
      where
        inside : is_slot_of follows opens end_of B t ≡ true → v t ≡ or_else (below t) (some z.number)
        inside h =
            Plans.by-who (below t)
            (λ e.
            by_test (Layers.takes number ready_at lasting opens z below t)
            (λ k.
            Layers.layer_hit number ready_at lasting opens z below t k
            ∙ sym (or_else-none (below t) (some z.number) e))
            (λ k.
            clash (slot_busy t ∙ h)
            (Plans.none_busy (v t) (Layers.layer_miss number ready_at lasting opens z below t k ∙ e))))
            (λ j e.
            Layers.layer_miss number ready_at lasting opens z below t
            (Layers.takes_behind number ready_at lasting opens z below t (Plans.some_busy (below t) j e))
            ∙ sym (or_else-some (below t) (some z.number) j e))

  abbrev aside : (z : Entry) × (set_aside follows B ≡ some z) × Last B.members z
  aside = set_aside_lem follows B S.apart links S.filled.0 S.filled.1

  pub block_obeys : ObeysFor opens B.members works
  block_obeys =
      let a = aside in
      obeys_ext number ready_at lasting opens urgent B.members (v a.0 a.1 a.2) works
      (same a.0 a.1 a.2) (layered a.0 a.1 a.2)

  pub block_over : (t : ℕ) → busy (works t) ≡ true → t < block_end end_of B
  unfolding is_slot_of
  block_over t h =
      let a = aside in
      let slot : is_slot_of follows opens end_of B t ≡ true =
      sym (slot_busy a.0 a.1 a.2 t) ∙ ap busy (same a.0 a.1 a.2 t) ∙ h in
      let k = and_true (leb B.from t && ltb t (block_end end_of B)) (opens t) slot in
      ltb-true t (block_end end_of B) (and_true (leb B.from t) (ltb t (block_end end_of B)) k.0).1
