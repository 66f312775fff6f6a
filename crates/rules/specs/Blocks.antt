-- "The block sheet": the rule of the paper's section 4 for one desk, with the ready moments of the finished plan. The
-- block method works on one desk's entries and on the links of the file, and on nothing of the plan besides.
use Prim.Native.Nat.{ℕ, zero, suc, ◌+◌}
use Rattle.std.specs.Prelude.{Bool, not, ◌&&◌, ◌||◌, eqb, length}
use mathlib.Core.List.{List, [], ◌∷◌, ◌++◌}
use Rattle.std.proofs.Math.Option.{Option, none, some}
use Rattle.std.proofs.Math.Dec.{leb, ltb}
use Rattle.std.specs.Int.Signed.{lt_z, le_z}
use Rattle.rules.specs.Words.{when, keep, one_of, or_else}
use Rattle.rules.specs.Job.{Job}
use Rattle.rules.specs.Rings.{linked}
use Rattle.rules.specs.Hours.{is_open, open_end}
use Rattle.rules.specs.Entries.{Entry, entries}

-- In order of raised ready moment, then number.
unfoldable pub ready_first : Entry → Entry → Bool
ready_first a b = ltb a.ready b.ready || (eqb a.ready b.ready && ltb a.number b.number)

unfoldable pub placed : Entry → List Entry → List Entry
unfolding when ready_first
placed e [] = e ∷ []
placed e (f ∷ fs) = when (ready_first e f) (e ∷ f ∷ fs) (f ∷ placed e fs)

unfoldable pub in_order : List Entry → List Entry
unfolding placed
in_order [] = []
in_order (e ∷ es) = placed e (in_order es)

-- A block from its first ready moment; it ends at that moment plus the durations gathered so far.
pub record Block : Type 0 where
  pub from : ℕ
  pub work : ℕ
  pub members : List Entry

abbrev pub block_of : Entry → Block
block_of e = record { from = e.ready; work = e.duration; members = e ∷ [] }

abbrev pub gathered : Block → Entry → Block
gathered B e = record { from = B.from; work = B.work + e.duration; members = B.members ++ (e ∷ []) }

-- 1. Pieces are gathered into a block from its first ready moment. `end_of t k` is the moment by which the desk has had k
-- slots since moment t.
module _ (end_of : ℕ → ℕ → ℕ) where
  unfoldable pub block_end : Block → ℕ
  block_end B = end_of B.from B.work

  -- A block ends as soon as the next piece is ready no earlier than its end. Touching blocks stay two.
  unfoldable pub gather : Block → List Entry → List Block
  unfolding when block_end
  gather B [] = B ∷ []
  gather B (e ∷ es) = when (leb (block_end B) e.ready) (B ∷ gather (block_of e) es) (gather (gathered B e) es)

  unfoldable pub cut_in_order : List Entry → List Block
  unfolding gather
  cut_in_order [] = []
  cut_in_order (e ∷ es) = gather (block_of e) es

  -- A set of entries cut into blocks.
  unfoldable pub cut : List Entry → List Block
  unfolding cut_in_order in_order
  cut es = cut_in_order (in_order es)

-- 2. The entries without a piece after them by a direct link among the same entries. `follows i j`: there is a link from
-- piece i to piece j.
unfoldable pub without_follower : (ℕ → ℕ → Bool) → List Entry → List Entry
unfolding keep one_of
without_follower follows es = keep (λ e. not (one_of (λ f. follows e.number f.number) es)) es

-- Least cost at the block's end: greatest latest moment; highest number where equal.
unfoldable pub costs_less : Entry → Entry → Bool
costs_less a b = lt_z b.latest a.latest || (le_z b.latest a.latest && ltb b.number a.number)

unfoldable pub cheaper : Entry → Option Entry → Entry
unfolding when costs_less
cheaper a none = a
cheaper a (some b) = when (costs_less b a) b a

unfoldable pub cheapest : List Entry → Option Entry
unfolding cheaper
cheapest [] = none
cheapest (e ∷ es) = some (cheaper e (cheapest es))

-- The entry of a block that is set aside, and the others.
unfoldable pub set_aside : (ℕ → ℕ → Bool) → Block → Option Entry
unfolding cheapest without_follower
set_aside follows B = cheapest (without_follower follows B.members)

unfoldable pub others : Block → Entry → List Entry
unfolding keep
others B m = keep (λ e. not (eqb e.number m.number)) B.members

-- What the block method is lent besides the entries: the direct links, the desk's slots, and where k of them end.
module _ (follows : ℕ → ℕ → Bool) (opens : ℕ → Bool) (end_of : ℕ → ℕ → ℕ) where
  -- Slot t is a slot of block B.
  unfoldable pub is_slot_of : Block → ℕ → Bool
  unfolding block_end
  is_slot_of B t = leb B.from t && ltb t (block_end end_of B) && opens t

  -- Who block B works on in slot t, where `planned` says who a set of entries works on: the piece set aside gets the
  -- slots of the block that the others leave free.
  unfoldable pub in_block : (List Entry → Option ℕ) → Block → ℕ → Option ℕ
  unfolding when is_slot_of set_aside others or_else
  in_block planned B t = elim (set_aside follows B) [
    | none ↦ none
    | some m ↦ when (is_slot_of B t) (or_else (planned (others B m)) (some m.number)) none
  ]

  -- Who the blocks of a set work on in slot t: no two of them share a slot.
  unfoldable pub in_blocks : (List Entry → Option ℕ) → List Block → ℕ → Option ℕ
  unfolding or_else in_block
  in_blocks planned [] t = none
  in_blocks planned (B ∷ Bs) t = or_else (in_block planned B t) (in_blocks planned Bs t)

  -- 3. A set is cut into blocks, and a block without its last piece is a set to be cut again, until it is empty. The
  -- number bounds the cuttings; n of them do for n entries.
  unfoldable pub set_worked : ℕ → List Entry → ℕ → Option ℕ
  unfolding in_blocks cut
  set_worked zero es t = none
  set_worked (suc n) es t = in_blocks (λ rest. set_worked n rest t) (cut end_of es) t

-- Who desk d works on in slot t by the block method.
unfoldable pub block_worked : Job → ℕ → ℕ → Option ℕ
unfolding set_worked entries linked is_open open_end
block_worked J d t =
    set_worked (linked J) (is_open J d) (open_end J d) (length (entries J d)) (entries J d) t
