-- The blocks of a set: no more of them than entries, none empty, their members of the set, and rising in time with each
-- over before the next begins. Assumes nothing.
use mathlib.Core.Path.{◌≡◌, refl, ◌∙◌}
use mathlib.Core.List.{List, [], ◌∷◌}
use mathlib.Core.List.Memᴰ.{head as here}
use mathlib.Core.List.Memᴰ.{tail as there}
use Prim.Native.Nat.{ℕ, ◌+◌, ◌≤◌}
use native.Mathlib.Omega.{arith}
use lib.Dec.{leb}
use lib.ListN.{length, length-append}
use borrow.Author.Tests.{leb-true}
use Rattle.rules.specs.Words.{when, sum}
use Rattle.rules.specs.Entries.{Entry}
use Rattle.rules.specs.Blocks.{Block, block_of, gathered, block_end, gather, cut_in_order, cut}
use Rattle.laws.proofs.Words.{by_test, sum_mem}
use Rattle.theory.proofs.Lists.{◌∈◌, by-mem, sum_of}
use Rattle.theory.proofs.Order.{Climbs, sorted, sorted_length, sorted_climbs}
use Rattle.theory.proofs.OneBlock.{ready_at}
use Rattle.theory.proofs.BlockMethod.{waits, in_order_lem, ready_front, ready_behind}

-- a list of numbers from 1 on has at most their sum of them
length-sum : {A : Type 0} (f : A → ℕ) (L : List A) → ((a : A) → a ∈ L → 1 ≤ f a) → length L ≤ sum_of f L
unfolding sum
length-sum f [] h = omega arith
length-sum f (x ∷ L) h = omega (arith, h x (here refl), length-sum f L (λ a m. h a (there m)))

abbrev pub count : Block → ℕ
count B = length B.members

module _ (end_of : ℕ → ℕ → ℕ) where
  -- each block is over before the next begins
  abbrev pub BlocksRise : List Block → Type 0
  BlocksRise [] = Unit {0}
  BlocksRise (B ∷ Bs) = ((C : Block) → C ∈ Bs → block_end end_of B ≤ C.from) × BlocksRise Bs

  gather_members : (es : List Entry) (B : Block) → sum_of count (gather end_of B es) ≡ count B + length es
  unfolding gather sum
  gather_members [] B = omega arith
  gather_members (e ∷ es) B =
      by_test (leb (block_end end_of B) e.ready)
      (λ h. rw (h, when) (omega (arith, gather_members es (block_of e))))
      (λ h.
      rw (h, when)
      (omega (arith, gather_members es (gathered B e), length-append B.members (e ∷ []))))

  gather_filled : (es : List Entry) (B : Block) → 1 ≤ count B → (C : Block) → C ∈ gather end_of B es → 1 ≤ count C
  unfolding gather
  gather_filled [] B h C = λ m. by-mem m (λ p. rw p h) (λ n. elim n [ ])
  gather_filled (e ∷ es) B h C =
      by_test (leb (block_end end_of B) e.ready)
      (λ k. rw (k, when) (λ m. by-mem m (λ p. rw p h) (λ n. gather_filled es (block_of e) (omega arith) C n)))
      (λ k.
      rw (k, when)
      (gather_filled es (gathered B e) (omega (arith, length-append B.members (e ∷ []))) C))

  gather_rise : (es : List Entry) (B : Block) → Climbs ready_at es → ((e : Entry) → e ∈ es → B.from ≤ e.ready)
      → BlocksRise (gather end_of B es) × ((C : Block) → C ∈ gather end_of B es → B.from ≤ C.from)
  unfolding gather
  gather_rise [] B c late =
      ((λ C m. elim m [ ], tt), λ C m. by-mem m (λ p. rw p (omega arith)) (λ n. elim n [ ]))
  gather_rise (e ∷ es) B c late =
      by_test (leb (block_end end_of B) e.ready)
      (λ h.
      let r = gather_rise es (block_of e) c.1 c.0 in
      let next : block_end end_of B ≤ e.ready = leb-true (block_end end_of B) e.ready h in
      rw (h, when) (
        (λ C m. omega (arith, r.1 C m), r.0),
        λ C m. by-mem m
            (λ p. rw p (omega arith))
            (λ n. omega (arith, r.1 C n, late e (here refl))),
      ))
      (λ h. rw (h, when) (gather_rise es (gathered B e) c.1 (λ f m. late f (there m))))

  -- the same of entries in order
  ordered_members : (es : List Entry) → sum_of count (cut_in_order end_of es) ≡ length es
  unfolding cut_in_order sum
  ordered_members [] = refl
  ordered_members (e ∷ es) = omega (arith, gather_members es (block_of e))

  ordered_filled : (es : List Entry) (C : Block) → C ∈ cut_in_order end_of es → 1 ≤ count C
  unfolding cut_in_order
  ordered_filled [] C m = elim m [ ]
  ordered_filled (e ∷ es) C m = gather_filled es (block_of e) (omega arith) C m

  ordered_rise : (es : List Entry) → Climbs ready_at es → BlocksRise (cut_in_order end_of es)
  unfolding cut_in_order
  ordered_rise [] c = tt
  ordered_rise (e ∷ es) c = (gather_rise es (block_of e) c.1 c.0).0

  -- THE BLOCKS OF A SET
  module _ (es : List Entry) where
    -- their members are as many as the entries
    pub cut_members : sum_of count (cut end_of es) ≡ length es
    unfolding cut
    cut_members = rw (in_order_lem es) (ordered_members (sorted waits es) ∙ sorted_length waits es)

    pub cut_filled : (C : Block) → C ∈ cut end_of es → 1 ≤ count C
    unfolding cut
    cut_filled = rw (in_order_lem es) (ordered_filled (sorted waits es))

    pub cut-length : length (cut end_of es) ≤ length es
    cut-length = omega (arith, length-sum count (cut end_of es) cut_filled, cut_members)

    pub cut_count : (C : Block) → C ∈ cut end_of es → count C ≤ length es
    cut_count C m = omega (arith, sum_mem count (cut end_of es) C m, cut_members)

    pub cut-rises : BlocksRise (cut end_of es)
    unfolding cut
    cut-rises =
        rw (in_order_lem es)
        (ordered_rise (sorted waits es) (sorted_climbs waits ready_at ready_front ready_behind es))
