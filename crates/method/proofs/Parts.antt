-- The blocks of a good set, and the blocks of the others of a block: each is fine again, begins no earlier than what it is
-- a part of, and is over by its end, since of a gathered block each entry is ready by the time that those before it could
-- be done. Assumes nothing.
use Prim.Native.Nat.{ℕ, ◌+◌, ◌≤◌, ◌<◌}
use mathlib.Core.Bool.{Bool}
use mathlib.Core.List.Memᴰ
use mathlib.Core.List.{List, [], ◌∷◌, ◌++◌, append_assoc}
use mathlib.Core.List.Memᴰ.{head as here}
use mathlib.Core.List.Memᴰ.{tail as there}
use mathlib.Core.Logic.{⊎_elim}
use mathlib.Core.Path.{◌≡◌, refl, subst}
use native.Mathlib.Omega.{arith}
use borrow.Author.Tests.{leb-false}
use lib.Dec.{leb}
use Rattle.rules.specs.Words.{when, keep, sum}
use Rattle.rules.specs.Entries.{Entry}
use Rattle.rules.specs.Blocks.{Block, block_of, gathered, block_end, gather, cut_in_order}
use Rattle.laws.proofs.Words.{by_test}
use Rattle.theory.proofs.Count.{cnt_mono}
use Rattle.theory.proofs.Lists.{◌∈◌, by-mem, sum_of, sum_snoc}
use Rattle.theory.proofs.Order.{Climbs, Ordered}
use Rattle.theory.proofs.Hours.{Hours, open_end_mono, open_end-zero}
use Rattle.theory.proofs.OneBlock.{ready_at, lasting}
use Rattle.theory.proofs.BlockMethod.{waits, ready_front}
use Rattle.method.proofs.Sets.{Good, good_left, good_right}

module _ (opens : ℕ → Bool) (end_of : ℕ → ℕ → ℕ) (H : Hours opens end_of) where
  -- As much work more after an end that comes no later ends no later.
  more_work : (f k s w d : ℕ) → end_of f k ≤ end_of s w → end_of f (k + d) ≤ end_of s (w + d)
  more_work f k s w d h =
      H.least f (k + d) (end_of s (w + d))
      (omega (arith, H.from f k, open_end_mono opens end_of H s w (w + d) (omega arith)))
      (omega (
        arith,
        H.count f k,
        H.count s w,
        H.count s (w + d),
        cnt_mono opens (end_of f k) (end_of s w) h,
      ))

  one_work : (f s w d : ℕ) → f ≤ end_of s w → end_of f d ≤ end_of s (w + d)
  one_work f s w d h =
      let z : 0 + d ≡ d = omega arith in
      subst (λ (k : ℕ). end_of f k ≤ end_of s (w + d)) z
      (more_work f 0 s w d (omega (arith, open_end-zero opens end_of H f)))

  -- Each entry is ready by the time that those before it could be done, with w slots of work done since moment s.
  abbrev pub Chain : ℕ → ℕ → List Entry → Type 0
  Chain s w [] = Unit {0}
  Chain s w (e ∷ es) = (e.ready ≤ end_of s w) × Chain s (w + e.duration) es

  chain_snoc : (s w : ℕ) (es : List Entry) (e : Entry) → Chain s w es → e.ready ≤ end_of s (w + sum_of lasting es)
      → Chain s w (es ++ (e ∷ []))
  unfolding sum
  chain_snoc s w [] e c h = let z : w + 0 ≡ w = omega arith in ((rw z at h), tt)
  chain_snoc s w (x ∷ es) e c h =
      let z : w + (x.duration + sum_of lasting es) ≡ w + x.duration + sum_of lasting es = omega arith in
      (c.0, chain_snoc s (w + x.duration) es e c.1 (rw z at h))

  -- What is kept of a chain is cut into blocks that are over when the chain is.
  gather_over : (p : Entry → Bool) (es : List Entry) (s w : ℕ) (B : Block) → Chain s w es → block_end end_of B ≤ end_of s w
      → (C : Block) → C ∈ gather end_of B (keep p es) → block_end end_of C ≤ end_of s (w + sum_of lasting es)
  unfolding keep gather block_end sum
  gather_over p [] s w B c h C =
      let z : w + 0 ≡ w = omega arith in
      rw z (λ m. by-mem m (λ q. rw q h) (λ n. elim n [ ]))
  gather_over p (e ∷ es) s w B c h C =
      let z : w + (e.duration + sum_of lasting es) ≡ w + e.duration + sum_of lasting es = omega arith in
      let later : end_of s w ≤ end_of s (w + e.duration + sum_of lasting es) =
      open_end_mono opens end_of H s w (w + e.duration + sum_of lasting es) (omega arith) in
      by_test (p e)
      (λ k.
      by_test (leb (block_end end_of B) e.ready)
      (λ l.
      rw (k, when, l, when, z)
      (λ m. by-mem m
      (λ q. rw q (omega arith))
      (λ n. gather_over p es s (w + e.duration) (block_of e) c.1 (one_work e.ready s w e.duration c.0) C n)))
      (λ l.
      rw (k, when, l, when, z)
      (gather_over p es s (w + e.duration) (gathered B e) c.1 (more_work B.from B.work s w e.duration h) C)))
      (λ k.
      rw (k, when, z)
      (gather_over p es s (w + e.duration) B c.1
      (omega (arith, open_end_mono opens end_of H s w (w + e.duration) (omega arith))) C))

  pub cut_over : (p : Entry → Bool) (es : List Entry) (s w : ℕ) → Chain s w es → (C : Block)
      → C ∈ cut_in_order end_of (keep p es) → block_end end_of C ≤ end_of s (w + sum_of lasting es)
  unfolding keep cut_in_order block_end sum
  cut_over p [] s w c C = λ m. elim m [ ]
  cut_over p (e ∷ es) s w c C =
      let z : w + (e.duration + sum_of lasting es) ≡ w + e.duration + sum_of lasting es = omega arith in
      by_test (p e)
      (λ k.
      rw (k, when, z)
      (λ m. gather_over p es s (w + e.duration) (block_of e) c.1 (one_work e.ready s w e.duration c.0) C m))
      (λ k. rw (k, when, z) (cut_over p es s (w + e.duration) c.1 C))

-- A block as it is gathered from a good set.
pub record Fine (follows : ℕ → ℕ → Bool) (opens : ℕ → Bool) (end_of : ℕ → ℕ → ℕ) (H : Hours opens end_of) (B : Block)
    : Type 0 where
  pub filled : (e : Entry) × (e ∈ B.members)
  pub good : Good follows B.members
  pub floor : (e : Entry) → e ∈ B.members → B.from ≤ e.ready
  pub chain : Chain opens end_of H B.from 0 B.members
  pub whole : B.work ≡ sum_of lasting B.members

-- In order, no entry is ready before one that stands before it.
pub ordered_climbs : (es : List Entry) → Ordered waits es → Climbs ready_at es
ordered_climbs [] o = tt
ordered_climbs (e ∷ es) o = (λ f m. ready_front e f (o.0 f m), ordered_climbs es o.1)

module _ (follows : ℕ → ℕ → Bool) (opens : ℕ → Bool) (end_of : ℕ → ℕ → ℕ) (H : Hours opens end_of) where
  abbrev Fit : Block → Type 0
  Fit = Fine follows opens end_of H

  fine_one : (e : Entry) → Good follows (e ∷ []) → Fit (block_of e)
  unfolding sum
  fine_one e g = record {
    filled = (e, here refl);
    good = g;
    floor = λ f m. let q : f ≡ e = Memᴰ.eq_of_singleton m in rw q (omega arith);
    chain = (H.from e.ready 0, tt);
    whole = omega arith;
  }

  fine_more : (B : Block) (e : Entry) → Good follows (B.members ++ (e ∷ [])) → Fit B → e.ready < block_end end_of B
      → B.from ≤ e.ready → Fit (gathered B e)
  unfolding block_end
  fine_more B e g F soon late = record {
    filled = (F.filled.0, Memᴰ.append_left (e ∷ []) F.filled.1);
    good = g;
    floor = λ f m.
        ⊎_elim
        (λ k. F.floor f k)
        (λ k. let q : f ≡ e = Memᴰ.eq_of_singleton k in rw q late)
        (Memᴰ.append_cases B.members m);
    chain =
        chain_snoc opens end_of H B.from 0 B.members e F.chain
        (let z : 0 + sum_of lasting B.members ≡ B.work = omega (arith, F.whole) in
        rw z (omega arith));
    whole = omega (arith, F.whole, sum_snoc lasting B.members e);
  }

  gather_fine : (es : List Entry) (B : Block) → Good follows (B.members ++ es) → Fit B → Climbs ready_at es
      → ((e : Entry) → e ∈ es → B.from ≤ e.ready) → (C : Block) → C ∈ gather end_of B es → Fit C
  unfolding gather
  gather_fine [] B g F c late C = λ m. by-mem m (λ q. rw q F) (λ n. elim n [ ])
  gather_fine (e ∷ es) B g F c late C =
      by_test (leb (block_end end_of B) e.ready)
      (λ h.
      rw (h, when)
      (λ m. by-mem m
      (λ q. rw q F)
      (λ n.
      let r = good_right follows B.members (e ∷ es) g in
      gather_fine es (block_of e) r (fine_one e (good_left follows (e ∷ []) es r)) c.1 c.0 C n)))
      (λ h.
      let g2 : Good follows ((B.members ++ (e ∷ [])) ++ es) = rw append_assoc g in
      rw (h, when)
      (gather_fine es (gathered B e) g2
      (fine_more B e (good_left follows (B.members ++ (e ∷ [])) es g2) F (leb-false (block_end end_of B) e.ready h)
      (late e (here refl)))
      c.1 (λ f m. late f (there m)) C))

  -- The blocks of a good set are fine.
  pub cut_fine : (es : List Entry) → Good follows es → (C : Block) → C ∈ cut_in_order end_of es → Fit C
  unfolding cut_in_order
  cut_fine [] g C m = elim m [ ]
  cut_fine (e ∷ es) g C m =
      let c = ordered_climbs (e ∷ es) g.ordered in
      gather_fine es (block_of e) g (fine_one e (good_left follows (e ∷ []) es g)) c.1 c.0 C m

-- They begin no earlier than all entries are ready.
gather_floor : (end_of : ℕ → ℕ → ℕ) (s : ℕ) (es : List Entry) (B : Block) → s ≤ B.from
    → ((e : Entry) → e ∈ es → s ≤ e.ready) → (C : Block) → C ∈ gather end_of B es → s ≤ C.from
unfolding gather
gather_floor end_of s [] B h k C = λ m. by-mem m (λ q. rw q h) (λ n. elim n [ ])
gather_floor end_of s (e ∷ es) B h k C =
    by_test (leb (block_end end_of B) e.ready)
    (λ l.
    rw (l, when)
    (λ m. by-mem m
    (λ q. rw q h)
    (λ n. gather_floor end_of s es (block_of e) (k e (here refl)) (λ f i. k f (there i)) C n)))
    (λ l. rw (l, when) (gather_floor end_of s es (gathered B e) h (λ f i. k f (there i)) C))

pub cut_floor : (end_of : ℕ → ℕ → ℕ) (s : ℕ) (es : List Entry) → ((e : Entry) → e ∈ es → s ≤ e.ready)
    → (C : Block) → C ∈ cut_in_order end_of es → s ≤ C.from
unfolding cut_in_order
cut_floor end_of s [] k C m = elim m [ ]
cut_floor end_of s (e ∷ es) k C m = gather_floor end_of s es (block_of e) (k e (here refl)) (λ f i. k f (there i)) C m
