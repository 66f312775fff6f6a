-- What a sound job gives: the ranges of its values, links between its own pieces, and, where no ring was found, the two
-- ways to argue along its links.
use Prim.Native.Nat.{ℕ, zero, suc, ◌≤◌, ◌<◌}
use mathlib.Core.Bool.{true, false, ◌&&◌}
use mathlib.Core.List.Memᴰ.{head as here}
use mathlib.Core.List.Memᴰ.{tail as there}
use mathlib.Core.List.{List, [], ◌∷◌, Memᴰ as Mem}
use mathlib.Core.Option.{none}
use mathlib.Core.Path.{◌≡◌, refl, sym, ap, ◌∙◌}
use native.Mathlib.Omega.{arith}
use borrow.Author.Tests.{ltb-false, leb-false, eqb-true, eqb-false, eq-eqb}
use lib.Dec.{ltb, leb, eqb}
use lib.ListN.{length, get_or}
use Rattle.rules.specs.Job.{Job, piece_count, piece, links_into, links_from}
use Rattle.rules.specs.Reading.{piece_fault, link_fault}
use Rattle.rules.specs.Rings.{via, linked_by, linked, ring_piece}
use Rattle.rules.specs.Tables.{Sound, no_link}
use Rattle.rules.specs.declared.Piece.{Piece}
use Rattle.rules.specs.declared.Link.{Link}
use Rattle.laws.proofs.Words.{passed, and_true, and_intro, or_false, mem_keep, keep_mem, one_of_found, one_of_intro}
use Rattle.laws.proofs.Rings as R

-- A member stands at some place of its list.
pub mem_place : {A : Type 0} (z : A) (l : List A) (x : A) → Mem x l → (k : ℕ) × (k < length l) × (get_or l k z ≡ x)
mem_place {A = A} z [] _ never = elim never [ ]
mem_place z (y ∷ ys) x (here e) = (0, omega arith, sym e)
mem_place z (y ∷ ys) x (there m) = let w = mem_place z ys x m in (suc w.0, omega (arith, w.1), w.2)

pub place_mem : {A : Type 0} (z : A) (l : List A) (k : ℕ) → k < length l → Mem (get_or l k z) l
place_mem z [] k h = absurd (omega arith)
place_mem z (y ∷ ys) zero h = here refl
place_mem z (y ∷ ys) (suc k) h = there (place_mem z ys k (omega arith))

-- The values of a piece without a fault.
pub record PieceFits (p : Piece) : Type 0 where
  pub desk_most : p.desk ≤ 31
  pub duration_least : 1 ≤ p.duration
  pub duration_most : p.duration ≤ 960
  pub release_most : p.release ≤ 40000
  pub due_most : p.due ≤ 40000

pub piece_fits : (p : Piece) → piece_fault p ≡ 0 → PieceFits p
unfolding piece_fault
piece_fits p h =
    let a = passed _ 4 _ h in
    let b = passed _ 5 _ a.1 in
    let c = passed _ 6 _ b.1 in
    let b2 = or_false (eqb p.duration 0) (ltb 960 p.duration) b.0 in
    let c2 = or_false (ltb 40000 p.release) (ltb 40000 p.due) c.0 in
    let nz : p.duration ≡ 0 → ⊥ = eqb-false p.duration 0 b2.0 in
    record {
      desk_most = ltb-false 31 p.desk a.0;
      duration_least = omega arith;
      duration_most = ltb-false 960 p.duration b2.1;
      release_most = ltb-false 40000 p.release c2.0;
      due_most = ltb-false 40000 p.due c2.1;
    }

-- The values of a link without a fault, among n pieces.
pub record LinkFits (n : ℕ) (l : Link) : Type 0 where
  pub before_one : l.before < n
  pub after_one : l.after < n
  pub handover_most : l.handover ≤ 480

pub link_fits : (n : ℕ) (l : Link) → link_fault n l ≡ 0 → LinkFits n l
unfolding link_fault
link_fits n l h =
    let a = passed _ 8 _ h in
    let b = passed _ 9 _ a.1 in
    let a2 = or_false (leb n l.before) (leb n l.after) a.0 in
    record {
      before_one = leb-false n l.before a2.0;
      after_one = leb-false n l.after a2.1;
      handover_most = ltb-false 480 l.handover b.0;
    }

-- Links of a job: into a piece, from a piece, and as a test.
module _ (J : Job) where
  pub into_link : (i : ℕ) (l : Link) → Mem l (links_into J i) → Mem l J.links × (l.after ≡ i)
  unfolding links_into
  into_link i l m =
      let w = mem_keep (λ l. eqb l.after i) J.links l m in (w.0, eqb-true l.after i w.1)

  pub link_into : (i : ℕ) (l : Link) → Mem l J.links → l.after ≡ i → Mem l (links_into J i)
  unfolding links_into
  link_into i l m e = keep_mem (λ l. eqb l.after i) J.links l m (eq-eqb l.after i e)

  pub from_link : (i : ℕ) (l : Link) → Mem l (links_from J i) → Mem l J.links × (l.before ≡ i)
  unfolding links_from
  from_link i l m =
      let w = mem_keep (λ l. eqb l.before i) J.links l m in (w.0, eqb-true l.before i w.1)

  pub link_from : (i : ℕ) (l : Link) → Mem l J.links → l.before ≡ i → Mem l (links_from J i)
  unfolding links_from
  link_from i l m e = keep_mem (λ l. eqb l.before i) J.links l m (eq-eqb l.before i e)

  -- The test on a pair of pieces and the links of the list.
  pub linked_link : (i j : ℕ) → linked J i j ≡ true → (l : Link) × Mem l J.links × (l.before ≡ i) × (l.after ≡ j)
  unfolding linked linked_by
  linked_link i j h =
      let w = one_of_found (λ l. eqb l.before i && eqb l.after j) J.links h in
      let t = and_true (eqb w.0.before i) (eqb w.0.after j) w.2 in
      (w.0, w.1, eqb-true w.0.before i t.0, eqb-true w.0.after j t.1)

  pub link_linked : (l : Link) → Mem l J.links → linked J l.before l.after ≡ true
  unfolding linked linked_by
  link_linked l m =
      one_of_intro (λ k. eqb k.before l.before && eqb k.after l.after) J.links l m
      (and_intro _ _ (eq-eqb l.before l.before refl) (eq-eqb l.after l.after refl))

module _ (J : Job) (sound : Sound J) where
  pub fits : (i : ℕ) → i < piece_count J → PieceFits (piece J i)
  fits i h = piece_fits (piece J i) (sound.pieces_fit i h)

  pub link_fit : (l : Link) → Mem l J.links → LinkFits (piece_count J) l
  link_fit l m =
      let w = mem_place no_link J.links l m in
      link_fits (piece_count J) l (ap (link_fault (piece_count J)) (sym w.2) ∙ sound.links_fit w.0 w.1)

  -- Links lead between the job's pieces.
  pub links_inside : (i j : ℕ) → linked J i j ≡ true → (i < piece_count J) × (j < piece_count J)
  links_inside i j h =
      let w = linked_link J i j h in
      let f = link_fit w.0 w.1 in
      (omega (arith, f.before_one, w.2), omega (arith, f.after_one, w.3))

  module _ (free : ring_piece J ≡ none) where
    pub no_ring : (i : ℕ) → i < piece_count J → via (linked J) (piece_count J) i i ≡ false
    unfolding ring_piece
    no_ring = R.ring_free (linked J) (piece_count J) free

    -- How many pieces lead to a piece, and how many it leads to.
    pub ahead : ℕ → ℕ
    ahead = R.ahead (linked J) (piece_count J) links_inside no_ring

    pub behind : ℕ → ℕ
    behind = R.behind (linked J) (piece_count J) links_inside no_ring

    pub ahead_falls : (l : Link) → Mem l J.links → ahead l.before < ahead l.after
    unfolding ahead
    ahead_falls l m =
        R.ahead_falls (linked J) (piece_count J) links_inside no_ring l.before l.after (link_linked J l m)

    pub ahead_few : (i : ℕ) → ahead i ≤ piece_count J
    unfolding ahead
    ahead_few = R.ahead_few (linked J) (piece_count J) links_inside no_ring

    pub behind_falls : (l : Link) → Mem l J.links → behind l.after < behind l.before
    unfolding behind
    behind_falls l m =
        R.behind_falls (linked J) (piece_count J) links_inside no_ring l.before l.after (link_linked J l m)

    pub behind_few : (i : ℕ) → i < piece_count J → behind i < piece_count J
    unfolding behind
    behind_few = R.behind_few (linked J) (piece_count J) links_inside no_ring

    -- What holds of a piece once it holds of the pieces before it holds of all; and so for the pieces after it.
    pub along_before : {P : ℕ → Type 0}
        → ((j : ℕ) → j < piece_count J → ((l : Link) → Mem l J.links → l.after ≡ j → P l.before) → P j)
        → (j : ℕ) → j < piece_count J → P j
    along_before {P} step =
        R.along_before (linked J) (piece_count J) links_inside no_ring {P = P}
        (λ j h prior. step j h (λ l m e. prior l.before (rw e at (link_linked J l m))))

    pub along_after : {P : ℕ → Type 0}
        → ((i : ℕ) → i < piece_count J → ((l : Link) → Mem l J.links → l.before ≡ i → P l.after) → P i)
        → (i : ℕ) → i < piece_count J → P i
    along_after {P} step =
        R.along_after (linked J) (piece_count J) links_inside no_ring {P = P}
        (λ i h later. step i h (λ l m e. later l.after (rw e at (link_linked J l m))))
