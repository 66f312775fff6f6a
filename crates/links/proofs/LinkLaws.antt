-- Links as plain tables and the links of a job: the direct links are the same, and so is the piece on a ring, whatever
-- else the tables of the job hold.
use Prim.Native.Nat.{ℕ, ◌<◌}
use mathlib.Core.Bool.{Bool, true, ◌&&◌, ◌||◌}
use mathlib.Core.List.{List, [], ◌∷◌, map}
use mathlib.Core.Path.{◌≡◌, refl, ap, ◌∙◌, fun_ext}
use native.Mathlib.Omega.{arith}
use borrow.Author.Tests.{eqb-true, eq-eqb}
use lib.Dec.{eqb}
use lib.ListN.{length, get_or, length-map}
use Rattle.rules.specs.Words.{one_of, below}
use Rattle.rules.specs.Job.{Job, piece_count, piece, no_piece}
use Rattle.rules.specs.Rings.{linked_by, linked, lowest_on_ring, ring_piece}
use Rattle.rules.specs.Tables.{piece_in, link_in, links_in, pieces_in, job_in, job_of, Sound, no_link}
use Rattle.rules.specs.Tables.{desks_of, durations_of, releases_of, dues_of, befores_of, afters_of, handovers_of}
use Rattle.rules.specs.declared.Piece.{Piece}
use Rattle.rules.specs.declared.Link.{Link}
use Rattle.laws.proofs.Columns.{job_in-columns}
use Rattle.laws.proofs.Words.{and_true, and_intro, one_of_found, one_of_intro}
use Rattle.laws.proofs.Words.{mem_below, below_mem, length-below, get_or-below}
use Rattle.laws.proofs.Sound.{LinkFits, link_fits}
use Rattle.links.specs.Links.{Ties, follows}

-- The test on two pieces, and the links of the tables.
module _ (m : ℕ) (befores afters : List ℕ) where
  pub follows_link : (i j : ℕ) → follows m befores afters i j ≡ true
      → (k : ℕ) × (k < m) × (get_or befores k 0 ≡ i) × (get_or afters k 0 ≡ j)
  unfolding follows
  follows_link i j h =
      let w = one_of_found (λ k. eqb (get_or befores k 0) i && eqb (get_or afters k 0) j) (below m) h in
      let t = and_true (eqb (get_or befores w.0 0) i) (eqb (get_or afters w.0 0) j) w.2 in (
        w.0,
        mem_below m w.0 w.1,
        eqb-true (get_or befores w.0 0) i t.0,
        eqb-true (get_or afters w.0 0) j t.1,
      )

  pub link_follows : (k i j : ℕ) → k < m → get_or befores k 0 ≡ i → get_or afters k 0 ≡ j
      → follows m befores afters i j ≡ true
  unfolding follows
  link_follows k i j l p q =
      one_of_intro (λ k. eqb (get_or befores k 0) i && eqb (get_or afters k 0) j) (below m) k (below_mem m k l)
      (and_intro _ _ (eq-eqb (get_or befores k 0) i p) (eq-eqb (get_or afters k 0) j q))

  -- Links lead between the pieces.
  pub follows_inside : (n : ℕ) → Ties n m befores afters → (i j : ℕ) → follows m befores afters i j ≡ true
      → (i < n) × (j < n)
  follows_inside n T i j h =
      let w = follows_link i j h in
      (omega (arith, T.before_one w.0 w.1, w.2), omega (arith, T.after_one w.0 w.1, w.3))

one_of-map : {A B : Type 0} (p : B → Bool) (f : A → B) (l : List A) → one_of p (map f l) ≡ one_of (λ x. p (f x)) l
unfolding one_of
one_of-map p f [] = refl
one_of-map p f (x ∷ xs) = ap (λ b. p (f x) || b) (one_of-map p f xs)

-- A job in tables.
module _ (n m : ℕ) (desks durations releases dues befores afters handovers : List ℕ) where
  abbrev J : Job
  J = job_in n m desks durations releases dues befores afters handovers

  pub job_pieces : piece_count J ≡ n
  unfolding job_in pieces_in
  job_pieces = length-map (below n) (piece_in desks durations releases dues) ∙ length-below n

  pub job_links : length J.links ≡ m
  unfolding job_in links_in
  job_links = length-map (below m) (link_in befores afters handovers) ∙ length-below m

  pub job_linked : linked J ≡ follows m befores afters
  unfolding job_in links_in linked linked_by follows link_in
  job_linked = fun_ext (λ i. fun_ext (λ j.
      one_of-map (λ l. eqb l.before i && eqb l.after j) (link_in befores afters handovers) (below m)))

  pub job_ring : ring_piece J ≡ lowest_on_ring (follows m befores afters) n
  unfolding ring_piece
  job_ring = rw (job_linked, job_pieces)

  pub job_piece : (i : ℕ) → i < n → piece J i ≡ piece_in desks durations releases dues i
  unfolding job_in pieces_in
  job_piece i l = get_or-below (piece_in desks durations releases dues) no_piece n i l

  pub job_link : (k : ℕ) → k < m → get_or J.links k no_link ≡ link_in befores afters handovers k
  unfolding job_in links_in
  job_link k l = get_or-below (link_in befores afters handovers) no_link m k l

  -- A sound job has links between its pieces.
  link_here : Sound J → (k : ℕ) → k < m → LinkFits n (link_in befores afters handovers k)
  link_here sound k l =
      let fit = sound.links_fit k (omega (arith, job_links)) in
      rw (job_pieces, job_link k l) at (link_fits (piece_count J) (get_or J.links k no_link) fit)

  pub job_ties : Sound J → Ties n m befores afters
  unfolding link_in
  job_ties sound = record {
    few_pieces = omega (arith, sound.few_pieces, job_pieces);
    few_links = omega (arith, sound.few_links, job_links);
    before_one = λ k l. (link_here sound k l).before_one;
    after_one = λ k l. (link_here sound k l).after_one;
  }

-- The same of the job of these pieces and links.
module _ (ps : List Piece) (ls : List Link) where
  pub job_of_ring : ring_piece (job_of ps ls)
      ≡ lowest_on_ring (follows (length ls) (befores_of ls) (afters_of ls)) (length ps)
  job_of_ring = rw (job_in-columns ps ls) at (job_ring (length ps) (length ls) (desks_of ps) (durations_of ps)
      (releases_of ps) (dues_of ps) (befores_of ls) (afters_of ls) (handovers_of ls))

  pub job_of_ties : Sound (job_of ps ls) → Ties (length ps) (length ls) (befores_of ls) (afters_of ls)
  job_of_ties sound = job_ties (length ps) (length ls) (desks_of ps) (durations_of ps) (releases_of ps) (dues_of ps)
      (befores_of ls) (afters_of ls) (handovers_of ls) (rw (job_in-columns ps ls) sound)
