-- Demand 2 on rings: the computed test agrees with "leads by links" both ways, and a file with no fault in its records or
-- its length is refused for a ring exactly if some piece leads by its links back to itself, at the lowest such piece.
use Prim.Native.Nat.{ℕ}
use mathlib.Core.Bool.{true}
use mathlib.Core.List.{List}
use mathlib.Core.Logic.{◌↔◌}
use mathlib.Core.Option.{Option, none, some}
use mathlib.Core.Path.{◌≡◌, refl, sym, ap, ◌∙◌}
use native.Mathlib.Omega.{arith}
use borrow.Author.Tests.{ltb-true, ltb-false}
use lib.Dec.{ltb}
use Rattle.rules.specs.Job.{Job, Outcome, refused, accepted, piece_count}
use Rattle.rules.specs.Reading.{read_job}
use Rattle.rules.specs.Rings.{linked, leads, ring_piece}
use Rattle.rules.specs.Judgement.{then_judge, unless_ring, file_outcome, refuse}
use Rattle.rules.specs.Tables.{Sound}
use Rattle.laws.specs.Leads.{Leads}
use Rattle.laws.proofs.Words.{by_test, true_or_false}
use Rattle.laws.proofs.Rings.{via-leads, leads-via, leads_inside, ring_free, ring_found}
use Rattle.laws.proofs.Sound.{links_inside}
use Rattle.laws.proofs.Reading.{job_sound}
use Rattle.demands.specs.Accepted.{AcceptedAs, LowestOnRing}

module _ (J : Job) (sound : Sound J) where
  -- The computed test and the relation say the same.
  pub leads_is_leads : (i j : ℕ) → (leads J i j ≡ true) ↔ Leads (linked J) i j
  unfolding leads
  leads_is_leads i j =
      (via-leads (linked J) (piece_count J) i j, leads-via (linked J) (piece_count J) (links_inside J sound))

  lowest_found : (i : ℕ) → ring_piece J ≡ some i → LowestOnRing J i
  unfolding ring_piece
  lowest_found i h =
      let w = ring_found (linked J) (piece_count J) i h in
      record {
        on_ring = via-leads (linked J) (piece_count J) i i w.1;
        lowest = λ j l k. true_or_false
            (sym (leads-via (linked J) (piece_count J) (links_inside J sound) k) ∙ w.2 j l);
      }

  none_found : ring_piece J ≡ none → (i : ℕ) → Leads (linked J) i i → ⊥
  unfolding ring_piece
  none_found h i k =
      true_or_false (sym (leads-via (linked J) (piece_count J) (links_inside J sound) k)
      ∙ ring_free (linked J) (piece_count J) h i (leads_inside (linked J) (piece_count J) (links_inside J sound) k).0)

  found_lowest : (i : ℕ) → LowestOnRing J i → ring_piece J ≡ some i
  found_lowest i r = go (ring_piece J) refl
    where
      go : (o : Option ℕ) → ring_piece J ≡ o → ring_piece J ≡ some i
      go none e = absurd (none_found e i r.on_ring)
      go (some k) e =
          let w : LowestOnRing J k = lowest_found k e in
          by_test (ltb k i) (λ a. absurd (r.lowest k (ltb-true k i a) w.on_ring))
          (λ a. by_test (ltb i k) (λ b. absurd (w.lowest i (ltb-true i k b) r.on_ring))
          (λ b. let q : k ≡ i = omega (arith, ltb-false k i a, ltb-false i k b) in e ∙ ap some q))

-- A file without a fault in its records or its length.
module _ (file : List ℕ) (J : Job) (read : read_job file ≡ accepted J) where
  judged_for_ring : file_outcome file ≡ unless_ring J
  unfolding file_outcome then_judge
  judged_for_ring = ap (λ o. then_judge o unless_ring) read

  -- It is refused 11 at i exactly if i is the lowest piece that leads back to itself.
  pub refused_for_ring : (i : ℕ) → (file_outcome file ≡ refuse 11 i) ↔ LowestOnRing J i
  unfolding unless_ring
  refused_for_ring i = (there_is, refused_it)
    where
      sound : Sound J
      sound = job_sound file J read

      number : Outcome → ℕ
      number (refused r) = r.number
      number (accepted K) = 0

      place : Outcome → ℕ
      place (refused r) = r.place
      place (accepted K) = 0

      there_is : file_outcome file ≡ refuse 11 i → LowestOnRing J i
      there_is h = go (ring_piece J) refl
        where
          go : (o : Option ℕ) → ring_piece J ≡ o → LowestOnRing J i
          go none e =
              let z : ◌≡◌ {A = ℕ} 0 11 = ap number (rw (e, unless_ring) at (sym judged_for_ring ∙ h)) in absurd (omega arith)
          go (some k) e =
              let q : k ≡ i = ap place (rw (e, unless_ring) at (sym judged_for_ring ∙ h)) in
              lowest_found J sound i (e ∙ ap some q)

      refused_it : LowestOnRing J i → file_outcome file ≡ refuse 11 i
      refused_it r = judged_for_ring ∙ rw (found_lowest J sound i r, unless_ring)

  -- It is accepted exactly if no piece leads back to itself.
  pub accepted_without_ring : AcceptedAs file J ↔ ((i : ℕ) → Leads (linked J) i i → ⊥)
  unfolding unless_ring
  accepted_without_ring = (free, accept)
    where
      sound : Sound J
      sound = job_sound file J read

      code : Outcome → ℕ
      code (refused r) = 1
      code (accepted K) = 0

      free : AcceptedAs file J → (i : ℕ) → Leads (linked J) i i → ⊥
      free h = go (ring_piece J) refl
        where
          go : (o : Option ℕ) → ring_piece J ≡ o → (i : ℕ) → Leads (linked J) i i → ⊥
          go none e = none_found J sound e
          go (some k) e =
              let z : ◌≡◌ {A = ℕ} 1 0 = ap code (rw (e, unless_ring) at (sym judged_for_ring ∙ h)) in absurd (omega arith)

      accept : ((i : ℕ) → Leads (linked J) i i → ⊥) → AcceptedAs file J
      accept n = go (ring_piece J) refl
        where
          go : (o : Option ℕ) → ring_piece J ≡ o → AcceptedAs file J
          go none e = judged_for_ring ∙ rw (e, unless_ring)
          go (some k) e = absurd (n k (lowest_found J sound k e).on_ring)
