-- A job file judged for itself, by the cases of its reading and of the ring check.
use Rattle.std.specs.Prelude.{ℕ, List, ◌≡◌, length, replicate, Result, Ok, Err, OnOk}
use Rattle.std.proofs.Common.{refl, sym, ap, ◌∙◌}
use Rattle.std.proofs.Math.ListN.{get_or-replicate}
use Rattle.rules.specs.Job.{refused, accepted}
use Rattle.rules.specs.Answers.{Refusal}
use Rattle.rules.specs.Reading.{read_job}
use Rattle.rules.specs.Rings.{lowest_on_ring}
use Rattle.rules.specs.Judgement.{then_judge, unless_ring, file_outcome}
use Rattle.rules.specs.Tables.{Sound, job_of, befores_of, afters_of}
use Rattle.rules.specs.declared.Piece.{Piece}
use Rattle.rules.specs.declared.Link.{Link}
use Rattle.rules.specs.declared.fault.Fault.TheVariants.{Ring}
use Rattle.rules.specs.declared.fault.Refusal.{Refusal as Refused}
use Rattle.laws.proofs.Reading.{job_sound}
use Rattle.links.specs.Links.{follows}
use Rattle.links.specs.Rings.{ring_at, ToCheck, Walkable}
use Rattle.links.specs.declared.rings.Walk.{Walk}
use Rattle.links.proofs.LinkLaws.{job_of_ring, job_of_ties}
use Rattle.moments.specs.Moments.{ToTime}
use Rattle.reader.specs.Outcome.{outcome_told}
use Rattle.reader.specs.declared.Job.{Job}

pub read_refused : (file : List ℕ) (r : Refusal) → read_job file ≡ refused r → file_outcome file ≡ refused r
unfolding file_outcome then_judge
read_refused file r read = ap (λ o. then_judge o unless_ring) read

module _ (file : List ℕ) (job : Job) (read : read_job file ≡ accepted (job_of job.pieces.items job.links.items)) where
  abbrev ps : List Piece
  ps = job.pieces.items

  abbrev ls : List Link
  ls = job.links.items

  sound : Sound (job_of ps ls)
  sound = job_sound file (job_of ps ls) read

  pub to_check : {last : List ℕ} → last ≡ replicate 256 0
      → ToCheck (length ps) (length ls) (befores_of ls) (afters_of ls) last
  to_check clear = record {
    ties = job_of_ties ps ls sound;
    cleared = λ i h. rw clear (get_or-replicate 256 i 0 0 h);
  }

  read_on : file_outcome file ≡ unless_ring (job_of ps ls)
  unfolding file_outcome then_judge
  read_on = ap (λ o. then_judge o unless_ring) read

  -- The answer passes on what the ring check answered.
  module _ (ring : Result Unit ℕ) {answer : Result Unit Refused}
      (passed : (u : Unit) → ring ≡ Ok u → answer ≡ Ok u)
      (refused : (i : ℕ) → ring ≡ Err i → answer ≡ Err (record { fault = Ring; place = i }))
      (found : ring_at ring ≡ lowest_on_ring (follows (length ls) (befores_of ls) (afters_of ls)) (length ps)) where
    pub judged_outcome : file_outcome file ≡ outcome_told answer job
    unfolding unless_ring
    judged_outcome = go ring refl
      where
        go : (r : Result Unit ℕ) → ring ≡ r → file_outcome file ≡ outcome_told answer job
        go (Ok u) e = rw (passed u e) (read_on ∙ rw (job_of_ring ps ls ∙ sym found ∙ ap ring_at e, unless_ring))
        go (Err i) e = rw (refused i e) (read_on ∙ rw (job_of_ring ps ls ∙ sym found ∙ ap ring_at e, unless_ring))

    pub judged_walkable : (walk : Walk) → OnOk ring (Walkable (length ps) (length ls) (befores_of ls) (afters_of ls)
        walk.chains.last walk.chains.prior walk.order) → OnOk answer (ToTime ps ls walk)
    judged_walkable walk walkable = go ring refl
      where
        go : (r : Result Unit ℕ) → ring ≡ r → OnOk answer (ToTime ps ls walk)
        go (Ok u) e = rw (passed u e) (record {
          sound = sound;
          free = job_of_ring ps ls ∙ sym found ∙ ap ring_at e;
          walkable = rw e at walkable;
        })
        go (Err i) e = rw (refused i e) tt
