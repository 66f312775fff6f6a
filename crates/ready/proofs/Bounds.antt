-- How late a raised ready moment can be.
use Prim.Native.Nat.{ℕ, ◌+◌, ◌*◌, ◌≤◌, ◌<◌}
use mathlib.Core.Option.{none}
use mathlib.Core.Path.{◌≡◌, ap}
use native.Mathlib.Omega.{arith}
use Rattle.rules.specs.Job.{Job, piece_count, desk, duration}
use Rattle.rules.specs.Rings.{ring_piece}
use Rattle.rules.specs.Tables.{Sound}
use Rattle.rules.specs.Entries.{ready, raised}
use Rattle.laws.proofs.Sound.{fits, link_fit, into_link, ahead, ahead_falls, ahead_few, along_before}
use Rattle.laws.proofs.Delay.{delay_most}
use Rattle.laws.proofs.Hours.{end_is}
use Rattle.laws.proofs.Raised.{elsewhere_link, own_link, ready_least, raised_least}
use Rattle.demands.proofs.Finishes.{finish_most}

-- A raised ready moment is at most 654,400: finishes, handovers, and durations on the way.
module _ (J : Job) (sound : Sound J) (free : ring_piece J ≡ none) where
  ready_most : (i : ℕ) → i < piece_count J → ready J i ≤ 408640
  ready_most i h =
      ready_least J i 408640 (omega (arith, (fits J sound i h).release_most))
      (λ l m.
      let w = into_link J i l (elsewhere_link J i l m).0 in
      omega (
        arith,
        finish_most J sound free l.before (link_fit J sound l w.0).before_one,
        delay_most J sound l w.0,
      ))

  raised_high : (i : ℕ) → i < piece_count J → raised J i ≤ 408640 + 960 * ahead J sound free i
  raised_high =
      along_before J sound free {P = λ i. raised J i ≤ 408640 + 960 * ahead J sound free i}
      (λ i h prior.
      raised_least J sound free i (408640 + 960 * ahead J sound free i) (omega (arith, ready_most i h))
      (λ l m.
      let w = into_link J i l (own_link J i l m).0 in
      let b = (link_fit J sound l w.0).before_one in
      let q : ahead J sound free l.after ≡ ahead J sound free i = ap (ahead J sound free) w.1 in
      let f : ahead J sound free l.before < ahead J sound free l.after = ahead_falls J sound free l w.0 in
      omega (
        arith,
        prior l w.0 w.1,
        (fits J sound l.before b).duration_most,
        end_is J (desk J i) (raised J l.before) (duration J l.before),
      )))

  pub raised_most : (i : ℕ) → i < piece_count J → raised J i ≤ 654400
  raised_most i h = omega (arith, raised_high i h, ahead_few J sound free i, sound.few_pieces)
