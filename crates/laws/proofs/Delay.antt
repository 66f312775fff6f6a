-- Laws of the delay of a link and of what a follower takes off, which are all that is used of them: no delay on one desk,
-- at most 480 slots; a follower takes off its duration and the delay.
use Prim.Native.Nat.{◌+◌, ◌≤◌}
use mathlib.Core.List.{Memᴰ as Mem}
use mathlib.Core.Path.{◌≡◌, refl, ◌∙◌}
use native.Mathlib.Omega.{arith}
use borrow.Author.Tests.{eq-eqb, ne_eqb}
use lib.Dec.{eqb}
use Rattle.rules.specs.Words.{when}
use Rattle.rules.specs.Job.{Job, desk, duration}
use Rattle.rules.specs.Moments.{delay, takes_off}
use Rattle.rules.specs.Tables.{Sound}
use Rattle.rules.specs.declared.Link.{Link}
use Rattle.laws.proofs.Words.{by_test, when_true, when_false}
use Rattle.laws.proofs.Sound.{fits, link_fit}

-- What the code works out.
pub delay_is : (J : Job) (l : Link) → delay J l ≡ when (eqb (desk J l.before) (desk J l.after)) 0 l.handover
unfolding delay
delay_is J l = refl

pub delay_own_desk : (J : Job) (l : Link) → desk J l.before ≡ desk J l.after → delay J l ≡ 0
delay_own_desk J l e = delay_is J l ∙ when_true _ _ _ (eq-eqb _ _ e)

pub delay_between : (J : Job) (l : Link) → (desk J l.before ≡ desk J l.after → ⊥) → delay J l ≡ l.handover
delay_between J l ne = delay_is J l ∙ when_false _ _ _ (ne_eqb _ _ ne)

pub delay_most : (J : Job) → Sound J → (l : Link) → Mem l J.links → delay J l ≤ 480
delay_most J sound l m = by_test (eqb (desk J l.before) (desk J l.after))
    (λ e. omega (arith, delay_is J l ∙ when_true _ _ l.handover e))
    (λ e. omega (arith, delay_is J l ∙ when_false _ 0 _ e, (link_fit J sound l m).handover_most))

pub takes_off_is : (J : Job) (l : Link) → takes_off J l ≡ duration J l.after + delay J l
unfolding takes_off
takes_off_is J l = refl

pub takes_off_least : (J : Job) → Sound J → (l : Link) → Mem l J.links → 1 ≤ takes_off J l
takes_off_least J sound l m =
    omega (arith, takes_off_is J l, (fits J sound l.after (link_fit J sound l m).after_one).duration_least)

pub takes_off_most : (J : Job) → Sound J → (l : Link) → Mem l J.links → takes_off J l ≤ 1440
takes_off_most J sound l m =
    omega (
      arith,
      takes_off_is J l,
      (fits J sound l.after (link_fit J sound l m).after_one).duration_most,
      delay_most J sound l m,
    )
