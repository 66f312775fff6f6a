-- One desk of an accepted file: with the ready moments of the finished plan it works by the rule of one desk with links,
-- and so by the rule without links over the raised ready moments. From here the mathematics of one desk takes over.
use Prim.Native.Nat.{ℕ, zero, suc, ◌+◌, ◌≤◌, ◌<◌}
use mathlib.Core.Bool.{Bool, true, false}
use mathlib.Core.List.{List, ◌∷◌, Memᴰ as Mem}
use mathlib.Core.Option.{none}
use mathlib.Core.Path.{◌≡◌, sym, ap, ◌∙◌, fun_ext}
use native.Mathlib.Omega.{arith}
use borrow.Author.Tests.{eqb-true, eqb-false}
use lib.Dec.{eqb}
use Rattle.rules.specs.Words.{when, keep, row, below}
use Rattle.rules.specs.Job.{Job, piece_count, desk, duration, desk_pieces}
use Rattle.rules.specs.Hours.{is_open, open_end}
use Rattle.rules.specs.Moments.{delay, sooner}
use Rattle.rules.specs.Rings.{linked, ring_piece}
use Rattle.rules.specs.Tables.{Sound}
use Rattle.rules.specs.Urgency.{work_at, worked, finish}
use Rattle.rules.specs.Entries.{ready, raised}
use Rattle.laws.proofs.Words.{by_test, true_or_false, mem_row, mem_keep}
use Rattle.laws.proofs.Sound.{fits, link_fit, into_link, link_into, linked_link, link_linked}
use Rattle.laws.proofs.Order.{itself, sooner_asym, sooner_trans, sooner_total}
use Rattle.laws.proofs.Latest.{before_is_sooner}
use Rattle.laws.proofs.Delay.{delay_own_desk}
use Rattle.laws.proofs.Hours.{always_open, end_is}
use Rattle.laws.proofs.Raised as R
use Rattle.laws.proofs.Slots.{Waits, by_choice, mem_desk_pieces, desk_pieces_mem, worked_chosen, choice-none}
use Rattle.laws.proofs.Slots.{ready_release, ready_before, ready_intro, handed_fact, fact_handed}
use Rattle.laws.proofs.Progress.{left_at, finish_past}
use Rattle.theory.proofs.Hours.{Hours, hours_always}
use Rattle.theory.proofs.Lists.{Distinct}
use Rattle.theory.proofs.Order.{Urgency}
use Rattle.theory.proofs.Plans.{did}
use Rattle.theory.proofs.Rule.{Obeys, work, rest}
use Rattle.theory.proofs.Links.{Linked, ObeysLinks, Raised, links_disappear}
use Rattle.demands.proofs.Finishes.{left_and_had, finish_settled, finished_by}

-- Numbers in a row are different, and so are those of them that are kept.
with_head : (b : Bool) (a : ℕ) (l : List ℕ) → ((i : ℕ) → Mem i l → i ≡ a → ⊥) → Distinct itself l
    → Distinct itself (when b (a ∷ l) l)
unfolding when
with_head true a l h k = (h, k)
with_head false a l h k = k

row_distinct : (p : ℕ → Bool) (n a : ℕ) → Distinct itself (keep p (row a n))
unfolding keep row
row_distinct p zero a = tt
row_distinct p (suc n) a =
    with_head (p a) a (keep p (row (suc a) n))
    (λ i m e. omega (arith, e, (mem_row n (suc a) i (mem_keep p (row (suc a) n) i m).0).0)) (row_distinct p n (suc a))

pub pieces_distinct : (J : Job) (d : ℕ) → Distinct itself (desk_pieces J d)
unfolding desk_pieces below
pieces_distinct J d = row_distinct (λ i. eqb (desk J i) d) (piece_count J) 0

-- Every desk is open always, so k slots since t end at t + k.
pub desk_hours : (J : Job) (d : ℕ) → Hours (is_open J d) (open_end J d)
desk_hours J d =
    rw (fun_ext (λ t. fun_ext (end_is J d t))) (hours_always (is_open J d) (always_open J d))

pub urgency : (J : Job) → Urgency itself (sooner J)
urgency J = record {
  asym = λ a b h k. true_or_false (sym k ∙ sooner_asym J a b h);
  trans = sooner_trans J;
  total = sooner_total J;
}

module _ (J : Job) (sound : Sound J) (free : ring_piece J ≡ none) (d : ℕ) where
  at_desk : (i : ℕ) → Mem i (desk_pieces J d) → (i < piece_count J) × (desk J i ≡ d)
  at_desk = mem_desk_pieces J d

  -- The slots had by a piece of the desk are those of the desk's plan.
  pub had_here : (t i : ℕ) → Mem i (desk_pieces J d) → left_at J t i + did (worked J d) i t ≡ duration J i
  had_here t i m =
      let w = at_desk i m in
      rw w.1 at (left_and_had J t i w.0)

  abbrev Lin : ℕ → ℕ → Type 0
  Lin t = Linked itself (ready J) (duration J) (is_open J d) (linked J) (desk_pieces J d) (worked J d) t

  pub waits_linked : (t i : ℕ) → Mem i (desk_pieces J d) → Waits J (work_at J t) d t i → Lin t i
  waits_linked t i m w = record {
    hour = always_open J d t;
    ripe = R.ready_least J i t (ready_release J (work_at J t) t i w.ready_then)
        (λ l k. let e = R.elsewhere_link J i l k in
        let h = handed_fact J (work_at J t) t l (ready_before J (work_at J t) t i w.ready_then l e.0) in
        let b = (link_fit J sound l (into_link J i l e.0).0).before_one in
        omega (arith, h.1, finish_settled J sound free t l.before b h.0));
    left = omega (arith, w.unfinished, had_here t i m);
    ahead = λ a k b.
        let l = linked_link J a i b in
        let h = handed_fact J (work_at J t) t l.0
        (ready_before J (work_at J t) t i w.ready_then l.0 (link_into J i l.0 l.1 l.3)) in
        let z : left_at J t a ≡ 0 = rw l.2 at h.0 in
        omega (arith, had_here t a k);
  }

  linked_waits : (t i : ℕ) → Mem i (desk_pieces J d) → Lin t i → Waits J (work_at J t) d t i
  linked_waits t i m c =
      let w = at_desk i m in
      record {
        inside = w.0;
        at_desk = w.1;
        unfinished = omega (arith, c.left, had_here t i m);
        ready_then = ready_intro J (work_at J t) t i (omega (arith, R.ready_release J i, c.ripe))
            (λ l k. let p = into_link J i l k in
            let b = (link_fit J sound l p.0).before_one in
            by_test (eqb (desk J l.before) (desk J i))
            (λ e. let same : desk J l.before ≡ desk J i = eqb-true _ _ e in
            let here_too : Mem l.before (desk_pieces J d) = desk_pieces_mem J d l.before b (same ∙ w.1) in
            let linked_it : linked J l.before i ≡ true = rw p.1 at (link_linked J l p.0) in
            let done : duration J l.before ≤ did (worked J d) l.before t = c.ahead l.before here_too linked_it in
            let z : left_at J t l.before ≡ 0 = omega (arith, had_here t l.before here_too) in
            let nothing : delay J l ≡ 0 = delay_own_desk J l (same ∙ ap (desk J) (sym p.1)) in
            fact_handed J (work_at J t) t l z (omega (arith, finish_past J t l.before b)))
            (λ e. let ripe : finish J l.before + delay J l ≤ ready J i =
            R.ready_after_lem J i l (R.link_elsewhere J i l k (eqb-false _ _ e)) in
            let z : left_at J t l.before ≡ 0 =
            finished_by J sound free t l.before b (omega (arith, c.ripe)) in
            fact_handed J (work_at J t) t l z
            (omega (arith, c.ripe, finish_settled J sound free t l.before b z))));
      }

  pub desk_obeys_links : ObeysLinks itself (ready J) (duration J) (is_open J d) (linked J) (sooner J) (desk_pieces J d) (worked J d)
  unfolding worked
  desk_obeys_links t = by_choice (worked J d t)
      (λ e. rest e (λ f m c. choice-none J (work_at J t) d t (always_open J d t) e f (linked_waits t f m c)))
      (λ i e. let c = worked_chosen J d t i e in
      let m : Mem i (desk_pieces J d) = desk_pieces_mem J d i c.waits.inside c.waits.at_desk in
      work i m e (waits_linked t i m c.waits) (λ f n k ne. c.first f (linked_waits t f n k) ne))

  pub raised_moments_lem : Raised (ready J) (raised J) (duration J) (open_end J d) (linked J) (desk_pieces J d)
  raised_moments_lem = record {
    above = λ i m. R.raised-ready J sound free i;
    later = λ a i k m b.
        let l = linked_link J a i b in
        let own = link_into J i l.0 l.1 l.3 in
        let same : desk J l.0.before ≡ desk J i = ap (desk J) l.2 ∙ (at_desk a k).1 ∙ sym (at_desk i m).1 in
        rw ((at_desk i m).1, l.2) at (R.raised_after J sound free i l.0 (R.link_own J i l.0 own same));
    least = λ i m t h k. R.raised_least J sound free i t h
        (λ l o. let w = R.own_link J i l o in
        let p = into_link J i l w.0 in
        let b = (link_fit J sound l p.0).before_one in
        rw (at_desk i m).1 (k l.before (desk_pieces_mem J d l.before b (w.1 ∙ (at_desk i m).1))
        (rw p.1 at (link_linked J l p.0))));
  }

  -- The desk works by the rule of one desk over its raised ready moments.
  pub desk_obeys : Obeys itself (raised J) (duration J) (is_open J d) (sooner J) (desk_pieces J d) (worked J d)
  desk_obeys =
      links_disappear itself (ready J) (raised J) (duration J) (is_open J d) (open_end J d) (sooner J) (linked J)
      (desk_pieces J d) (worked J d) (desk_hours J d) raised_moments_lem
      (λ i m. (fits J sound i (at_desk i m).0).duration_least) (pieces_distinct J d) desk_obeys_links (urgency J)
      (λ a b k m h. let l = linked_link J a b h in rw (l.2, l.3) at (before_is_sooner J sound free l.0 l.1))
