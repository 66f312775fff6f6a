-- Ready moments of a finished plan: what `ready` takes in, and the equation that raised ready moments satisfy on a sound
-- job without a ring.
use Prim.Native.Nat.{ℕ, suc, ◌+◌, ◌≤◌, ◌<◌}
use mathlib.Core.Bool.{not}
use mathlib.Core.List.Memᴰ.{head as here}
use mathlib.Core.List.{List, [], ◌∷◌, map, Memᴰ as Mem}
use mathlib.Core.Option.{none}
use mathlib.Core.Path.{◌≡◌, refl, sym, ap, ◌∙◌}
use native.Mathlib.Omega.{arith}
use borrow.Author.Tests.{eqb-true, eqb-false, eq-eqb, ne_eqb, not-true}
use lib.Dec.{eqb}
use Rattle.rules.specs.Words.{greatest}
use Rattle.rules.specs.Job.{Job, piece_count, piece, desk, duration, links_into}
use Rattle.rules.specs.Hours.{open_end}
use Rattle.rules.specs.Moments.{delay}
use Rattle.rules.specs.Rings.{ring_piece}
use Rattle.rules.specs.Tables.{Sound}
use Rattle.rules.specs.Urgency.{finish}
use Rattle.rules.specs.Entries.{from_elsewhere, from_own_desk, ready, raised_within, raised}
use Rattle.rules.specs.declared.Link.{Link}
use Rattle.laws.proofs.Words.{mem_keep, keep_mem, map_same, greatest_start, greatest_of, greatest_within}
use Rattle.laws.proofs.Sound.{into_link, ahead, ahead_falls, ahead_few}
use Rattle.laws.proofs.Settling.{settles}

module _ (J : Job) where
  pub elsewhere_link : (i : ℕ) (l : Link) → Mem l (from_elsewhere J i) → Mem l (links_into J i) × (desk J l.before ≡ desk J i → ⊥)
  unfolding from_elsewhere
  elsewhere_link i l m =
      let w = mem_keep (λ l. not (eqb (desk J l.before) (desk J i))) (links_into J i) l m in
      (w.0, eqb-false (desk J l.before) (desk J i) (not-true _ w.1))

  pub link_elsewhere : (i : ℕ) (l : Link) → Mem l (links_into J i) → (desk J l.before ≡ desk J i → ⊥) → Mem l (from_elsewhere J i)
  unfolding from_elsewhere
  link_elsewhere i l m ne =
      keep_mem (λ l. not (eqb (desk J l.before) (desk J i))) (links_into J i) l m
      (ap not (ne_eqb (desk J l.before) (desk J i) ne))

  pub own_link : (i : ℕ) (l : Link) → Mem l (from_own_desk J i) → Mem l (links_into J i) × (desk J l.before ≡ desk J i)
  unfolding from_own_desk
  own_link i l m =
      let w = mem_keep (λ l. eqb (desk J l.before) (desk J i)) (links_into J i) l m in
      (w.0, eqb-true (desk J l.before) (desk J i) w.1)

  pub link_own : (i : ℕ) (l : Link) → Mem l (links_into J i) → desk J l.before ≡ desk J i → Mem l (from_own_desk J i)
  unfolding from_own_desk
  link_own i l m e =
      keep_mem (λ l. eqb (desk J l.before) (desk J i)) (links_into J i) l m (eq-eqb (desk J l.before) (desk J i) e)

  -- The ready moment is the least from the release on, and from each finish + delay on another desk.
  pub ready_release : (i : ℕ) → (piece J i).release ≤ ready J i
  unfolding ready
  ready_release i = greatest_start _ (map (λ l. finish J l.before + delay J l) (from_elsewhere J i))

  pub ready_after_lem : (i : ℕ) (l : Link) → Mem l (from_elsewhere J i) → finish J l.before + delay J l ≤ ready J i
  unfolding ready
  ready_after_lem i l m = greatest_of (λ l. finish J l.before + delay J l) _ (from_elsewhere J i) l m

  pub ready_least : (i t : ℕ) → (piece J i).release ≤ t
      → ((l : Link) → Mem l (from_elsewhere J i) → finish J l.before + delay J l ≤ t) → ready J i ≤ t
  unfolding ready
  ready_least i t h k = greatest_within (λ l. finish J l.before + delay J l) _ t (from_elsewhere J i) h k

  -- What the pieces before i on its desk make of its ready moment, given their own: the right side of the equation.
  unfoldable pub lifted : (ℕ → ℕ) → ℕ → ℕ
  unfolding greatest ready from_own_desk
  lifted moment i =
      greatest (ready J i)
      (map (λ l. open_end J (desk J i) (moment l.before) (duration J l.before)) (from_own_desk J i))

  lifted_same : (f g : ℕ → ℕ) (i : ℕ) → ((l : Link) → Mem l (from_own_desk J i) → f l.before ≡ g l.before)
      → lifted f i ≡ lifted g i
  unfolding lifted
  lifted_same f g i h =
      ap (greatest (ready J i)) (map_same (λ l. open_end J (desk J i) (f l.before) (duration J l.before))
      (λ l. open_end J (desk J i) (g l.before) (duration J l.before)) (from_own_desk J i)
      (λ l m. ap (λ x. open_end J (desk J i) x (duration J l.before)) (h l m)))

  more : (n i : ℕ) → raised_within J (suc n) i ≡ lifted (raised_within J n) i
  unfolding raised_within lifted
  more n i = refl

  module _ (sound : Sound J) (free : ring_piece J ≡ none) where
    falls : (i : ℕ) (l : Link) → Mem l (from_own_desk J i) → ahead J sound free l.before < ahead J sound free i
    falls i l m =
        let w = into_link J i l (own_link i l m).0 in
        rw (ap (ahead J sound free) w.1) at (ahead_falls J sound free l w.0)

    no_links : (i : ℕ) → ahead J sound free i ≡ 0 → raised_within J 1 i ≡ raised_within J 0 i
    unfolding raised_within greatest
    no_links i z = go (from_own_desk J i) refl
      where
        go : (ls : List Link) → from_own_desk J i ≡ ls → raised_within J 1 i ≡ raised_within J 0 i
        go [] e = rw e
        go (l ∷ ls) e = absurd (omega (arith, falls i l (rw e (here refl))))

    settled : (n i : ℕ) → ahead J sound free i ≤ n → raised_within J (suc n) i ≡ raised_within J n i
    settled =
        settles (ahead J sound free) (raised_within J) lifted more
        (λ f g i h. lifted_same f g i (λ l m. h l.before (falls i l m))) no_links

    -- The equation of raised ready moments.
    pub raised_equation : (i : ℕ) → raised J i ≡ lifted (raised J) i
    unfolding raised
    raised_equation i = sym (settled (piece_count J) i (ahead_few J sound free i)) ∙ more (piece_count J) i

    pub raised-ready : (i : ℕ) → ready J i ≤ raised J i
    unfolding lifted
    raised-ready i = rw (raised_equation i)
        (greatest_start _ (map (λ l. open_end J (desk J i) (raised J l.before) (duration J l.before)) (from_own_desk J i)))

    pub raised_after : (i : ℕ) (l : Link) → Mem l (from_own_desk J i)
        → open_end J (desk J i) (raised J l.before) (duration J l.before) ≤ raised J i
    unfolding lifted
    raised_after i l m =
        rw (raised_equation i)
        (greatest_of (λ l. open_end J (desk J i) (raised J l.before) (duration J l.before)) _ (from_own_desk J i) l m)

    pub raised_least : (i t : ℕ) → ready J i ≤ t
        → ((l : Link) → Mem l (from_own_desk J i) → open_end J (desk J i) (raised J l.before) (duration J l.before) ≤ t)
        → raised J i ≤ t
    unfolding lifted
    raised_least i t h k =
        rw (raised_equation i)
        (greatest_within (λ l. open_end J (desk J i) (raised J l.before) (duration J l.before)) _ t (from_own_desk J i) h k)
