-- Latest moments of a sound job without a ring: they satisfy the page's equation, nothing else does, they lie between
-- -367,200 and 40,000, and a piece before goes before the piece after it.
use Prim.Native.Nat.{ℕ, suc, ◌*◌, ◌≤◌, ◌<◌}
use mathlib.Core.Bool.{true}
use mathlib.Core.List.Memᴰ.{head as here}
use mathlib.Core.List.{List, ◌∷◌, map, Memᴰ as Mem, []}
use mathlib.Core.Option.{none}
use mathlib.Core.Path.{◌≡◌, refl, sym, ap, ◌∙◌}
use native.Mathlib.Omega.{arith}
use lib.IntN.{ℤ, pos, negsuc, ◌-ℤ◌, nat_abs}
use lib.Signed.{mag}
use Rattle.rules.specs.Words.{least_z}
use Rattle.rules.specs.Job.{Job, piece_count, piece, links_from}
use Rattle.rules.specs.Moments.{takes_off, latest_within, latest, sooner}
use Rattle.rules.specs.Rings.{ring_piece}
use Rattle.rules.specs.Tables.{Sound}
use Rattle.rules.specs.declared.Link.{Link}
use Rattle.laws.proofs.Words.{map_same, mem_map}
use Rattle.laws.proofs.Signed.{up, dn, ◌≼◌, minus, least_start, least_mem, least_within, below-zero, below_zero_is}
use Rattle.laws.proofs.Delay.{takes_off_least, takes_off_most}
use Rattle.laws.proofs.Sound.{fits, link_fit, from_link, link_from, behind, behind_falls, behind_few, along_after}
use Rattle.laws.proofs.Order.{smaller_sooner}
use Rattle.laws.proofs.Settling.{settles}

-- What the pieces after i leave it, given their latest moments: the right side of the page's equation.
unfoldable pub asked : Job → (ℕ → ℤ) → ℕ → ℤ
unfolding least_z links_from
asked J moment i = least_z (pos (piece J i).due) (map (λ l. moment l.after -ℤ pos (takes_off J l)) (links_from J i))

-- It looks at the pieces after i alone.
pub asked_same : (J : Job) (f g : ℕ → ℤ) (i : ℕ) → ((l : Link) → Mem l (links_from J i) → f l.after ≡ g l.after)
    → asked J f i ≡ asked J g i
unfolding asked
asked_same J f g i h =
    ap (least_z (pos (piece J i).due)) (map_same (λ l. f l.after -ℤ pos (takes_off J l))
    (λ l. g l.after -ℤ pos (takes_off J l)) (links_from J i)
    (λ l m. ap (λ z. z -ℤ pos (takes_off J l)) (h l m)))

pub asked_due : (J : Job) (f : ℕ → ℤ) (i : ℕ) → asked J f i ≼ pos (piece J i).due
unfolding asked
asked_due J f i =
    least_start (pos (piece J i).due) (map (λ l. f l.after -ℤ pos (takes_off J l)) (links_from J i))

pub asked_after : (J : Job) (f : ℕ → ℤ) (i : ℕ) (l : Link) → Mem l (links_from J i)
    → asked J f i ≼ (f l.after -ℤ pos (takes_off J l))
unfolding asked
asked_after J f i l m =
    least_mem _ (map (λ l. f l.after -ℤ pos (takes_off J l)) (links_from J i)) _
    (mem_map (λ l. f l.after -ℤ pos (takes_off J l)) (links_from J i) l m)

pub asked_most : (J : Job) (f : ℕ → ℤ) (i : ℕ) (c : ℤ) → c ≼ pos (piece J i).due
    → ((l : Link) → Mem l (links_from J i) → c ≼ (f l.after -ℤ pos (takes_off J l))) → c ≼ asked J f i
unfolding asked
asked_most J f i c h k = least_within (pos (piece J i).due) c (λ l. f l.after -ℤ pos (takes_off J l)) (links_from J i) h k

pub within_more : (J : Job) (n i : ℕ) → latest_within J (suc n) i ≡ asked J (latest_within J n) i
unfolding latest_within asked
within_more J n i = refl

-- A signed number in the range of latest moments, in every word in which code asks for a range.
pub record Near (z : ℤ) : Type 0 where
  pub up_most : up z ≤ 40000
  pub dn_most : dn z ≤ 367200
  pub abs_most : nat_abs z ≤ 367200
  pub mag_most : mag z ≤ 367200

near : (z : ℤ) → below-zero 367200 ≼ z → z ≼ pos 40000 → Near z
unfolding up dn
near (pos k) low high =
    record { up_most = omega arith; dn_most = omega arith; abs_most = omega arith; mag_most = omega arith }
near (negsuc k) low high =
    let l : suc k ≤ 367200 = omega (arith, below_zero_is 367200) in
    record { up_most = omega arith; dn_most = l; abs_most = l; mag_most = omega arith }

module _ (J : Job) (sound : Sound J) (free : ring_piece J ≡ none) where
  -- A link from i goes to a piece that leads to fewer.
  falls : (i : ℕ) (l : Link) → Mem l (links_from J i) → behind J sound free l.after < behind J sound free i
  falls i l m =
      let w = from_link J i l m in
      rw (ap (behind J sound free) w.1) at (behind_falls J sound free l w.0)

  no_links : (i : ℕ) → behind J sound free i ≡ 0 → latest_within J 1 i ≡ latest_within J 0 i
  unfolding latest_within least_z
  no_links i z = go (links_from J i) refl
    where
      go : (ls : List Link) → links_from J i ≡ ls → latest_within J 1 i ≡ latest_within J 0 i
      go [] e = rw e
      go (l ∷ ls) e = absurd (omega (arith, falls i l (rw e (here refl))))

  -- Chains longer than the number of pieces that i leads to add nothing.
  settled : (n i : ℕ) → behind J sound free i ≤ n → latest_within J (suc n) i ≡ latest_within J n i
  settled =
      settles (behind J sound free) (latest_within J) (asked J) (within_more J)
      (λ f g i h. asked_same J f g i (λ l m. h l.after (falls i l m))) no_links

  -- The page's equation holds.
  pub latest_equation : (i : ℕ) → i < piece_count J → latest J i ≡ asked J (latest J) i
  unfolding latest asked
  latest_equation i h =
      sym (settled (piece_count J) i (omega (arith, behind_few J sound free i h))) ∙ within_more J (piece_count J) i

  -- It has one solution.
  pub latest_unique : (f : ℕ → ℤ) → ((i : ℕ) → i < piece_count J → f i ≡ asked J f i)
      → (i : ℕ) → i < piece_count J → f i ≡ latest J i
  latest_unique f h =
      along_after J sound free {P = λ i. f i ≡ latest J i}
      (λ i l later. h i l ∙ asked_same J f (latest J) i
      (λ k m. let w = from_link J i k m in later k w.0 w.1) ∙ sym (latest_equation i l))

  pub latest_due : (i : ℕ) → i < piece_count J → latest J i ≼ pos (piece J i).due
  latest_due i h = rw (latest_equation i h) (asked_due J (latest J) i)

  -- What a piece after it leaves a piece.
  pub latest_after : (l : Link) → Mem l J.links → latest J l.before ≼ (latest J l.after -ℤ pos (takes_off J l))
  latest_after l m =
      rw (latest_equation l.before (link_fit J sound l m).before_one)
      (asked_after J (latest J) l.before l (link_from J l.before l m refl))

  -- Each piece that i leads to takes off at most 1,440.
  latest_low : (i : ℕ) → i < piece_count J → below-zero (1440 * behind J sound free i) ≼ latest J i
  unfolding up dn
  latest_low =
      along_after J sound free {P = λ i. below-zero (1440 * behind J sound free i) ≼ latest J i}
      (λ i h later. rw (latest_equation i h)
      (asked_most J (latest J) i (below-zero (1440 * behind J sound free i))
      (omega (arith, below_zero_is (1440 * behind J sound free i)))
      (λ l m.
      let w = from_link J i l m in
      let ih : below-zero (1440 * behind J sound free l.after) ≼ latest J l.after = later l w.0 w.1 in
      let f : behind J sound free l.after < behind J sound free l.before = behind_falls J sound free l w.0 in
      let q : behind J sound free l.before ≡ behind J sound free i = ap (behind J sound free) w.1 in
      omega (
        arith,
        below_zero_is (1440 * behind J sound free i),
        below_zero_is (1440 * behind J sound free l.after),
        minus (latest J l.after) (pos (takes_off J l)),
        takes_off_most J sound l w.0,
      ))))

  -- Latest moments lie in -367,200 to 40,000.
  pub latest_least : (i : ℕ) → i < piece_count J → below-zero 367200 ≼ latest J i
  latest_least i h =
      omega (
        arith,
        latest_low i h,
        behind_few J sound free i h,
        sound.few_pieces,
        below_zero_is (1440 * behind J sound free i),
        below_zero_is 367200,
      )

  pub latest_most : (i : ℕ) → i < piece_count J → latest J i ≼ pos 40000
  unfolding up dn
  latest_most i h = omega (arith, latest_due i h, (fits J sound i h).due_most)

  pub latest_near : (i : ℕ) → i < piece_count J → Near (latest J i)
  latest_near i h = near (latest J i) (latest_least i h) (latest_most i h)

  -- A piece before is sooner than the piece after.
  pub before_is_sooner : (l : Link) → Mem l J.links → sooner J l.before l.after ≡ true
  unfolding up dn
  before_is_sooner l m =
      smaller_sooner J l.before l.after
      (omega (arith, latest_after l m, minus (latest J l.after) (pos (takes_off J l)), takes_off_least J sound l m))
