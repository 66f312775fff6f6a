-- Every piece of a sound job without a ring is finished by the horizon. The argument is a sum that falls in every slot
-- from the greatest release on, as long as a piece is unfinished: all work left, and for each piece the wait for what is
-- still to be handed over to it.
use Prim.Native.Nat.{ℕ, zero, suc, ◌+◌, ◌-◌, ◌*◌, ◌≤◌, ◌<◌}
use mathlib.Core.Bool.{Bool, true, false}
use mathlib.Core.List.Memᴰ.{head as here}
use mathlib.Core.List.Memᴰ.{tail as there}
use mathlib.Core.List.{List, [], ◌∷◌, map, Memᴰ as Mem}
use mathlib.Core.Logic.{◌⊎◌, inl, inr}
use mathlib.Core.Option.{none, some}
use mathlib.Core.Path.{◌≡◌, refl, sym, ap, ◌∙◌}
use native.Mathlib.Omega.{arith}
use borrow.Author.Tests.{ltb-true, ltb-false, eqb-true, eqb-false, eq-eqb}
use lib.Dec.{ltb}
use lib.ListN.{length, get_or}
use Rattle.rules.specs.Words.{when, every, row, below, sum, greatest}
use Rattle.rules.specs.Job.{Job, piece_count, piece, desk, duration, links_into, no_piece}
use Rattle.rules.specs.Moments.{delay}
use Rattle.rules.specs.Rings.{ring_piece}
use Rattle.rules.specs.Tables.{Sound}
use Rattle.rules.specs.Urgency.{is_finished, is_ready, work_at, worked, horizon}
use Rattle.rules.specs.declared.Link.{Link}
use Rattle.laws.proofs.Words.{by_test, true_or_false, every_mem, every_intro, every_fails, mem_below, below_mem}
use Rattle.laws.proofs.Words.{map_same, sum_le, sum_gap, sum_same, sum_mem, length-below, greatest_of}
use Rattle.laws.proofs.Words.{greatest_within, when_true, when_false}
use Rattle.laws.proofs.Sound.{place_mem, into_link, link_fit, fits, along_before}
use Rattle.laws.proofs.Delay.{delay_most}
use Rattle.laws.proofs.Hours.{always_open}
use Rattle.laws.proofs.Slots.{by_choice, choice-none, worked_chosen, unready_link, fact_handed}
use Rattle.laws.proofs.Progress.{left_at, finish_at, left_worked, left_falls, left_whole, finished_stays, finish_past}

row_next : {B : Type 0} (g : ℕ → B) (n a : ℕ) → map g (row (suc a) n) ≡ map (λ i. g (suc i)) (row a n)
unfolding row
row_next g zero a = refl
row_next g (suc n) a = ap (λ r. g (suc a) ∷ r) (row_next g n (suc a))

-- A list is the table of its members.
pub map_places : {A B : Type 0} (f : A → B) (z : A) (l : List A) → map (λ i. f (get_or l i z)) (below (length l)) ≡ map f l
unfolding below row
map_places f z [] = refl
map_places f z (x ∷ xs) =
    ap (λ r. f x ∷ r) (row_next (λ i. f (get_or (x ∷ xs) i z)) (length xs) 0 ∙ map_places f z xs)

-- A sum above zero has a term above zero.
sum_positive : {A : Type 0} (f : A → ℕ) (l : List A) → 0 < sum (map f l) → (x : A) × Mem x l × (0 < f x)
unfolding sum
sum_positive f [] h = absurd (omega arith)
sum_positive f (y ∷ ys) h = by_test (ltb 0 (f y))
    (λ e. (y, here refl, ltb-true 0 (f y) e))
    (λ e. let w = sum_positive f ys (omega (arith, ltb-false 0 (f y) e)) in (w.0, there w.1, w.2))

module _ (J : Job) where
  -- Each piece before i is finished at moment t.
  pub cleared : ℕ → ℕ → Bool
  cleared t i = every (λ l. is_finished (work_at J t) l.before) (links_into J i)

  -- The moment by which all is handed over to i, once the pieces before it are finished; and the longest delay into i.
  hand_moment : ℕ → ℕ → ℕ
  hand_moment t i = greatest 0 (map (λ l. finish_at J t l.before + delay J l) (links_into J i))

  longest : ℕ → ℕ
  longest i = greatest 0 (map (delay J) (links_into J i))

  wait : ℕ → ℕ → ℕ
  wait t i = when (cleared t i) (hand_moment t i - t) (longest i)

  all_left : ℕ → ℕ
  all_left t = sum (map (left_at J t) (below (piece_count J)))

  all_wait : ℕ → ℕ
  all_wait t = sum (map (wait t) (below (piece_count J)))

  last_release : ℕ
  last_release = greatest 0 (map (λ p. p.release) J.pieces)

  release_past : (i : ℕ) → i < piece_count J → (piece J i).release ≤ last_release
  unfolding last_release
  release_past i h =
      greatest_of (λ p. p.release) 0 J.pieces (piece J i) (place_mem no_piece J.pieces i h)

  pub cleared_finished : (t i : ℕ) → cleared t i ≡ true → (l : Link) → Mem l (links_into J i) → left_at J t l.before ≡ 0
  unfolding cleared is_finished
  cleared_finished t i h l m = eqb-true _ 0 (every_mem (λ l. is_finished (work_at J t) l.before) (links_into J i) h l m)

  pub finished_cleared : (t i : ℕ) → ((l : Link) → Mem l (links_into J i) → left_at J t l.before ≡ 0) → cleared t i ≡ true
  unfolding cleared is_finished
  finished_cleared t i h = every_intro (λ l. is_finished (work_at J t) l.before) (links_into J i) (λ l m. eq-eqb _ 0 (h l m))

  module _ (sound : Sound J) where
    before_inside : (i : ℕ) (l : Link) → Mem l (links_into J i) → l.before < piece_count J
    before_inside i l m = (link_fit J sound l (into_link J i l m).0).before_one

    hand_bound : (t i : ℕ) → hand_moment t i ≤ t + longest i
    unfolding hand_moment longest
    hand_bound t i =
        greatest_within (λ l. finish_at J t l.before + delay J l) 0 (t + greatest 0 (map (delay J) (links_into J i)))
        (links_into J i) (omega arith)
        (λ l m. omega (arith, finish_past J t l.before (before_inside i l m), greatest_of (delay J) 0 (links_into J i) l m))

    wait_most : (t i : ℕ) → wait t i ≤ longest i
    unfolding wait when
    wait_most t i = by_test (cleared t i)
        (λ e. rw (e, when) (omega (arith, hand_bound t i)))
        (λ e. rw (e, when) (omega arith))

    cleared_stays : (t i : ℕ) → cleared t i ≡ true → (cleared (suc t) i ≡ true) × (hand_moment (suc t) i ≡ hand_moment t i)
    unfolding hand_moment
    cleared_stays t i h = (
      finished_cleared (suc t) i
          (λ l m. omega (arith, cleared_finished t i h l m, left_falls J t l.before (before_inside i l m))),
      ap (greatest 0) (map_same (λ l. finish_at J (suc t) l.before + delay J l)
          (λ l. finish_at J t l.before + delay J l) (links_into J i)
          (λ l m. ap (λ p. p.finish + delay J l)
          (finished_stays J t l.before (before_inside i l m) (cleared_finished t i h l m)))),
    )

    wait_next : (t i : ℕ) → cleared t i ≡ true → wait (suc t) i ≡ hand_moment t i - suc t
    unfolding wait
    wait_next t i h =
        let w = cleared_stays t i h in
        when_true _ _ _ w.0 ∙ ap (λ x. x - suc t) w.1

    wait_falls : (t i : ℕ) → wait (suc t) i ≤ wait t i
    unfolding wait
    wait_falls t i = by_test (cleared t i)
        (λ e. let q : wait t i ≡ hand_moment t i - t = when_true _ _ _ e in omega (arith, wait_next t i e))
        (λ e. let q : wait t i ≡ longest i = when_false _ _ _ e in omega (arith, wait_most (suc t) i))

    all_left_falls : (t : ℕ) → all_left (suc t) ≤ all_left t
    unfolding all_left
    all_left_falls t =
        sum_le (left_at J (suc t)) (left_at J t) (below (piece_count J)) (λ i m. left_falls J t i (mem_below _ i m))

    all_wait_falls : (t : ℕ) → all_wait (suc t) ≤ all_wait t
    unfolding all_wait
    all_wait_falls t = sum_le (wait (suc t)) (wait t) (below (piece_count J)) (λ i m. wait_falls t i)

    module _ (free : ring_piece J ≡ none) where
      -- An unfinished piece all of whose pieces before are finished.
      pub record Next (t : ℕ) : Type 0 where
        pub number : ℕ
        pub inside : number < piece_count J
        pub unfinished : 0 < left_at J t number
        pub no_wait : cleared t number ≡ true

      -- As long as a piece is unfinished there is one whose pieces before are finished.
      pub next_piece : (t i : ℕ) → i < piece_count J → 0 < left_at J t i → Next t
      unfolding cleared is_finished
      next_piece t =
          along_before J sound free {P = λ j. 0 < left_at J t j → Next t}
          (λ j h prior u. by_test (cleared t j)
          (λ e. record { number = j; inside = h; unfinished = u; no_wait = e })
          (λ e. let w = every_fails (λ l. is_finished (work_at J t) l.before) (links_into J j) e in
          let p = into_link J j w.0 w.1 in
          let nz : left_at J t w.0.before ≡ 0 → ⊥ = eqb-false _ 0 w.2 in
          prior w.0 p.0 p.1 (omega arith)))

      -- A desk works on p in slot t: less is left.
      busy : (t d p : ℕ) → worked J d t ≡ some p → all_left (suc t) + all_wait (suc t) < all_left t + all_wait t
      unfolding all_left
      busy t d p e =
          let c = (worked_chosen J d t p e).waits in
          let on : worked J (desk J p) t ≡ some p = ap (λ x. worked J x t) c.at_desk ∙ e in
          let one : left_at J (suc t) p + 1 ≤ left_at J t p = omega (arith, left_worked J t p c.inside on) in
          let less : all_left (suc t) + 1 ≤ all_left t =
          sum_gap (left_at J (suc t)) (left_at J t) 1 (below (piece_count J))
          (λ i m. left_falls J t i (mem_below _ i m)) p (below_mem _ p c.inside) one in
          omega (arith, all_wait_falls t)

      -- The desk of a piece with nothing unfinished before it rests: the piece waits for what is to be handed over.
      idle : (t : ℕ) (x : Next t) → last_release ≤ t → worked J (desk J x.number) t ≡ none
          → all_left (suc t) + all_wait (suc t) < all_left t + all_wait t
      unfolding worked wait hand_moment all_wait
      idle t x h e =
          let i = x.number in
          let unready : is_ready J (work_at J t) t i ≡ false =
          by_test (is_ready J (work_at J t) t i)
          (λ r. absurd (choice-none J (work_at J t) (desk J i) t (always_open J (desk J i) t) e i
          (record { inside = x.inside; at_desk = refl; unfinished = x.unfinished; ready_then = r })))
          (λ r. r) in
          let w = unready_link J (work_at J t) t i (omega (arith, release_past i x.inside)) unready in
          let l = w.0 in
          let late : t < finish_at J t l.before + delay J l =
          by_test (ltb t (finish_at J t l.before + delay J l))
          (λ q. ltb-true _ _ q)
          (λ q. true_or_false (sym (fact_handed J (work_at J t) t l (cleared_finished t i x.no_wait l w.1)
          (ltb-false t (finish_at J t l.before + delay J l) q)) ∙ w.2)) in
          let hand : finish_at J t l.before + delay J l ≤ hand_moment t i =
          greatest_of (λ l. finish_at J t l.before + delay J l) 0 (links_into J i) l w.1 in
          let now : wait t i ≡ hand_moment t i - t = when_true _ _ _ x.no_wait in
          let one : wait (suc t) i + 1 ≤ wait t i = omega (arith, wait_next t i x.no_wait) in
          let less : all_wait (suc t) + 1 ≤ all_wait t =
          sum_gap (wait (suc t)) (wait t) 1 (below (piece_count J)) (λ j m. wait_falls t j) i
          (below_mem _ i x.inside) one in
          omega (arith, all_left_falls t)

      falls : (t : ℕ) → last_release ≤ t → 0 < all_left t → all_left (suc t) + all_wait (suc t) < all_left t + all_wait t
      unfolding all_left
      falls t h u =
          let w = sum_positive (left_at J t) (below (piece_count J)) u in
          let x = next_piece t w.0 (mem_below _ w.0 w.1) w.2 in
          by_choice (worked J (desk J x.number) t) (λ e. idle t x h e) (λ p e. busy t (desk J x.number) p e)

      runs_out : (k : ℕ) → (all_left (last_release + k) ≡ 0)
          ⊎ (all_left (last_release + k) + all_wait (last_release + k) + k ≤ all_left last_release + all_wait last_release)
      runs_out zero = let z : last_release + 0 ≡ last_release = omega arith in inr (rw z (omega arith))
      runs_out (suc k) = go (runs_out k)
        where
          t : ℕ
          t = last_release + k

          z : last_release + suc k ≡ suc (last_release + k)
          z = omega arith

          go : (all_left (last_release + k) ≡ 0)
              ⊎ (all_left (last_release + k) + all_wait (last_release + k) + k ≤ all_left last_release + all_wait last_release)
              → (all_left (last_release + suc k) ≡ 0)
              ⊎ (all_left (last_release + suc k) + all_wait (last_release + suc k) + suc k ≤ all_left last_release + all_wait last_release)
          go (inl e) = inl (rw z (omega (arith, all_left_falls (last_release + k))))
          go (inr e) = by_test (ltb 0 (all_left (last_release + k)))
              (λ q. inr (rw z (omega (arith, falls (last_release + k) (omega arith) (ltb-true 0 _ q)))))
              (λ q. inl (rw z (omega (arith, all_left_falls (last_release + k), ltb-false 0 (all_left (last_release + k)) q))))

      durations : ℕ
      durations = sum (map (λ p. p.duration) J.pieces)

      delays : ℕ
      delays = sum (map longest (below (piece_count J)))

      left_bound : all_left last_release ≤ durations
      unfolding all_left durations
      left_bound =
          let q : map (duration J) (below (piece_count J)) ≡ map (λ p. p.duration) J.pieces =
          map_places (λ p. p.duration) no_piece J.pieces in
          rw (← q) (sum_le (left_at J last_release) (duration J) (below (piece_count J))
          (λ i m. left_whole J last_release i (mem_below _ i m)))

      wait_bound : all_wait last_release ≤ delays
      unfolding all_wait delays
      wait_bound = sum_le (wait last_release) longest (below (piece_count J)) (λ i m. wait_most last_release i)

      horizon_parts : horizon J ≡ last_release + (durations + delays)
      unfolding horizon last_release durations delays longest
      horizon_parts = omega arith

      -- Every piece is finished by the horizon.
      pub all_finished : (i : ℕ) → i < piece_count J → left_at J (horizon J) i ≡ 0
      unfolding all_left
      all_finished i h =
          let done : all_left (horizon J) ≡ 0 = rw horizon_parts (go (runs_out (durations + delays))) in
          omega (arith, sum_mem (left_at J (horizon J)) (below (piece_count J)) i (below_mem _ i h))
        where
          go : (all_left (last_release + (durations + delays)) ≡ 0)
              ⊎ (all_left (last_release + (durations + delays)) + all_wait (last_release + (durations + delays)) + (durations + delays)
              ≤ all_left last_release + all_wait last_release)
              → all_left (last_release + (durations + delays)) ≡ 0
          go (inl e) = e
          go (inr e) = omega (arith, left_bound, wait_bound)

      -- Some piece has no piece before it.
      first_piece : (i : ℕ) → i < piece_count J → (f : ℕ) × (f < piece_count J) × (links_into J f ≡ [])
      first_piece =
          along_before J sound free {P = λ j. (f : ℕ) × (f < piece_count J) × (links_into J f ≡ [])}
          (λ j h prior. go j h (λ l m. prior l (into_link J j l m).0 (into_link J j l m).1) (links_into J j) refl)
        where
          go : (j : ℕ) → j < piece_count J
              → ((l : Link) → Mem l (links_into J j) → (f : ℕ) × (f < piece_count J) × (links_into J f ≡ []))
              → (ls : List Link) → links_into J j ≡ ls → (f : ℕ) × (f < piece_count J) × (links_into J f ≡ [])
          go j h prior [] e = (j, h, e)
          go j h prior (l ∷ ls) e = prior l (rw e (here refl))

      longest_most : (i : ℕ) → longest i ≤ 480
      unfolding longest
      longest_most i =
          greatest_within (delay J) 0 480 (links_into J i) (omega arith)
          (λ l m. delay_most J sound l (into_link J i l m).0)

      delays_most : delays ≤ 255 * 480
      unfolding delays longest greatest
      delays_most = by_test (ltb 0 (piece_count J))
          (λ e. let f = first_piece 0 (ltb-true 0 _ e) in
          let none_before : longest f.0 + 480 ≤ 480 = rw f.2 (omega arith) in
          let gap : sum (map longest (below (piece_count J))) + 480 ≤ sum (map (λ i. 480) (below (piece_count J))) =
          sum_gap longest (λ i. 480) 480 (below (piece_count J)) (λ i m. longest_most i) f.0
          (below_mem _ f.0 f.1) none_before in
          omega (arith, sum_same 480 (below (piece_count J)), length-below (piece_count J), sound.few_pieces))
          (λ e. let all : sum (map longest (below (piece_count J))) ≤ sum (map (λ i. 480) (below (piece_count J))) =
          sum_le longest (λ i. 480) (below (piece_count J)) (λ i m. longest_most i) in
          omega (arith, sum_same 480 (below (piece_count J)), length-below (piece_count J), ltb-false 0 (piece_count J) e))

      durations_most : durations ≤ 256 * 960
      unfolding durations
      durations_most =
          let q : map (duration J) (below (piece_count J)) ≡ map (λ p. p.duration) J.pieces =
          map_places (λ p. p.duration) no_piece J.pieces in
          let all : sum (map (duration J) (below (piece_count J))) ≤ sum (map (λ i. 960) (below (piece_count J))) =
          sum_le (duration J) (λ i. 960) (below (piece_count J))
          (λ i m. (fits J sound i (mem_below _ i m)).duration_most) in
          rw (← q) (omega (arith, sum_same 960 (below (piece_count J)), length-below (piece_count J), sound.few_pieces))

      release_most : last_release ≤ 40000
      unfolding last_release
      release_most =
          let q : map (λ i. (piece J i).release) (below (piece_count J)) ≡ map (λ p. p.release) J.pieces =
          map_places (λ p. p.release) no_piece J.pieces in
          rw (← q) (greatest_within (λ i. (piece J i).release) 0 40000 (below (piece_count J)) (omega arith)
          (λ i m. (fits J sound i (mem_below _ i m)).release_most))

      -- The horizon lies at most at 40,000 + 256 x 960 + 255 x 480.
      pub horizon_most : horizon J ≤ 408160
      horizon_most = omega (arith, horizon_parts, release_most, durations_most, delays_most)
