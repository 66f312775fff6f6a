-- Laws of one slot: who is waiting, who is chosen, and how far every piece is after the slot. They are all that is used
-- of the plan slot by slot.
use Prim.Native.Nat.{ℕ, zero, suc, ◌+◌, ◌≤◌, ◌<◌}
use mathlib.Core.Bool.{true, false, ◌&&◌}
use mathlib.Core.List.Memᴰ.{head as here}
use mathlib.Core.List.Memᴰ.{tail as there}
use mathlib.Core.List.{List, [], ◌∷◌, Memᴰ as Mem}
use mathlib.Core.Option.{Option, none, some}
use mathlib.Core.Path.{◌≡◌, refl, sym, ap, ◌∙◌}
use native.Mathlib.Omega.{arith}
use borrow.Author.Tests.{ltb-true, leb-true, eqb-true, eqb-false, eq-eqb, lt-ltb, le-leb}
use lib.Dec.{ltb, leb, eqb}
use lib.ListN.{length, length-map, get_or-map}
use Rattle.rules.specs.Words.{below, is_it}
use Rattle.rules.specs.Job.{Job, piece_count, piece, desk, duration, desk_pieces, links_into, no_piece}
use Rattle.rules.specs.Hours.{is_open}
use Rattle.rules.specs.Moments.{delay, sooner}
use Rattle.rules.specs.Urgency.{Progress, untouched, progress, is_finished, handed_over, is_ready, waiting, preferred}
use Rattle.rules.specs.Urgency.{most_urgent, choice, worked_on, after_slot, work_at, worked}
use Rattle.rules.specs.declared.Link.{Link}
use Rattle.laws.proofs.Words.{by_test, true_or_false, and_true, and_intro, mem_keep, keep_mem, every_mem, every_intro}
use Rattle.laws.proofs.Words.{every_fails, mem_below, below_mem, get_or-below, length-below, when_true, when_false}
use Rattle.laws.proofs.Order.{sooner_asym, sooner_trans, sooner_total}

pub none_or_some : {P : Type 0} {i : ℕ} → none ≡ some i → P
none_or_some e = let z : ◌≡◌ {A = ℕ} 0 1 = cc in absurd (omega arith)

pub some_inj : {i j : ℕ} → some i ≡ some j → i ≡ j
some_inj e = cc

-- The answer of a choice: nobody, or one.
pub by_choice : {P : Type 0} (o : Option ℕ) → (o ≡ none → P) → ((i : ℕ) → o ≡ some i → P) → P
by_choice none f g = f refl
by_choice (some i) f g = g i refl

pub is_it-true : (o : Option ℕ) (i : ℕ) → is_it o i ≡ true → o ≡ some i
unfolding is_it
is_it-true none i h = true_or_false (sym h)
is_it-true (some j) i h = ap some (eqb-true j i h)

pub it_is : (o : Option ℕ) (i : ℕ) → o ≡ some i → is_it o i ≡ true
unfolding is_it
it_is o i h = rw h (eq-eqb i i refl)

pub is_it-false : (o : Option ℕ) (i : ℕ) → is_it o i ≡ false → o ≡ some i → ⊥
is_it-false o i h e = true_or_false (sym (it_is o i e) ∙ h)

pub not_it : (o : Option ℕ) (i : ℕ) → (o ≡ some i → ⊥) → is_it o i ≡ false
not_it o i h = by_test (is_it o i) (λ e. absurd (h (is_it-true o i e))) (λ e. e)

module _ (J : Job) where
  pub mem_desk_pieces : (d i : ℕ) → Mem i (desk_pieces J d) → (i < piece_count J) × (desk J i ≡ d)
  unfolding desk_pieces
  mem_desk_pieces d i m =
      let w = mem_keep (λ i. eqb (desk J i) d) (below (piece_count J)) i m in
      (mem_below _ i w.0, eqb-true (desk J i) d w.1)

  pub desk_pieces_mem : (d i : ℕ) → i < piece_count J → desk J i ≡ d → Mem i (desk_pieces J d)
  unfolding desk_pieces
  desk_pieces_mem d i h e =
      keep_mem (λ i. eqb (desk J i) d) (below (piece_count J)) i (below_mem _ i h) (eq-eqb (desk J i) d e)

  -- The most urgent of a list is of the list, and goes before every other of it.
  pub urgent_none : (l : List ℕ) → most_urgent J l ≡ none → (i : ℕ) → Mem i l → ⊥
  unfolding most_urgent
  urgent_none [] h i m = elim m [ ]
  urgent_none (x ∷ xs) h i m = none_or_some (sym h)

  First : ℕ → List ℕ → Type 0
  First i l = Mem i l × ((j : ℕ) → Mem j l → (j ≡ i → ⊥) → sooner J i j ≡ true)

  first_of : (x k i : ℕ) (xs : List ℕ) → First k xs → preferred J x (some k) ≡ i → First i (x ∷ xs)
  unfolding First preferred
  first_of x k i xs w h = by_test (sooner J k x)
      (λ e. let q : k ≡ i = sym (when_true _ k x e) ∙ h in rest e q)
      (λ e. let q : x ≡ i = sym (when_false _ k x e) ∙ h in own e q)
    where
      rest : sooner J k x ≡ true → k ≡ i → First i (x ∷ xs)
      rest e q = rw (← q) (there w.0, go)
        where
          go : (j : ℕ) → Mem j (x ∷ xs) → (j ≡ k → ⊥) → sooner J k j ≡ true
          go j (here z) ne = rw z e
          go j (there m) ne = w.1 j m ne

      own : sooner J k x ≡ false → x ≡ i → First i (x ∷ xs)
      own e q = rw (← q) (here refl, go)
        where
          after_k : (j : ℕ) → sooner J x k ≡ true → (j ≡ k → ⊥) → Mem j xs → sooner J x j ≡ true
          after_k j s ne m = sooner_trans J x k j s (w.1 j m ne)

          go : (j : ℕ) → Mem j (x ∷ xs) → (j ≡ x → ⊥) → sooner J x j ≡ true
          go j (here z) ne = absurd (ne z)
          go j (there m) ne = by_test (eqb k x)
              (λ z. let same : k ≡ x = eqb-true k x z in rw same at (w.1 j m (λ r. ne (r ∙ same))))
              (λ z. let s : sooner J x k ≡ true = sooner_total J k x (eqb-false k x z) e in
              by_test (eqb j k)
              (λ r. rw (eqb-true j k r) s)
              (λ r. after_k j s (eqb-false j k r) m))

  pub urgent_first : (l : List ℕ) (i : ℕ) → most_urgent J l ≡ some i
      → Mem i l × ((j : ℕ) → Mem j l → (j ≡ i → ⊥) → sooner J i j ≡ true)
  unfolding most_urgent preferred First
  urgent_first [] i h = none_or_some h
  urgent_first (x ∷ xs) i h = by_choice (most_urgent J xs)
      (λ e. alone e (some_inj (rw e at h)))
      (λ k e. first_of x k i xs (urgent_first xs k e) (some_inj (rw e at h)))
    where
      alone : most_urgent J xs ≡ none → x ≡ i → First i (x ∷ xs)
      alone e q = (here (sym q), go)
        where
          go : (j : ℕ) → Mem j (x ∷ xs) → (j ≡ i → ⊥) → sooner J i j ≡ true
          go j (here z) ne = absurd (ne (z ∙ q))
          go j (there m) ne = absurd (urgent_none xs e j m)

  -- Piece i is waiting on desk d at moment t: of the desk, unfinished and ready.
  pub record Waits (W : List Progress) (d t i : ℕ) : Type 0 where
    pub inside : i < piece_count J
    pub at_desk : desk J i ≡ d
    pub unfinished : 0 < (progress W i).left
    pub ready_then : is_ready J W t i ≡ true

  pub mem_waiting : (W : List Progress) (d t i : ℕ) → Mem i (waiting J W d t) → Waits W d t i
  unfolding waiting
  mem_waiting W d t i m =
      let w = mem_keep (λ i. ltb 0 (progress W i).left && is_ready J W t i) (desk_pieces J d) i m in
      let p = mem_desk_pieces d i w.0 in
      let q = and_true (ltb 0 (progress W i).left) (is_ready J W t i) w.1 in
      record {
        inside = p.0;
        at_desk = p.1;
        unfinished = ltb-true 0 (progress W i).left q.0;
        ready_then = q.1;
      }

  pub waiting_mem : (W : List Progress) (d t i : ℕ) → Waits W d t i → Mem i (waiting J W d t)
  unfolding waiting
  waiting_mem W d t i w =
      keep_mem (λ i. ltb 0 (progress W i).left && is_ready J W t i) (desk_pieces J d) i
      (desk_pieces_mem d i w.inside w.at_desk)
      (and_intro _ _ (lt-ltb 0 (progress W i).left w.unfinished) w.ready_then)

  -- A desk works on a piece: the desk is open, the piece waits there, and goes before every other that does.
  pub record Chosen (W : List Progress) (d t i : ℕ) : Type 0 where
    pub opened : is_open J d t ≡ true
    pub waits : Waits W d t i
    pub first : (j : ℕ) → Waits W d t j → (j ≡ i → ⊥) → sooner J i j ≡ true

  pub choice-some : (W : List Progress) (d t i : ℕ) → choice J W d t ≡ some i → Chosen W d t i
  unfolding choice
  choice-some W d t i h = by_test (is_open J d t)
      (λ e. let w = urgent_first (waiting J W d t) i (sym (when_true _ _ none e) ∙ h) in
      record {
        opened = e;
        waits = mem_waiting W d t i w.0;
        first = λ j m ne. w.1 j (waiting_mem W d t j m) ne;
      })
      (λ e. none_or_some (sym (when_false _ (most_urgent J (waiting J W d t)) none e) ∙ h))

  pub choice-none : (W : List Progress) (d t : ℕ) → is_open J d t ≡ true → choice J W d t ≡ none → (i : ℕ) → Waits W d t i → ⊥
  unfolding choice
  choice-none W d t e h i w =
      urgent_none (waiting J W d t) (sym (when_true _ _ none e) ∙ h) i (waiting_mem W d t i w)

  -- The other way: a piece that waits and goes before every other that does is the one chosen.
  pub chosen_choice : (W : List Progress) (d t i : ℕ) → Chosen W d t i → choice J W d t ≡ some i
  chosen_choice W d t i c = by_choice (choice J W d t)
      (λ e. absurd (choice-none W d t c.opened e i c.waits))
      (λ k e. by_test (eqb k i)
      (λ q. e ∙ ap some (eqb-true k i q))
      (λ q. let ne : k ≡ i → ⊥ = eqb-false k i q in
      let o : Chosen W d t k = choice-some W d t k e in
      true_or_false (sym (c.first k o.waits ne) ∙ sooner_asym J k i (o.first i c.waits (λ r. ne (sym r))))))

  pub resting_choice : (W : List Progress) (d t : ℕ) → ((i : ℕ) → Waits W d t i → ⊥) → choice J W d t ≡ none
  resting_choice W d t h = by_choice (choice J W d t) (λ e. e) (λ i e. absurd (h i (choice-some W d t i e).waits))

  -- Readiness: from the release on, when each piece before is finished and handed over.
  pub ready_release : (W : List Progress) (t i : ℕ) → is_ready J W t i ≡ true → (piece J i).release ≤ t
  unfolding is_ready
  ready_release W t i h = leb-true _ t (and_true (leb (piece J i).release t) _ h).0

  pub ready_before : (W : List Progress) (t i : ℕ) → is_ready J W t i ≡ true
      → (l : Link) → Mem l (links_into J i) → handed_over J W t l ≡ true
  unfolding is_ready
  ready_before W t i h =
      every_mem (handed_over J W t) (links_into J i) (and_true (leb (piece J i).release t) _ h).1

  pub ready_intro : (W : List Progress) (t i : ℕ) → (piece J i).release ≤ t
      → ((l : Link) → Mem l (links_into J i) → handed_over J W t l ≡ true) → is_ready J W t i ≡ true
  unfolding is_ready
  ready_intro W t i h k =
      and_intro _ _ (le-leb (piece J i).release t h) (every_intro (handed_over J W t) (links_into J i) k)

  -- Not ready in spite of the release: here is a link that was not handed over.
  pub unready_link : (W : List Progress) (t i : ℕ) → (piece J i).release ≤ t → is_ready J W t i ≡ false
      → (l : Link) × Mem l (links_into J i) × (handed_over J W t l ≡ false)
  unfolding is_ready
  unready_link W t i h k =
      every_fails (handed_over J W t) (links_into J i)
      (rw (le-leb (piece J i).release t h) at k)

  pub handed_fact : (W : List Progress) (t : ℕ) (l : Link) → handed_over J W t l ≡ true
      → ((progress W l.before).left ≡ 0) × ((progress W l.before).finish + delay J l ≤ t)
  unfolding handed_over is_finished
  handed_fact W t l h =
      let w = and_true (eqb (progress W l.before).left 0) (leb ((progress W l.before).finish + delay J l) t) h in
      (eqb-true _ 0 w.0, leb-true _ t w.1)

  pub fact_handed : (W : List Progress) (t : ℕ) (l : Link) → (progress W l.before).left ≡ 0
      → (progress W l.before).finish + delay J l ≤ t → handed_over J W t l ≡ true
  unfolding handed_over is_finished
  fact_handed W t l h k = and_intro _ _ (eq-eqb _ 0 h) (le-leb _ t k)

  -- How far the pieces are: at the beginning, and after one more slot.
  pub work-length : (t : ℕ) → length (work_at J t) ≡ piece_count J
  unfolding work_at
  work-length zero = length-map J.pieces (λ p. untouched p.duration)
  work-length (suc t) =
      length-map (below (piece_count J)) (after_slot J t (work_at J t)) ∙ length-below (piece_count J)

  pub work_start : (i : ℕ) → progress (work_at J 0) i ≡ untouched (duration J i)
  unfolding work_at
  work_start i = get_or-map (λ p. untouched p.duration) J.pieces i no_piece

  pub work_next : (t i : ℕ) → i < piece_count J → progress (work_at J (suc t)) i ≡ after_slot J t (work_at J t) i
  unfolding work_at
  work_next t i h = get_or-below (after_slot J t (work_at J t)) (untouched 0) (piece_count J) i h

  -- Piece i is worked on in slot t, or it is not.
  pub work_on_lem : (t i : ℕ) → i < piece_count J → worked J (desk J i) t ≡ some i
      → progress (work_at J (suc t)) i ≡ worked_on (duration J i) t (progress (work_at J t) i)
  unfolding worked after_slot
  work_on_lem t i h e = work_next t i h ∙ when_true _ _ _ (it_is _ i e)

  pub work_off : (t i : ℕ) → i < piece_count J → (worked J (desk J i) t ≡ some i → ⊥)
      → progress (work_at J (suc t)) i ≡ progress (work_at J t) i
  unfolding worked after_slot
  work_off t i h e = work_next t i h ∙ when_false _ _ _ (not_it _ i e)

  pub by_work : {P : Type 0} (t i : ℕ) → (worked J (desk J i) t ≡ some i → P) → ((worked J (desk J i) t ≡ some i → ⊥) → P) → P
  by_work t i f g = by_test (is_it (worked J (desk J i) t) i) (λ e. f (is_it-true _ i e)) (λ e. g (is_it-false _ i e))

  -- Who is worked on was chosen.
  pub worked_chosen : (d t i : ℕ) → worked J d t ≡ some i → Chosen (work_at J t) d t i
  unfolding worked
  worked_chosen d t i h = choice-some (work_at J t) d t i h
