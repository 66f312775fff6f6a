-- The tables before the first slot hold the plan at moment 0.
use Prim.Native.Nat.{ℕ, zero, suc, ◌+◌, ◌<◌}
use mathlib.Core.Bool.{false}
use mathlib.Core.List.{List, [], ◌∷◌, ◌++◌, map, map-append, Memᴰ as Mem}
use mathlib.Core.Logic.{inl}
use mathlib.Core.Path.{◌≡◌, refl, sym, ap, ◌∙◌}
use native.Mathlib.Omega.{arith}
use lib.Dec.{eqb}
use lib.ListN.{length, get_or}
use Rattle.std.specs.declared.option.Option.TheVariants.{None}
use Rattle.rules.specs.Words.{when, below}
use Rattle.rules.specs.Job.{Job, piece_count, piece, duration}
use Rattle.rules.specs.Tables.{Sound, link_in}
use Rattle.rules.specs.declared.Link.{Link}
use Rattle.laws.proofs.Slots.{work_start}
use Rattle.laws.proofs.Sound.{fits, link_fit}
use Rattle.links.specs.Links.{counted, links_to}
use Rattle.slots.specs.Growth.{runs_until}
use Rattle.slots.specs.Standing.{done, waits_of, ready_of, links_at}
use Rattle.slots.specs.Stretch.{at}
use Rattle.slots.proofs.Standing.{left_undone, fresh_waits, fresh_ready}
use Rattle.steps.specs.Handover.{Waiting}
use Rattle.steps.specs.Log.{Log}
use Rattle.steps.specs.Work.{Work}
use Rattle.steps.proofs.LinkStep.{WaitHeld}
use Rattle.steps.proofs.LogHeld.{LastRun, LogHeld}
use Rattle.steps.proofs.LogLists.{none_logged}
use Rattle.steps.proofs.Tables.{below_more}
use Rattle.steps.proofs.WorkStep.{WorkHeld}

-- The count of links into a piece, over the tables and over the job.
at_more : (i : ℕ) (ls : List Link) (l : Link) → links_at i (ls ++ (l ∷ [])) ≡ links_at i ls + when (eqb l.after i) 1 0
unfolding links_at
at_more i [] l = omega arith
at_more i (x ∷ ls) l =
    let ih : links_at i (ls ++ (l ∷ [])) ≡ links_at i ls + when (eqb l.after i) 1 0 = at_more i ls l in omega arith

into_links : (befores afters handovers : List ℕ) (i m : ℕ)
    → links_to m afters i ≡ links_at i (map (link_in befores afters handovers) (below m))
unfolding links_to counted links_at below link_in
into_links befores afters handovers i zero = refl
into_links befores afters handovers i (suc m) =
    let f : ℕ → Link = link_in befores afters handovers in
    let ih : links_to m afters i ≡ links_at i (map f (below m)) = into_links befores afters handovers i m in
    let e : links_at i (map f (below (suc m))) ≡ links_at i (map f (below m)) + when (eqb (get_or afters m 0) i) 1 0 =
    ap (links_at i) (ap (map f) (below_more m) ∙ map-append f (below m) (m ∷ [])) ∙ at_more i (map f (below m)) (f m) in
    omega arith

module _ (J : Job) (sound : Sound J) (n : ℕ) (count : piece_count J ≡ n) where
  pub begun-work : (durations : List ℕ) → ((i : ℕ) → i < n → duration J i ≡ get_or durations i 0) → (w : Work)
      → length w.left ≡ 256 → length w.start ≡ 256 → length w.finish ≡ 256
      → ((i : ℕ) → i < n → get_or w.left i 0 ≡ get_or durations i 0) → ((i : ℕ) → i < n → get_or w.start i 0 ≡ 0)
      → ((i : ℕ) → i < n → get_or w.finish i 0 ≡ 0) → WorkHeld n (at J 0) w
  begun-work durations d w a b c l s f = record {
    left_sized = a;
    start_sized = b;
    finish_sized = c;
    left_is = λ i h. l i h ∙ sym (d i h) ∙ ap (λ p. p.left) (sym (work_start J i));
    start_is = λ i h. s i h ∙ ap (λ p. p.start) (sym (work_start J i));
    finish_is = λ i h. f i h ∙ ap (λ p. p.finish) (sym (work_start J i));
  }

  -- No piece is finished yet, since each has a duration.
  none_done : (k : Link) → Mem k J.links → done (at J 0) k.before ≡ false
  none_done k m =
      left_undone (at J 0) k.before
      (omega (
        arith,
        ap (λ p. p.left) (work_start J k.before),
        (fits J sound k.before
            (link_fit J sound k m).before_one).duration_least,
      ))

  pub begun_waits : (m : ℕ) (releases befores afters handovers : List ℕ)
      → ((i : ℕ) → i < n → (piece J i).release ≡ get_or releases i 0)
      → J.links ≡ map (link_in befores afters handovers) (below m) → (s : Waiting)
      → length s.waits ≡ 256 → length s.ready ≡ 256 → ((i : ℕ) → i < n → get_or s.waits i 0 ≡ links_to m afters i)
      → ((i : ℕ) → i < n → get_or s.ready i 0 ≡ get_or releases i 0) → WaitHeld J n (at J 0) s
  unfolding waits_of ready_of
  begun_waits m releases befores afters handovers r k s a b w y = record {
    waits_sized = a;
    ready_sized = b;
    waits_is = λ i h. w i h ∙ into_links befores afters handovers i m ∙ ap (links_at i) (sym k)
        ∙ sym (fresh_waits J (at J 0) i J.links none_done);
    ready_is = λ i h. y i h ∙ sym (r i h) ∙ sym (fresh_ready J (at J 0) i (piece J i).release J.links none_done);
  }

  -- The log is empty.
  pub begun-log : (desks : List ℕ) (l : Log) → l.runs ≡ [] → length l.last ≡ 32
      → ((d : ℕ) → d < 32 → get_or l.last d None ≡ None) → LogHeld J n desks (λ d. 0) l
  unfolding LastRun runs_until
  begun-log desks l z a last = record {
    last_sized = a;
    runs_are = λ d h. rw z (none_logged desks [] [] [] d);
    lasts = λ d h. inl (last d h, rw z (none_logged desks [] [] [] d));
    inside = λ k h. absurd (empty (rw z at h));
    forward = λ k h. absurd (empty (rw z at h));
    few = rw z (omega arith);
  }
    where
      empty : {k : ℕ} → k < 0 → ⊥
      empty h = omega arith
