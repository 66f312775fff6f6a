-- From the contract's side to the steps': the pieces and links given make a job whose plan the tables hold step by step,
-- and where no step is left the tables have the whole plan.
use Prim.Native.Nat.{ℕ, ◌≤◌, ◌<◌, ◌%◌}
use mathlib.Core.Bool.{Bool, true}
use mathlib.Core.List.{List, []}
use mathlib.Core.Logic.{inl, inr}
use mathlib.Core.Path.{◌≡◌, refl, sym, ap, ◌∙◌}
use native.Mathlib.Omega.{arith}
use borrow.Author.Tests.{lt-ltb}
use lib.ListN.{length, get_or, take}
use Rattle.std.specs.declared.option.Option.TheVariants.{None}
use Rattle.rules.specs.Job.{Job}
use Rattle.rules.specs.Tables.{job_of, desks_of, durations_of, releases_of, befores_of, afters_of, starts_of}
use Rattle.rules.specs.Tables.{finishes_of, run_pieces, run_froms, run_untils, no_link}
use Rattle.rules.specs.Urgency.{start, finish, horizon}
use Rattle.rules.specs.declared.Link.{Link}
use Rattle.rules.specs.declared.Piece.{Piece}
use Rattle.rules.specs.declared.Run.{Run}
use Rattle.rules.specs.declared.Span.{Span}
use Rattle.laws.proofs.Columns.{get_or-run_pieces, get_or-befores, get_or-afters}
use Rattle.laws.proofs.Finishing.{all_finished, horizon_most}
use Rattle.laws.proofs.Latest.{latest_near}
use Rattle.laws.proofs.Sound.{LinkFits, fits, link_fit, place_mem}
use Rattle.links.specs.Links.{links_to, Ties as Between}
use Rattle.slots.specs.Stretch.{at}
use Rattle.slots.proofs.Ended.{Ended, ended_same, ended_runs}
use Rattle.slots.proofs.Growth.{runs-grown}
use Rattle.handing.proofs.Opened.{opened_few}
use Rattle.handing.specs.Open.{OpenIn, waiting_in}
use Rattle.spending.specs.declared.Standing.{Standing}
use Rattle.steps.specs.Choice.{View, view, Best, Choice, Decided, never, whom}
use Rattle.steps.specs.Handover.{ties, Waiting, hand_to}
use Rattle.steps.specs.Keys.{no_key}
use Rattle.steps.specs.Log.{Log, log, note_to}
use Rattle.steps.specs.Opening.{Among, unfinished, Opening, Lookable, Working, spent_to}
use Rattle.steps.specs.States.{left_of, ready_of}
use Rattle.steps.specs.Tables.{Tables, Listed}
use Rattle.steps.specs.Work.{Work, work, work_to}
use Rattle.steps.proofs.Alike.{decided_alike, opened_length, opened_at, among_table, among_opened}
use Rattle.steps.proofs.Begin.{begun-work, begun_waits, begun-log}
use Rattle.steps.proofs.Precedence.{key_tells, key_somebody}
use Rattle.steps.proofs.Scores.{scores_most}
use Rattle.steps.proofs.Step.{Held, few_pieces, few_desks, ahead, within, finished, step}
use Rattle.steps.proofs.Tables.{tables_of, listed}
use Rattle.urgency.proofs.OpenTable.{opening_then}
use Rattle.urgency.specs.Plan.{Ranked, Planned, Begun}

module _ (ps : List Piece) (ls : List Link) (keys : List ℕ) where
  abbrev pub job : Job
  job = job_of ps ls

  abbrev T : Tables
  T = tables_of ps ls keys

  abbrev pub seen : ℕ → Work → Waiting → View
  seen t w s = view t T.desks T.keys w.left s.ready

  -- The loop stands at moment t: the tables hold the plan, and one has the open pieces.
  pub record StandsAt (t : ℕ) (x : Standing) (ws : List Span) (rs : List Run) : Type 0 where
    pub held : Held job (length ps) (desks_of ps) t (work (left_of x.states) (starts_of ws) (finishes_of ws))
        (waiting_in x.opened x.states) (log rs x.lasts.places)
    pub opening : OpenIn (length ps) (unfinished (left_of x.states)) x.opened

  -- What a decision at moment t says of the next one.
  pub record Turn (t : ℕ) (x : Standing) (ws : List Span) (rs : List Run) (count : ℕ) (chosen busy : List ℕ) (next : ℕ)
      : Type 0 where
    pub ahead : t < next
    pub within : next < never → next ≤ horizon job
    pub small : next < never → next ≤ 408160
    pub working : Working count chosen busy x.opened.count x.opened.table
    pub inside : (q : ℕ) → q < count → whom chosen busy q < length ps
    pub goes_on : next < never → (x' : Standing) (ws' : List Span) (rs' : List Run)
        → work (left_of x'.states) (starts_of ws') (finishes_of ws')
        ≡ work_to (durations_of ps) t next chosen busy count (work (left_of x.states) (starts_of ws) (finishes_of ws))
        → log rs' x'.lasts.places ≡ note_to t next chosen busy count (log rs x.lasts.places)
        → waiting_in x'.opened x'.states
        ≡ hand_to (ties T.desks T.befores T.afters T.handovers) (length ls) next (left_of x'.states) chosen busy count
        (waiting_in x.opened x.states)
        → OpenIn (length ps) (spent_to chosen busy (left_of x'.states) (unfinished (left_of x.states)) count) x'.opened
        → StandsAt next x' ws' rs'
    pub ends : next ≡ never
        → Planned job (length ps) (desks_of ps) (starts_of ws) (finishes_of ws) (run_pieces rs) (run_froms rs)
        (run_untils rs) (length rs)

  module _ (g : Ranked job (length ps) keys) where
    lists : Listed job T
    lists = listed ps ls keys g.key_is

    pub few : T.pieces ≤ 256
    few = few_pieces job g.sound g.free T lists

    pub desks_few : (i : ℕ) → i < T.pieces → get_or T.desks i 0 < 32
    desks_few i h = rw (lists.desk_is i h) at (few_desks job g.sound g.free T lists i h)

    -- The links name pieces of the job.
    fit : (k : ℕ) → k < length ls → LinkFits (length ps) (get_or ls k no_link)
    fit k h = link_fit job g.sound (get_or ls k no_link) (place_mem no_link ls k h)

    pub between : Between (length ps) (length ls) (befores_of ls) (afters_of ls)
    between = record {
      few_pieces = few;
      few_links = g.sound.few_links;
      before_one = λ k h. rw (get_or-befores ls k) (fit k h).before_one;
      after_one = λ k h. rw (get_or-afters ls k) (fit k h).after_one;
    }

    -- Before the first slot.
    pub before_first : (x : Standing) (ws : List Span) (rs : List Run)
        → Begun (length ps) (durations_of ps) (releases_of ps) (left_of x.states) (ready_of x.states) (starts_of ws)
        (finishes_of ws)
        → length x.opened.waits ≡ 256
        → ((i : ℕ) → i < 256 → get_or x.opened.waits i 0 ≡ links_to (length ls) (afters_of ls) i)
        → length x.lasts.places ≡ 32 → ((d : ℕ) → d < 32 → get_or x.lasts.places d None ≡ None) → rs ≡ []
        → Held job (length ps) (desks_of ps) 0 (work (left_of x.states) (starts_of ws) (finishes_of ws))
        (waiting_in x.opened x.states) (log rs x.lasts.places)
    before_first x ws rs b ms m ls l rs_none = record {
      in_time = omega arith;
      working = begun-work job g.sound T.pieces lists.count T.durations lists.duration_is
          (work (left_of x.states) (starts_of ws) (finishes_of ws)) b.left_sized b.starts_sized b.finishes_sized b.left_is
          b.start_is b.finish_is;
      waiting = begun_waits job g.sound T.pieces lists.count T.links T.releases T.befores T.afters
          T.handovers lists.release_is lists.links_are (waiting_in x.opened x.states) ms b.ready_sized
          (λ i h. m i (omega (arith, few))) b.ready_is;
      logging = begun-log job g.sound T.pieces lists.count T.desks (log rs x.lasts.places) rs_none ls l;
    }

    -- No moment of the plan is the last that a number can say, and the table may be looked at.
    pub in_time : (t : ℕ) (w : Work) (s : Waiting) (l : Log) → Held job T.pieces T.desks t w s l → t < never
    in_time t w s l h = omega (arith, h.in_time, horizon_most job g.sound g.free)

    pub lookable : (count : ℕ) (table place : List ℕ) (U : ℕ → Bool) (waits opened : List ℕ)
        → Opening T.pieces count table place U waits → opened ≡ take count table → Lookable T.pieces opened T.desks T.keys
    lookable count table place U waits opened o is =
        let fits : count ≤ length table =
        omega (arith, opened_few T.pieces count table place U waits o, few, o.sized) in
        let here : (q : ℕ) → q < length opened → q < count = λ q h. omega (arith, opened_length table opened count fits is) in
        let same : (q : ℕ) → q < length opened → get_or opened q 0 ≡ get_or table q 0 =
        λ q h. opened_at table opened count fits is q (here q h) in
        record {
          few = few;
          small = λ q h. rw (same q h) (o.inside q (here q h));
          desk_most = λ q h. rw (same q h) (desks_few (get_or table q 0) (o.inside q (here q h)));
          telling = λ q h. rw (same q h) (tells (get_or table q 0) (o.inside q (here q h)));
          own_key = λ q h. rw (same q h) (own (get_or table q 0) (o.inside q (here q h)));
        }
      where
        tells : (i : ℕ) → i < T.pieces → get_or T.keys i 0 % 256 ≡ i
        tells i h = rw (g.key_is i h) (key_tells _ _ (omega (arith, few)))

        own : (i : ℕ) → i < T.pieces → get_or T.keys i 0 < no_key
        own i h =
            rw (g.key_is i h) (key_somebody _ _ (omega (arith, few))
            (omega (arith, (latest_near job g.sound g.free i h).up_most)))

    -- Before the first slot every piece is unfinished.
    pub all_unfinished : (left ready starts finishes : List ℕ)
        → Begun (length ps) (durations_of ps) (releases_of ps) left ready starts finishes → (i : ℕ) → i < length ps
        → unfinished left i ≡ true
    all_unfinished left ready starts finishes b i h =
        lt-ltb 0 (get_or left i 0)
        (omega (arith, b.left_is i h, lists.duration_is i h, (fits job g.sound i h).duration_least))

    -- It is decided.
    module _ (t : ℕ) (x : Standing) (ws : List Span) (rs : List Run) (h : StandsAt t x ws rs) (opened : List ℕ)
        (is : opened ≡ take x.opened.count x.opened.table) (count : ℕ) (chosen busy : List ℕ) (next : ℕ)
        (found : Decided (view t (desks_of ps) keys (left_of x.states) (ready_of x.states))
        (Among opened (length opened)) count chosen busy next) where
      abbrev w : Work
      w = work (left_of x.states) (starts_of ws) (finishes_of ws)

      abbrev s : Waiting
      s = waiting_in x.opened x.states

      abbrev l : Log
      l = log rs x.lasts.places

      fits_table : x.opened.count ≤ length x.opened.table
      fits_table =
          omega (
            arith,
            opened_few (length ps) x.opened.count x.opened.table x.opened.place (unfinished (left_of x.states))
                x.opened.waits h.opening,
            few,
            h.opening.sized,
          )

      d : Decided (seen t w s) (Among x.opened.table x.opened.count) count chosen busy next
      d =
          decided_alike (seen t w s) (Among opened (length opened)) (Among x.opened.table x.opened.count)
          (among_table x.opened.table opened x.opened.count fits_table is)
          (among_opened x.opened.table opened x.opened.count fits_table is) count chosen busy next found

      next_ahead : t < next
      next_ahead =
          ahead job g.sound g.free T lists t w s l h.held x.opened.count x.opened.table x.opened.place h.opening count
          chosen busy next d

      next_within : next < never → next ≤ horizon job
      next_within c =
          within job g.sound g.free T lists t w s l h.held x.opened.count x.opened.table x.opened.place h.opening count
          chosen busy next d c

      next_small : next < never → next ≤ 408160
      next_small c = omega (arith, next_within c, horizon_most job g.sound g.free)

      -- The pieces that the desks chose are open, and no two are one, since each stands on its own desk.
      best : (q : ℕ) → q < count
          → Best (seen t w s) (Among x.opened.table x.opened.count) (get_or busy q 0) (whom chosen busy q)
      unfolding Choice
      best q b = go (d.looked_at.choices (get_or busy q 0) (d.looked_at.working.desk_most q b))
        where
          go : Choice (seen t w s) (Among x.opened.table x.opened.count) count chosen busy (get_or busy q 0)
              → Best (seen t w s) (Among x.opened.table x.opened.count) (get_or busy q 0) (whom chosen busy q)
          go (inl z) = z.1
          go (inr z) = absurd (z.0 (q, b, refl))

      working : Working count chosen busy x.opened.count x.opened.table
      working = record {
        there = λ q b. (best q b).inside;
        apart = λ p q b k z. d.looked_at.working.once p q b k
            (sym (best p b).asks.0 ∙ ap (λ i. get_or (desks_of ps) i 0) z ∙ (best q k).asks.0);
      }

      chosen_inside : (q : ℕ) → q < count → whom chosen busy q < length ps
      chosen_inside q b = let m = (best q b).inside in rw m.2 at (h.opening.inside m.0 m.1)

      -- One step more, with what the code made of the tables.
      stands_next : next < never → (x' : Standing) (ws' : List Span) (rs' : List Run)
          → work (left_of x'.states) (starts_of ws') (finishes_of ws') ≡ work_to (durations_of ps) t next chosen busy count w
          → log rs' x'.lasts.places ≡ note_to t next chosen busy count l
          → waiting_in x'.opened x'.states
          ≡ hand_to (ties T.desks T.befores T.afters T.handovers) (length ls) next (left_of x'.states) chosen busy count s
          → OpenIn (length ps) (spent_to chosen busy (left_of x'.states) (unfinished (left_of x.states)) count) x'.opened
          → StandsAt next x' ws' rs'
      stands_next c x' ws' rs' a b e o =
          let w' : Work = work (left_of x'.states) (starts_of ws') (finishes_of ws') in
          record {
            held = held_next w' a (waiting_in x'.opened x'.states) (log rs' x'.lasts.places) b e;
            opening = opening_then (durations_of ps) t next count chosen busy w w' (length ps) x'.opened.count
                x'.opened.table x'.opened.place x'.opened.waits a o;
          }
        where
          held_next : (w' : Work) → w' ≡ work_to T.durations t next chosen busy count w
              → (s' : Waiting) (l' : Log) → l' ≡ note_to t next chosen busy count l
              → s' ≡ hand_to (ties T.desks T.befores T.afters T.handovers) T.links next w'.left chosen busy count s
              → Held job T.pieces T.desks next w' s' l'
          held_next w' a s' l' b e =
              let k = step job g.sound g.free T lists t w s l h.held x.opened.count x.opened.table x.opened.place h.opening
              count chosen busy next d c in
              rw (e, b, a) k

      -- No step is left.
      all_done : next ≡ never → Ended job t
      all_done c =
          finished job g.sound g.free T lists t w s l h.held x.opened.count x.opened.table x.opened.place h.opening count
          chosen busy next d c

      planned : next ≡ never
          → Planned job (length ps) (desks_of ps) (starts_of ws) (finishes_of ws) (run_pieces rs) (run_froms rs)
          (run_untils rs) (length rs)
      unfolding start finish
      planned c =
          let e : Ended job t = all_done c in
          let f : Ended job (horizon job) = all_finished job g.sound g.free in
          let same : (i : ℕ) → i < length ps → at job t i ≡ at job (horizon job) i =
          λ i b. ended_same job t (horizon job) e f i b in
          record {
            start_is = λ i b. h.held.working.start_is i b ∙ ap (λ p. p.start) (same i b);
            finish_is = λ i b. h.held.working.finish_is i b ∙ ap (λ p. p.finish) (same i b);
            runs_are = λ d b.
                h.held.logging.runs_are d b ∙ ended_runs job t (horizon job) e f d ∙ sym (runs-grown job d);
            inside = λ k b. rw (get_or-run_pieces rs k) (h.held.logging.inside k b);
            few = omega (arith, h.held.logging.few, scores_most job (length ps) (λ d. t));
            sized = record { starts_sized = h.held.working.start_sized; finishes_sized = h.held.working.finish_sized };
          }

      pub turn : Turn t x ws rs count chosen busy next
      turn = record {
        ahead = next_ahead;
        within = next_within;
        small = next_small;
        working = working;
        inside = chosen_inside;
        goes_on = stands_next;
        ends = planned;
      }
