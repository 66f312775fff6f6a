-- One desk of a job: the list of its entries stands for its entries in order; so the rows are its blocks, the board holds
-- its runs, and the worst lateness over the runs is the sheet's. Assumes nothing.
use Rattle.std.proofs.Common.{ℕ, ◌≤◌, ◌<◌, List, [], ◌≡◌, ◌∙◌, sym, ap, ap₂, map, subst, length, get_or, eqb, None, ℤ}
use Rattle.std.proofs.Common.{pos, ◌-ℤ◌, arith}
use Rattle.std.proofs.Math.Option.{none}
use Rattle.std.proofs.lemmas.List.{length-map}
use mathlib.Core.List.{Memᴰ as Mem}
use Rattle.rules.specs.Words.{row, below, worst_of}
use Rattle.rules.specs.Job.{Job, desk, desk_pieces}
use Rattle.rules.specs.Hours.{is_open, open_end}
use Rattle.rules.specs.Rings.{linked, linked_by}
use Rattle.rules.specs.Tables.{job_of, desks_of, durations_of, no_link, no_run}
use Rattle.rules.specs.Urgency.{horizon}
use Rattle.rules.specs.Runs.{runs_from}
use Rattle.rules.specs.Entries.{Entry, entry, entries}
use Rattle.rules.specs.Blocks.{Block, in_order, block_end, cut_in_order, cut, block_worked}
use Rattle.rules.specs.BlockSheet.{blocks, block_runs, block_numbers}
use Rattle.rules.specs.declared.Piece.{Piece}
use Rattle.rules.specs.declared.Link.{Link}
use Rattle.rules.specs.declared.Run.{Run}
use Rattle.laws.proofs.Words.{map_same, mem_map, keep_same, keep-length, length-below}
use Rattle.laws.proofs.Joined.{map_twice, mem_of_map}
use Rattle.laws.proofs.Sound.{place_mem, link_fit}
use Rattle.laws.proofs.Latest.{latest_near}
use Rattle.laws.proofs.Hours.{always_open, next_is}
use Rattle.laws.proofs.Slots.{mem_desk_pieces}
use Rattle.laws.proofs.Finishing.{horizon_most}
use Rattle.laws.proofs.Columns.{get_or-desks, get_or-durations}
use Rattle.theory.proofs.Order.{mem_sorted, sorted_length}
use Rattle.theory.proofs.BlockMethod.{waits, in_order_lem}
use Rattle.theory.proofs.Turns.{turns_of_lem}
use Rattle.theory.proofs.RunOrder.{runs-true, runs_within}
use Rattle.demands.proofs.OneDesk.{desk_hours}
use Rattle.demands.proofs.Agreement.{entries_distinct, links_ahead}
use Rattle.entries.specs.declared.list.Entry.{Entry as Struct}
use Rattle.entries.specs.Lent.{meant, no_entry, entry_at}
use Rattle.method.specs.Hours.{desk_end}
use Rattle.method.specs.Board.{board_of, run_of, holder}
use Rattle.method.specs.Method.{around, solved}
use Rattle.method.specs.Sheet.{sheet_row}
use Rattle.method.specs.declared.BlockRow.{BlockRow}
use Rattle.method.proofs.Solved.{board_holds, board_tidy}
use Rattle.method.proofs.SameLinks.{Agree, set_same}
use Rattle.method.proofs.Turned.{board_runs}
use Rattle.method.proofs.DeskEnd.{end_is}
use Rattle.method.proofs.OfDesk.{works_early, works_own}
use Rattle.method.proofs.Late.{run_late, worst_of_runs}
use Rattle.blocksteps.specs.Listed.{Listed}
use Rattle.ready.specs.Planned.{HoldsRaised}
use Rattle.ready.proofs.Bounds.{raised_most}
use Rattle.solve.specs.Solving.{CutOnto}
use Rattle.desklist.specs.Ordered.{entry_in, on_desk, own_entries}
use Rattle.desklist.proofs.Filling.{desk_mem}
use Rattle.blockrows.specs.Rows.{row_of, late_in, Dated}
use Rattle.blocks.specs.Own.{Between, OwnLinks}
use Rattle.blocks.specs.Sheet.{Laid}

-- What the code says of a block is what the sheet says of it.
row_is : (J : Job) (d : ℕ) (B : Block) → row_of B ≡ sheet_row J d B
unfolding sheet_row
row_is J d B =
    ap₂ (λ (t : ℕ) (f : ℕ → ℕ → ℕ). row_of_lem t (block_end f B)) (sym (next_is J d B.from)) (sym (end_is J d))
  where
    row_of_lem : ℕ → ℕ → BlockRow
    row_of_lem from end = record { count = length B.members; from = from; end = end }

module _ (ps : List Piece) (ls : List Link) (finishes : List ℕ) (latests : List ℤ) (laid : Laid ps ls finishes latests) where
  abbrev J : Job
  J = job_of ps ls

  abbrev n : ℕ
  n = length ps

  pub few_pieces : n ≤ 256
  few_pieces = laid.planned.sound.few_pieces

  pub few_links : length ls ≤ 1024
  few_links = laid.planned.sound.few_links

  pub links_between : Between n ls
  links_between = record {
    before_known = λ k h. (link_fit J laid.planned.sound (get_or ls k no_link) (place_mem no_link ls k h)).before_one;
    after_known = λ k h. (link_fit J laid.planned.sound (get_or ls k no_link) (place_mem no_link ls k h)).after_one;
  }

  -- The desk's entries, by number and in order.
  module _ (ready : List ℕ) (raised : HoldsRaised J ready) (d : ℕ) where
    abbrev own : List ℕ
    own = on_desk (desks_of ps) d 0 n

    pub own_pieces : desk_pieces J d ≡ own
    unfolding desk_pieces on_desk below
    own_pieces =
        keep_same (λ i. eqb (desk J i) d) (λ k. eqb (get_or (desks_of ps) k 0) d) (row 0 n)
        (λ i k. ap (λ (x : ℕ). eqb x d) (sym (get_or-desks ps i)))

    entry_same : (i : ℕ) → i < n → entry_in (durations_of ps) ready latests i ≡ entry J i
    unfolding entry_in entry
    entry_same i h = rw (raised.each i h, get_or-durations ps i, laid.latest_is i h)

    own_are : own_entries (desks_of ps) (durations_of ps) ready latests d n ≡ entries J d
    unfolding own_entries entries
    own_are =
        map_same (entry_in (durations_of ps) ready latests) (entry J) own
        (λ i k. entry_same i (omega (arith, (desk_mem (desks_of ps) d 0 n i k).1)))
        ∙ ap (map (entry J)) (sym own_pieces)

    module _ (es : List Struct)
        (are : map meant es ≡ in_order (own_entries (desks_of ps) (durations_of ps) ready latests d n)) where
      listed_are : map meant es ≡ in_order (entries J d)
      listed_are = are ∙ ap in_order own_are

      entries_count : length (entries J d) ≡ length (desk_pieces J d)
      unfolding entries
      entries_count = length-map (desk_pieces J d) (entry J)

      pub count : length es ≡ length (desk_pieces J d)
      count =
          sym (length-map es meant) ∙ ap length listed_are ∙ ap length (in_order_lem (entries J d))
          ∙ sorted_length waits (entries J d) ∙ entries_count

      few : length (desk_pieces J d) ≤ n
      unfolding desk_pieces
      few = omega (arith, keep-length (λ i. eqb (desk J i) d) (below n), length-below n)

      -- Each entry is one of the desk's pieces.
      of_piece : (x : Entry) → Mem x (in_order (entries J d)) → (i : ℕ) × Mem i (desk_pieces J d) × (x ≡ entry J i)
      unfolding entries
      of_piece x k =
          mem_of_map (entry J) (desk_pieces J d) x
          (mem_sorted waits (entries J d) x (subst (λ (l : List Entry). Mem x l) (in_order_lem (entries J d)) k))

      piece_at : (k : ℕ) → k < length es → (i : ℕ) × Mem i (desk_pieces J d) × (meant (entry_at es k) ≡ entry J i)
      piece_at k h =
          of_piece (meant (entry_at es k))
          (subst (λ (l : List Entry). Mem (meant (entry_at es k)) l) listed_are
          (mem_map meant es (entry_at es k) (place_mem no_entry es k h)))

      pub sheet_listed : Listed es
      unfolding entry
      sheet_listed = record {
        few = omega (arith, count, few, few_pieces);
        known = λ k h.
            let w = piece_at k h in
            omega (arith, ap (λ (e : Entry). e.number) w.2, (mem_desk_pieces J d w.0 w.1).0, few_pieces);
        early = λ k h.
            let w = piece_at k h in
            omega (
              arith,
              ap (λ (e : Entry). e.ready) w.2,
              raised_most J laid.planned.sound laid.planned.free w.0 (mem_desk_pieces J d w.0 w.1).0,
            );
      }

      -- The rows are the blocks of the first cutting.
      pub sheet_rows : map row_of (cut_in_order desk_end (map meant es)) ≡ map (sheet_row J d) (blocks J d)
      unfolding blocks cut
      sheet_rows =
          ap (λ (es : List Entry). map row_of (cut_in_order desk_end es)) listed_are
          ∙ map_same row_of (sheet_row J d) (cut_in_order desk_end (in_order (entries J d))) (λ B k. row_is J d B)
          ∙ ap (λ (f : ℕ → ℕ → ℕ). map (sheet_row J d) (cut_in_order f (in_order (entries J d)))) (sym (end_is J d))

      -- The board holds the runs.
      module _ (links : List Link) (owns : OwnLinks d (desks_of ps) ls links) (runs : List Run)
          (cuts : CutOnto links es None 0 0 [] (board_of runs)) where
        abbrev by_method : List Run
        by_method =
            around (open_end J d) (solved (linked J) (open_end J d) (length (entries J d))) none 0 0
            (cut_in_order (open_end J d) (in_order (entries J d))) []

        -- The desk's own links are the job's where both pieces are the desk's.
        at_desk : (x : Entry) → Mem x (in_order (entries J d)) → get_or (desks_of ps) x.number 0 ≡ d
        unfolding entry
        at_desk x k =
            let w = of_piece x k in
            rw (w.2, get_or-desks ps w.0) (mem_desk_pieces J d w.0 w.1).1

        same_links : Agree (linked_by links) (linked J) (in_order (entries J d))
        unfolding linked
        same_links x y k l = owns.same x.number y.number (at_desk x k) (at_desk y l)

        board_is : board_of runs ≡ by_method
        board_is =
            cuts (length (entries J d)) (omega (arith, count, entries_count))
            ∙ ap (λ (es : List Entry). around desk_end
            (solved (linked_by links) desk_end (length (entries J d))) none 0 0
            (cut_in_order desk_end es) []) listed_are
            ∙ set_same (linked_by links) (linked J) desk_end (length (entries J d)) none 0 0
            (in_order (entries J d)) [] same_links
            ∙ ap (λ (f : ℕ → ℕ → ℕ). around f (solved (linked J) f (length (entries J d))) none 0 0
            (cut_in_order f (in_order (entries J d))) []) (sym (end_is J d))

        pub sheet_runs : map run_of runs ≡ block_runs J d
        unfolding block_runs block_worked
        sheet_runs =
            let es : List Entry = entries J d in
            let ahead = links_ahead J laid.planned.sound laid.planned.free d in
            sym (ap (runs_from none) (turns_of_lem J d (block_worked J d) (horizon J))
            ∙ board_runs (is_open J d) (always_open J d) (block_worked J d) (horizon J) runs
            (rw board_is (board_tidy (linked J) (is_open J d) (open_end J d) (desk_hours J d) es (entries_distinct J d)
            ahead (length es) 0 0 (omega arith)))
            (λ t. ap (λ (b : List Run). holder (is_open J d) b t) board_is
            ∙ board_holds (linked J) (is_open J d) (open_end J d) (desk_hours J d) es (entries_distinct J d)
            ahead (length es) 0 0 t (omega arith))
            (works_early J laid.planned.sound laid.planned.free d))

        -- Each run is of a piece of the desk, and over by the horizon.
        run_known : (r : Run) → Mem r runs → (r.piece < n) × (r.until ≤ 408160)
        unfolding block_runs
        run_known r k =
            let here = rw sheet_runs at (mem_map run_of runs r k) in
            let mem = rw (ap (runs_from none) (turns_of_lem J d (block_worked J d) (horizon J))) at here in
            let t = runs-true (is_open J d) (block_worked J d) (horizon J) _ mem in
            let own = works_own J laid.planned.sound laid.planned.free d r.from r.piece t.begins in (
              (mem_desk_pieces J d r.piece own).0,
              omega (
                arith,
                runs_within (is_open J d) (block_worked J d) (horizon J) _ mem,
                horizon_most J laid.planned.sound laid.planned.free,
              ),
            )

        known_at : (j : ℕ) → j < length runs → ((get_or runs j no_run).piece < n) × ((get_or runs j no_run).until ≤ 408160)
        known_at j h = run_known (get_or runs j no_run) (place_mem no_run runs j h)

        pub sheet_dated : Dated latests runs
        sheet_dated = record {
          known = λ j h. omega (arith, (known_at j h).0, few_pieces);
          early = λ j h. omega (arith, (known_at j h).1);
          near = λ j h.
              let i : ℕ = (get_or runs j no_run).piece in
              rw (laid.latest_is i (known_at j h).0)
              (omega (arith, (latest_near J laid.planned.sound laid.planned.free i (known_at j h).0).abs_most));
        }

        -- The worst lateness over the runs is the sheet's.
        pub sheet_worst : worst_of (map (late_in latests) runs) ≡ (block_numbers J d).worst
        unfolding block_numbers
        sheet_worst =
            ap worst_of
            (map_same (late_in latests) (λ r. run_late J laid.planned.sound laid.planned.free d (run_of r)) runs
            (λ r k. ap (λ (z : ℤ). pos r.until -ℤ z) (laid.latest_is r.piece (run_known r k).0))
            ∙ sym (map_twice run_of (run_late J laid.planned.sound laid.planned.free d) runs)
            ∙ ap (map (run_late J laid.planned.sound laid.planned.free d)) sheet_runs)
            ∙ worst_of_runs J laid.planned.sound laid.planned.free d
