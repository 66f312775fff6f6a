-- `put_desk_lines` meets its contract: run by run, each line right behind the ones before.
use Rattle.std.proofs.Common.{◌≡◌, ◌≤◌, ℕ, arith, get_or, sym, ap, ◌∙◌, length}
use Rattle.rules.specs.Job.{no_piece}
use borrow.Author.Tests.{eq-eqb, ne_eqb}
use Rattle.rules.specs.Tables.{desks_of, run_pieces, run_froms, run_untils}
use Rattle.laws.proofs.Columns.{get_or-desks, get_or-run_pieces, get_or-run_froms, get_or-run_untils}
use Rattle.records.proofs.PutLaws.{room_left}
use Rattle.lines.specs.Lines.{desk_lines_in, run_line_in}
use Rattle.listing.proofs.PageLaws.{no_run_yet, logged_more, line_more, grown, own_line, no_line}
use Rattle.listing.proofs.pages.put_desk_lines.Goals.{In-loop-run, then-pieces-from, else-pieces-from}
use Rattle.listing.proofs.pages.put_desk_lines.Goals as goal

pub loop-run-init : goal.loop-run-init
loop-run-init c =
    let a = c.args in
    no_run_yet (desks_of a.pieces.now) (run_pieces a.runs.now) (run_froms a.runs.now) (run_untils a.runs.now) a.desk a.text.now

-- The run that has its turn, and whose desk it is.
module _ (c : In-loop-run) where
  abbrev k : ℕ
  k = c.loop-run.run-index

  line-room : length (desk_lines_in k (desks_of c.args.pieces.now) (run_pieces c.args.runs.now) (run_froms c.args.runs.now)
      (run_untils c.args.runs.now) c.args.desk)
      ≤ length (desk_lines_in (length c.args.runs.now) (desks_of c.args.pieces.now) (run_pieces c.args.runs.now)
      (run_froms c.args.runs.now) (run_untils c.args.runs.now) c.args.desk)
  line-room =
      let a = c.args in
      grown (λ k. desk_lines_in k (desks_of a.pieces.now) (run_pieces a.runs.now) (run_froms a.runs.now) (run_untils a.runs.now) a.desk)
      (run_line_in (desks_of a.pieces.now) (run_pieces a.runs.now) (run_froms a.runs.now) (run_untils a.runs.now) a.desk)
      (logged_more (desks_of a.pieces.now) (run_pieces a.runs.now) (run_froms a.runs.now) (run_untils a.runs.now) a.desk)
      k (length a.runs.now) (omega (arith, c.loop-run-test.true))

pub bounds-pieces-from : goal.bounds-pieces-from
bounds-pieces-from c =
    let turn = (goal.at.bounds-pieces-from c).In-loop-run in
    omega (
      arith,
      c.from.ensures,
      get_or-run_pieces c.args.runs.now (k turn),
      c.requires.log.known (k turn) c.loop-run-test.true,
    )

pub put_run_line-requires : goal.put_run_line-requires
put_run_line-requires c =
    let turn = (goal.at.put_run_line-requires c).In-loop-run in
    room_left 141 c.loop-run.invariant (omega (arith, line-room turn, c.requires.room))

pub loop-run-preserved : goal.loop-run-preserved
loop-run-preserved c =
    let turn = (goal.at.loop-run-preserved c).In-loop-run in
    let ps = c.args.pieces.now in
    let rs = c.args.runs.now in
    let i = k turn in
    let own : get_or (desks_of ps) (get_or (run_pieces rs) i 0) 0 ≡ (get_or ps c.from.result no_piece).desk =
    get_or-desks ps (get_or (run_pieces rs) i 0)
    ∙ ap (λ j. (get_or ps j no_piece).desk) (get_or-run_pieces rs i ∙ sym c.from.ensures) in
    line_more
    (λ k. desk_lines_in k (desks_of ps) (run_pieces rs) (run_froms rs) (run_untils rs) c.args.desk)
    (run_line_in (desks_of ps) (run_pieces rs) (run_froms rs) (run_untils rs) c.args.desk)
    (logged_more (desks_of ps) (run_pieces rs) (run_froms rs) (run_untils rs) c.args.desk)
    i c.loop-run.invariant
    (elim c.if-pieces-from.branch [
      | then-pieces-from w ↦ rw w.text-is
          (own_line (desks_of ps) (run_pieces rs) (run_froms rs) (run_untils rs) c.args.desk i
          (eq-eqb _ c.args.desk (own ∙ w.if-pieces-from.true))
          (rw (get_or-run_pieces rs i, get_or-run_froms rs i, get_or-run_untils rs i) w.put_run_line.ensures))
      | else-pieces-from w ↦ rw w.text-is
          (no_line (desks_of ps) (run_pieces rs) (run_froms rs) (run_untils rs) c.args.desk i
          (ne_eqb _ c.args.desk (λ e. w.if-pieces-from.false (sym own ∙ e))))
    ])
