-- `planned_sheet` meets its contract: the list of the desk's entries in order stands for its entries in order, cut and
-- solved.
use Rattle.std.proofs.Common.{◌∙◌, ap, length, arith}
use Rattle.blockrows.proofs.Worst.{back}
use Rattle.blocks.proofs.DeskSheet.{links_between, count, sheet_listed, sheet_rows, sheet_runs, sheet_dated}
use Rattle.blocks.proofs.DeskSheet.{sheet_worst}
use Rattle.blocks.proofs.planned.planned_sheet.Goals as goal

pub first_blocks-requires : goal.first_blocks-requires
first_blocks-requires c =
    let a = c.args in
    rw c.deref.ensures.0
    (sheet_listed a.pieces.now a.links.now _ _ c.requires.laid _ c.raised_moments.ensures a.desk _ c.desk_order.ensures)

pub own_links-requires-clause-between : goal.own_links-requires-clause-between
own_links-requires-clause-between c =
    links_between c.args.pieces.now c.args.links.now _ _ c.requires.laid

pub cut_set-requires : goal.cut_set-requires
cut_set-requires c =
    let a = c.args in
    let es = c.desk_order.new.entries.items in
    let h = sheet_listed a.pieces.now a.links.now _ _ c.requires.laid _ c.raised_moments.ensures a.desk _
    c.desk_order.ensures in
    rw (c.deref-2.ensures.0, c.deref_mut.ensures.value) (record {
      links = c.own_links.ensures.links;
      listed = h;
      room = omega (arith, h.few, ap length c.clear.ensures);
    })

pub worst_lateness-requires : goal.worst_lateness-requires
worst_lateness-requires c =
    let a = c.args in
    let cuts = rw (c.deref-2.ensures.0, c.deref_mut.ensures.value, c.clear.ensures) at c.cut_set.ensures.cut_onto in
    rw c.deref-3.ensures.0
    (sheet_dated a.pieces.now a.links.now _ _ c.requires.laid _ c.raised_moments.ensures a.desk _ c.desk_order.ensures
    _ c.own_links.ensures _ cuts)

pub returns : goal.returns
returns c =
    let a = c.args in
    let es = c.desk_order.new.entries.items in
    let pieces = count a.pieces.now a.links.now _ _ c.requires.laid _ c.raised_moments.ensures a.desk _
    c.desk_order.ensures in
    let cuts = rw (c.deref-2.ensures.0, c.deref_mut.ensures.value, c.clear.ensures) at c.cut_set.ensures.cut_onto in
    let worst = c.worst_lateness in
    record {
      blocks_are =
          (rw c.deref.ensures.0 at c.first_blocks.ensures.blocks)
          ∙ sheet_rows a.pieces.now a.links.now _ _ c.requires.laid _ c.raised_moments.ensures a.desk _ c.desk_order.ensures;
      runs_are =
          sheet_runs a.pieces.now a.links.now _ _ c.requires.laid _ c.raised_moments.ensures a.desk _ c.desk_order.ensures
          _ c.own_links.ensures _ cuts;
      worst_is =
          back worst.result worst.type_inv ∙ (rw c.deref-3.ensures.0 at worst.ensures)
          ∙ sheet_worst a.pieces.now a.links.now _ _ c.requires.laid _ c.raised_moments.ensures a.desk _
          c.desk_order.ensures _ c.own_links.ensures _ cuts;
      few_blocks = omega (arith, c.first_blocks.ensures.few, ap length c.deref.ensures.0, pieces);
      few_runs =
          omega (
            arith,
            c.cut_set.ensures.few,
            ap length c.deref_mut.ensures.value,
            ap length c.clear.ensures,
            pieces,
          );
    }
