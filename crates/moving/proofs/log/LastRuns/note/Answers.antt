-- `note` makes the desk's last run longer or puts a run behind the others, where there is room.
use Rattle.std.specs.Prelude.{◌<◌, ◌≤◌, length, get_or}
use Rattle.std.specs.declared.option.Option.TheVariants.{None}
use Rattle.std.proofs.Common.{sym, ap, ◌∙◌, arith}
use borrow.Author.Tests.{eqb-true, eqb-false}
use Rattle.steps.specs.Log.{Log, log, note_on}
use Rattle.moving.proofs.Noted.{place_inside, run_stored, run_put, log_full}
use Rattle.moving.proofs.log.LastRuns.note.Goals.{Start, In-Some}
use Rattle.moving.proofs.log.LastRuns.note.Goals as goal

-- The log as the function finds it.
abbrev was : Start → Log
was s = log s.args.runs.now.items s.args.self.now.places

place_in : (c : In-Some) → c.in-Some.place < length c.args.runs.now.items
place_in c =
    place_inside c.args.run c.args.desk (log c.args.runs.now.items c.args.self.now.places)
    (get_or c.args.self.now.places c.args.desk None) c.in-Some.place (rw c.deref.ensures.0 at c.in-Some.ensures)

pub offset_bounds-deref_mut-place : goal.offset_bounds-deref_mut-place
offset_bounds-deref_mut-place c =
    let few : length c.deref.result.now ≤ 512 = c.deref.ensures.1 in
    omega (arith, place_in (goal.at.offset_bounds-deref_mut-place c).In-Some, ap length c.deref.ensures.0)

pub bounds-deref_mut-place : goal.bounds-deref_mut-place
bounds-deref_mut-place c = rw c.deref_mut.ensures.value (place_in (goal.at.bounds-deref_mut-place c).In-Some)

pub returns-in-Some : goal.returns-in-Some
unfolding note_on
returns-in-Some c =
    run_stored c.args.run c.args.desk (was (goal.at.returns-in-Some c).Start) _ c.in-Some.place _ _ c.deref.ensures.0
    c.deref_mut.ensures.value c.in-Some.ensures

pub returns-then-not-is_full : goal.returns-then-not-is_full
unfolding note_on
returns-then-not-is_full c =
    let some_room = eqb-false (length c.args.runs.now.items) 512 (sym c.is_full.ensures.value ∙ c.if-not-is_full.true) in
    run_put c.args.run c.args.desk (was (goal.at.returns-then-not-is_full c).Start) _ c.len.result _ _ c.deref.ensures.0
    c.in-None.ensures c.len.ensures.value (omega (arith, c.is_full.ensures.fits)) c.push.ensures.items

pub returns-else-not-is_full : goal.returns-else-not-is_full
unfolding note_on
returns-else-not-is_full c =
    let full = eqb-true (length c.args.runs.now.items) 512 (sym c.is_full.ensures.value ∙ c.if-not-is_full.false) in
    log_full c.args.run c.args.desk (was (goal.at.returns-else-not-is_full c).Start) _ _ c.deref.ensures.0
    c.in-None.ensures (omega (arith, c.is_full.ensures.fits))
