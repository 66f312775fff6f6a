-- `sheet_accepted` meets its contract: 13 for a desk above 31, 12 for a buffer that is too short, else the sheet.
use Rattle.std.proofs.Common.{◌≡◌, ℕ, ◌≤◌, List, ℤ, w32, to_z, of_z, refl, sym, length}
use mir.ValLaws.{to_z-of_z}
use Rattle.rules.specs.Job.{accepted}
use Rattle.rules.specs.Judgement.{file_outcome}
use Rattle.rules.specs.Tables.{job_of}
use Rattle.rules.specs.declared.Link.{Link}
use Rattle.rules.specs.declared.Piece.{Piece}
use Rattle.rules.specs.declared.Run.{Run}
use Rattle.method.specs.declared.BlockRow.{BlockRow}
use Rattle.method.specs.Sheet.{SheetOf}
use Rattle.sheet_answer.specs.Refused.{sheet_fault}
use Rattle.sheet_answer.specs.SheetFile.{SheetFile}
use Rattle.sheet_answer.proofs.Promised.{sheet_faulty, no_fault}
use Rattle.sheets.proofs.sheet.sheet_accepted.Goals.{After-deref-2}
use Rattle.sheets.proofs.sheet.sheet_accepted.Goals as goal

-- The sheet of a file that is refused for nothing.
sheet_file : {ps : List Piece} {ls : List Link} {file : List ℕ} {d room : ℕ} {rows : List BlockRow} {runs : List Run} {worst : ℤ}
    → file_outcome file ≡ accepted (job_of ps ls) → length ps ≤ 256 → 0 ≡ sheet_fault d (length ps) room
    → SheetOf (job_of ps ls) d rows runs worst → SheetFile file d rows runs worst room
sheet_file {ps} {ls} {file} {d} {room} says few fine sheet =
    let good = no_fault file d (length ps) (job_of ps ls) says refl room (sym fine) in
    record { job = job_of ps ls; says = says; few = few; sheet = sheet; there = good.0; enough = good.1 }

pub returns-in-Err : goal.returns-in-Err
returns-in-Err c file says =
    sheet_faulty file c.args.desk (length c.args.pieces.now) _ says refl c.args.buffer.now c.in-Err.fault c.in-Err.ensures

pub planned_sheet-worst-requires-clause-laid : goal.planned_sheet-worst-requires-clause-laid
planned_sheet-worst-requires-clause-laid c =
    let F = c.finish_plan.ensures in
    record { planned = record { sound = F.sound; free = F.free; finished = F.finish_is }; latest_is = F.latest_is }

-- The answer's sheet, of any file with this job.
module _ (c : After-deref-2) {file : List ℕ} (says : file_outcome file ≡ accepted (job_of c.args.pieces.now c.args.links.now)) where
  here : SheetFile file c.args.desk c.deref.result.now c.deref-2.result.now
      (to_z w32 (of_z w32 c.planned_sheet-worst.result)) (length c.args.buffer.now)
  here =
      rw (
        to_z-of_z w32 c.planned_sheet-worst.result (record { sfits = c.planned_sheet-worst.type_inv }),
        c.deref.ensures.0,
        c.deref-2.ensures.0,
      )
      (sheet_file says c.requires.walkable.sound.few_pieces c.in_default.ensures c.planned_sheet-worst.ensures)

pub answer_sheet-requires : goal.answer_sheet-requires
answer_sheet-requires c =
    (c.requires.some_file.0, here (goal.at.answer_sheet-requires c).After-deref-2 c.requires.some_file.1)

pub returns : goal.returns
returns c file says = c.answer_sheet.ensures file (here (goal.at.returns c).After-deref-2 says)
