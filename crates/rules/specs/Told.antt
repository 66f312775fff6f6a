-- Which answer of the page each answer of the code is: a fault has its number on the page's list; an accepted call has
-- number 0 and place 0, a refused one zero in every other number.
use Rattle.std.specs.Prelude.{ℕ, pos, Option, Some, None, Result, Ok, Err}
use Rattle.rules.specs.Answers.{Refusal, Item, Work, Tie, Stop, Done, PlanAnswer, BlockAnswer, WriteAnswer}
use Rattle.rules.specs.declared.fault.Fault.{Fault}
use Rattle.rules.specs.declared.fault.Fault.TheVariants.{BytesLeft, UnknownKind, PieceAfterLink, TooMany, Desk}
use Rattle.rules.specs.declared.fault.Fault.TheVariants.{Duration, ReleaseOrDue, NotZero, NoSuchPiece, Handover, Ring}
use Rattle.rules.specs.declared.fault.Fault.TheVariants.{BufferTooShort, AskedDesk, NoRoomForFile}
use Rattle.rules.specs.declared.fault.Refusal.{Refusal as Refused}
use Rattle.rules.specs.declared.Record.{Record}
use Rattle.rules.specs.declared.Record.TheVariants.{Piece, Link}
use Rattle.rules.specs.declared.PlanFigures.{PlanFigures}
use Rattle.rules.specs.declared.BlockFigures.{BlockFigures}

abbrev pub number_of : Fault → ℕ
number_of BytesLeft = 1
number_of UnknownKind = 2
number_of PieceAfterLink = 3
number_of TooMany = 4
number_of Desk = 5
number_of Duration = 6
number_of ReleaseOrDue = 7
number_of NotZero = 8
number_of NoSuchPiece = 9
number_of Handover = 10
number_of Ring = 11
number_of BufferTooShort = 12
number_of AskedDesk = 13
number_of NoRoomForFile = 14

-- A refusal.
abbrev pub refusal_of : Refused → Refusal
refusal_of r = record { number = number_of r.fault; place = r.place }

-- A judgement: 0 where there is no fault.
abbrev pub fault_of : Result Unit Fault → ℕ
fault_of (Ok _) = 0
fault_of (Err fault) = number_of fault

-- What a record says.
abbrev pub item_of_record : Record → Item
item_of_record (Piece p) = Work p
item_of_record (Link l) = Tie l

-- The reader's answer: a record, the end of the file, or the refusal.
abbrev pub item_of : Result (Option Record) Refused → Item
item_of (Ok (Some r)) = item_of_record r
item_of (Ok None) = Done
item_of (Err r) = Stop (refusal_of r)

-- The plan's answer.
abbrev pub plan_answer_told : Result PlanFigures Refused → PlanAnswer
plan_answer_told (Ok f) =
    record { number = 0; place = 0; pieces = f.pieces; runs = f.runs; end = f.end; worst = f.worst }
plan_answer_told (Err r) =
    record { number = number_of r.fault; place = r.place; pieces = 0; runs = 0; end = 0; worst = pos 0 }

-- The block sheet's answer.
abbrev pub block_answer_told : Result BlockFigures Refused → BlockAnswer
block_answer_told (Ok f) = record { number = 0; place = 0; blocks = f.blocks; runs = f.runs; worst = f.worst }
block_answer_told (Err r) = record { number = number_of r.fault; place = r.place; blocks = 0; runs = 0; worst = pos 0 }

-- The writer's answer.
abbrev pub write_answer_told : Result ℕ Refused → WriteAnswer
write_answer_told (Ok bytes) = record { number = 0; place = 0; bytes = bytes }
write_answer_told (Err r) = record { number = number_of r.fault; place = r.place; bytes = 0 }
