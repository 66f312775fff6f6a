-- "Sheets to check by": P1 to P10 as one table, and the one claim that the definitions give what it says: for each sheet
-- the whole answer or the refusal, every byte of a buffer with marks behind the records, the block sheets that the page
-- gives, and the listing. The bytes were laid out by hand from the page; the claim is proved by computing both sides.
use Rattle.std.specs.Prelude.{ℕ, List, [], ◌∷◌, ◌++◌, map, ◌≡◌, refl, ℤ, pos, negsuc, replicate}
use Prim.Native.String.{String}
use Rattle.rules.specs.Hex.{hex}
use Rattle.rules.specs.Plan.{plan_answer, plan_buffer}
use Rattle.rules.specs.BlockSheet.{block_answer, block_buffer}
use Rattle.rules.specs.Listing.{letters, listing}
use Rattle.rules.specs.Answers.{PlanAnswer, BlockAnswer}

-- A block sheet of one desk: the answer and the buffer.
pub record BlockPart : Type 0 where
  pub desk : ℕ
  pub answer : BlockAnswer
  pub buffer : List ℕ

pub record Sheet : Type 0 where
  pub file : List ℕ
  pub room : ℕ
  pub answer : PlanAnswer
  pub buffer : List ℕ
  pub blocks : List BlockPart
  pub text : List ℕ

-- A buffer full of marks.
abbrev pub marks : ℕ → List ℕ
marks n = replicate n 238

abbrev answered : ℕ → ℕ → ℕ → ℤ → PlanAnswer
answered pieces runs end worst =
    record { number = 0; place = 0; pieces = pieces; runs = runs; end = end; worst = worst }

abbrev refused_as : ℕ → ℕ → PlanAnswer
refused_as number place = record { number = number; place = place; pieces = 0; runs = 0; end = 0; worst = pos 0 }

-- A refused file: the buffer keeps its marks, and the listing is one line.
abbrev refused_sheet : List ℕ → ℕ → ℕ → String → Sheet
refused_sheet file number place text = record {
  file = file;
  room = 160;
  answer = refused_as number place;
  buffer = marks 160;
  blocks = [];
  text = letters text;
}

-- Below zero: minus n + 1.
abbrev minus : ℕ → ℤ
minus n = negsuc n

P1 : Sheet
P1 = record {
  file = hex "01 00 0400 00000000 14000000 00000000" ++ hex "01 00 0200 01000000 05000000 00000000"
      ++ hex "01 01 0300 00000000 0C000000 00000000" ++ hex "02 00 0000 0200 0200 00000000 00000000";
  room = 160;
  answer = answered 3 4 11 (minus 0);
  buffer = hex "11 00 0000 00000000 06000000 07000000" ++ hex "11 00 0100 01000000 03000000 05000000"
      ++ hex "11 01 0200 08000000 0B000000 0C000000" ++ hex "12 00 0000 00000000 01000000 00000000"
      ++ hex "12 00 0100 01000000 03000000 00000000" ++ hex "12 00 0000 03000000 06000000 00000000"
      ++ hex "12 01 0200 08000000 0B000000 00000000" ++ marks 48;
  blocks = [];
  text = letters "piece 0 desk 0 start 0 finish 6 latest 7 late -1\n"
      ++ letters "piece 1 desk 0 start 1 finish 3 latest 5 late -2\n"
      ++ letters "piece 2 desk 1 start 8 finish 11 latest 12 late -1\n"
      ++ letters "run desk 0 piece 0 from 0 until 1\n" ++ letters "run desk 0 piece 1 from 1 until 3\n"
      ++ letters "run desk 0 piece 0 from 3 until 6\n" ++ letters "run desk 1 piece 2 from 8 until 11\n"
      ++ letters "total pieces 3 runs 4 end 11 worst -1\n";
}

-- No bytes: accepted, all zero.
P2 : Sheet
P2 = record {
  file = [];
  room = 16;
  answer = answered 0 0 0 (pos 0);
  buffer = marks 16;
  blocks = record {
    desk = 0;
    answer = record { number = 0; place = 0; blocks = 0; runs = 0; worst = pos 0 };
    buffer = marks 16;
  } ∷ [];
  text = letters "total pieces 0 runs 0 end 0 worst 0\n";
}

-- Latest -3 and 2; both 6 late.
P3 : Sheet
P3 = record {
  file = hex "01 00 0300 00000000 00000000 00000000" ++ hex "01 00 0500 00000000 02000000 00000000"
      ++ hex "02 00 0000 0100 0000 00000000 00000000";
  room = 112;
  answer = answered 2 2 8 (pos 6);
  buffer = hex "11 00 0000 00000000 03000000 FDFFFFFF" ++ hex "11 00 0100 03000000 08000000 02000000"
      ++ hex "12 00 0000 00000000 03000000 00000000" ++ hex "12 00 0100 03000000 08000000 00000000" ++ marks 48;
  blocks = [];
  text = letters "piece 0 desk 0 start 0 finish 3 latest -3 late 6\n"
      ++ letters "piece 1 desk 0 start 3 finish 8 latest 2 late 6\n"
      ++ letters "run desk 0 piece 0 from 0 until 3\n" ++ letters "run desk 0 piece 1 from 3 until 8\n"
      ++ letters "total pieces 2 runs 2 end 8 worst 6\n";
}

-- The lower number interrupts on equality.
P4 : Sheet
P4 = record {
  file = hex "01 00 0100 01000000 09000000 00000000" ++ hex "01 00 0300 00000000 09000000 00000000";
  room = 112;
  answer = answered 2 3 4 (minus 4);
  buffer = hex "11 00 0000 01000000 02000000 09000000" ++ hex "11 00 0100 00000000 04000000 09000000"
      ++ hex "12 00 0100 00000000 01000000 00000000" ++ hex "12 00 0000 01000000 02000000 00000000"
      ++ hex "12 00 0100 02000000 04000000 00000000" ++ marks 32;
  blocks = [];
  text = letters "piece 0 desk 0 start 1 finish 2 latest 9 late -7\n"
      ++ letters "piece 1 desk 0 start 0 finish 4 latest 9 late -5\n"
      ++ letters "run desk 0 piece 1 from 0 until 1\n" ++ letters "run desk 0 piece 0 from 1 until 2\n"
      ++ letters "run desk 0 piece 1 from 2 until 4\n" ++ letters "total pieces 2 runs 3 end 4 worst -5\n";
}

-- Touching blocks stay two.
P5 : Sheet
P5 = record {
  file = hex "01 00 0200 00000000 09000000 00000000" ++ hex "01 00 0100 02000000 09000000 00000000";
  room = 112;
  answer = answered 2 2 3 (minus 5);
  buffer = hex "11 00 0000 00000000 02000000 09000000" ++ hex "11 00 0100 02000000 03000000 09000000"
      ++ hex "12 00 0000 00000000 02000000 00000000" ++ hex "12 00 0100 02000000 03000000 00000000" ++ marks 48;
  blocks = record {
    desk = 0;
    answer = record { number = 0; place = 0; blocks = 2; runs = 2; worst = minus 5 };
    buffer = hex "13 00 0100 00000000 02000000 00000000" ++ hex "13 00 0100 02000000 03000000 00000000"
        ++ hex "12 00 0000 00000000 02000000 00000000" ++ hex "12 00 0100 02000000 03000000 00000000" ++ marks 48;
  } ∷ [];
  text = letters "piece 0 desk 0 start 0 finish 2 latest 9 late -7\n"
      ++ letters "piece 1 desk 0 start 2 finish 3 latest 9 late -6\n"
      ++ letters "run desk 0 piece 0 from 0 until 2\n" ++ letters "run desk 0 piece 1 from 2 until 3\n"
      ++ letters "total pieces 2 runs 2 end 3 worst -6\n";
}

-- The handover on one desk is nothing.
P6 : Sheet
P6 = record {
  file = hex "01 00 0200 05000000 0A000000 00000000" ++ hex "01 00 0100 00000000 1E000000 00000000"
      ++ hex "02 00 0000 0100 0700 00000000 00000000";
  room = 112;
  answer = answered 2 2 8 (minus 2);
  buffer = hex "11 00 0000 05000000 07000000 0A000000" ++ hex "11 00 0100 07000000 08000000 1E000000"
      ++ hex "12 00 0000 05000000 07000000 00000000" ++ hex "12 00 0100 07000000 08000000 00000000" ++ marks 48;
  blocks = [];
  text = letters "piece 0 desk 0 start 5 finish 7 latest 10 late -3\n"
      ++ letters "piece 1 desk 0 start 7 finish 8 latest 30 late -22\n"
      ++ letters "run desk 0 piece 0 from 5 until 7\n" ++ letters "run desk 0 piece 1 from 7 until 8\n"
      ++ letters "total pieces 2 runs 2 end 8 worst -3\n";
}

-- Piece 3 waits where piece 2 is not handed over yet; on desk 0 one block 0-9 of three.
P7 : Sheet
P7 = record {
  file = hex "01 00 0200 00000000 14000000 00000000" ++ hex "01 01 0100 00000000 14000000 00000000"
      ++ hex "01 00 0200 00000000 14000000 00000000" ++ hex "01 00 0500 00000000 32000000 00000000"
      ++ hex "02 00 0000 0100 0000 00000000 00000000" ++ hex "02 00 0100 0200 0100 00000000 00000000";
  room = 208;
  answer = answered 4 5 9 (minus 13);
  buffer = hex "11 00 0000 00000000 02000000 10000000" ++ hex "11 01 0100 02000000 03000000 11000000"
      ++ hex "11 00 0200 04000000 06000000 14000000" ++ hex "11 00 0300 02000000 09000000 32000000"
      ++ hex "12 00 0000 00000000 02000000 00000000" ++ hex "12 00 0300 02000000 04000000 00000000"
      ++ hex "12 00 0200 04000000 06000000 00000000" ++ hex "12 00 0300 06000000 09000000 00000000"
      ++ hex "12 01 0100 02000000 03000000 00000000" ++ marks 64;
  blocks = record {
    desk = 0;
    answer = record { number = 0; place = 0; blocks = 1; runs = 4; worst = minus 13 };
    buffer = hex "13 00 0300 00000000 09000000 00000000"
        ++ hex "12 00 0000 00000000 02000000 00000000" ++ hex "12 00 0300 02000000 04000000 00000000"
        ++ hex "12 00 0200 04000000 06000000 00000000" ++ hex "12 00 0300 06000000 09000000 00000000" ++ marks 128;
  } ∷ [];
  text = letters "piece 0 desk 0 start 0 finish 2 latest 16 late -14\n"
      ++ letters "piece 1 desk 1 start 2 finish 3 latest 17 late -14\n"
      ++ letters "piece 2 desk 0 start 4 finish 6 latest 20 late -14\n"
      ++ letters "piece 3 desk 0 start 2 finish 9 latest 50 late -41\n"
      ++ letters "run desk 0 piece 0 from 0 until 2\n" ++ letters "run desk 0 piece 3 from 2 until 4\n"
      ++ letters "run desk 0 piece 2 from 4 until 6\n" ++ letters "run desk 0 piece 3 from 6 until 9\n"
      ++ letters "run desk 1 piece 1 from 2 until 3\n" ++ letters "total pieces 4 runs 5 end 9 worst -14\n";
}

-- Piece 0 is on no ring.
P8 : Sheet
P8 = refused_sheet (hex "01 00 0100 00000000 09000000 00000000" ++ hex "01 00 0100 00000000 09000000 00000000"
    ++ hex "01 00 0100 00000000 09000000 00000000" ++ hex "02 00 0000 0100 0000 00000000 00000000"
    ++ hex "02 00 0100 0200 0000 00000000 00000000" ++ hex "02 00 0200 0100 0000 00000000 00000000")
    11 1 "refused 11 at 1\n"

-- 17 zero bytes: refused 2 at 0, not 1.
P9 : Sheet
P9 = refused_sheet (replicate 17 0) 2 0 "refused 2 at 0\n"

-- 15 bytes.
P10 : Sheet
P10 = refused_sheet (replicate 15 0) 1 0 "refused 1 at 0\n"

pub sheets : List Sheet
sheets = P1 ∷ P2 ∷ P3 ∷ P4 ∷ P5 ∷ P6 ∷ P7 ∷ P8 ∷ P9 ∷ P10 ∷ []

-- What the definitions give for a sheet's file and room.
computed_part : Sheet → BlockPart → BlockPart
computed_part S part = record {
  desk = part.desk;
  answer = block_answer S.file part.desk (marks S.room);
  buffer = block_buffer S.file part.desk (marks S.room);
}

pub computed : Sheet → Sheet
unfolding computed_part
computed S = record {
  file = S.file;
  room = S.room;
  answer = plan_answer S.file (marks S.room);
  buffer = plan_buffer S.file (marks S.room);
  blocks = map (computed_part S) S.blocks;
  text = listing S.file;
}

-- The claim: the definitions give every sheet as the page has it.
pub the_sheets_hold : map computed sheets ≡ sheets
unfolding sheets P1 P2 P3 P4 P5 P6 P7 P8 P9 P10 computed hex plan_answer plan_buffer block_answer block_buffer listing letters
the_sheets_hold = refl
