-- Forms to check the writer by, as one table with one claim, proved by computing both sides: P1 typed, with room behind and
-- with one byte less, no rows at all, and refusals that compete. The bytes are those that the page prints for P1.
use Rattle.std.specs.Prelude.{ℕ, List, [], ◌∷◌, ◌++◌, map, ◌≡◌, refl}
use Rattle.rules.specs.Hex.{hex}
use Rattle.rules.specs.Form.{write_answer, write_buffer}
use Rattle.rules.specs.Sheets.{marks}
use Rattle.rules.specs.Answers.{WriteAnswer}

pub record FormSheet : Type 0 where
  pub pieces : List ℕ
  pub links : List ℕ
  pub room : ℕ
  pub answer : WriteAnswer
  pub buffer : List ℕ

-- A refused form: every byte keeps its mark.
abbrev refused_form : List ℕ → List ℕ → ℕ → ℕ → ℕ → FormSheet
refused_form pieces links room number place = record {
  pieces = pieces;
  links = links;
  room = room;
  answer = record { number = number; place = place; bytes = 0 };
  buffer = marks room;
}

abbrev typed_p1 : List ℕ
typed_p1 = 0 ∷ 4 ∷ 0 ∷ 20 ∷ 0 ∷ 2 ∷ 1 ∷ 5 ∷ 1 ∷ 3 ∷ 0 ∷ 12 ∷ []

abbrev tied_p1 : List ℕ
tied_p1 = 0 ∷ 2 ∷ 2 ∷ []

pub forms : List FormSheet
forms =
    record {
      pieces = typed_p1;
      links = tied_p1;
      room = 70;
      answer = record { number = 0; place = 0; bytes = 64 };
      buffer = hex "01 00 0400 00000000 14000000 00000000" ++ hex "01 00 0200 01000000 05000000 00000000"
          ++ hex "01 01 0300 00000000 0C000000 00000000" ++ hex "02 00 0000 0200 0200 00000000 00000000" ++ marks 6;
    }
    ∷ record { pieces = []; links = []; room = 2; answer = record { number = 0; place = 0; bytes = 0 }; buffer = marks 2 }
    -- One byte too short; and 14 is judged last.
    ∷ refused_form typed_p1 tied_p1 63 14 0
    ∷ refused_form (0 ∷ 4 ∷ 0 ∷ 20 ∷ 32 ∷ 0 ∷ 0 ∷ 0 ∷ []) [] 3 5 1
    -- Numbers that their fields do not hold.
    ∷ refused_form (256 ∷ 65537 ∷ 0 ∷ 0 ∷ []) [] 16 5 0
    ∷ refused_form (0 ∷ 65537 ∷ 0 ∷ 0 ∷ []) [] 16 6 0
    ∷ refused_form typed_p1 (0 ∷ 65536 ∷ 481 ∷ []) 64 9 3
    ∷ refused_form typed_p1 (0 ∷ 2 ∷ 65536 ∷ []) 64 10 3
    -- A row cut short, behind the values.
    ∷ refused_form (0 ∷ 4 ∷ 0 ∷ 20 ∷ 7 ∷ []) (0 ∷ 0 ∷ 0 ∷ []) 0 1 2
    ∷ []

-- What the definitions give for a form and its room.
pub computed_form : FormSheet → FormSheet
computed_form S = record {
  pieces = S.pieces;
  links = S.links;
  room = S.room;
  answer = write_answer S.pieces S.links (marks S.room);
  buffer = write_buffer S.pieces S.links (marks S.room);
}

-- The claim.
pub the_forms_hold : map computed_form forms ≡ forms
unfolding forms computed_form hex write_answer write_buffer
the_forms_hold = refl
