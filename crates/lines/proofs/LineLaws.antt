-- The fields of a line one behind the other: each has at most 35 bytes, and they and the newline are the line.
use Prim.Native.Nat.{ℕ, ◌+◌, ◌*◌, ◌≤◌}
use mathlib.Core.List.{List, [], ◌∷◌, ◌++◌, append-nil}
use mathlib.Core.Path.{◌≡◌, sym, ap, ◌∙◌}
use native.Mathlib.Omega.{arith}
use Rattle.output.specs.Late.{lateness_of}
use lib.IntN.{ℤ}
use lib.ListN.{length, length-append}
use Rattle.rules.specs.Words.{joined}
use Rattle.rules.specs.Listing.{letters, line, field, signed_field, digits, signed_digits}
use Prim.Native.String.{String}
use Rattle.laws.proofs.Joined.{joined_append}
use Rattle.records.specs.Puts.{Puts, Room}
use Rattle.records.specs.declared.lent.Lent.{Lent}
use Rattle.records.proofs.PutLaws.{nothing_put, puts_on, puts_as, room_left}
use Rattle.texts.specs.Fields.{PutsField}
use Rattle.texts.proofs.DigitLaws.{number_fits, signed_fits}
use Rattle.lines.specs.Lines.{piece_text, run_text, total_text, refused_text}

-- Some fields stand there, at most 35 bytes each.
pub record Fields (old : Lent) (fs : List (List ℕ)) (mid : Lent) : Type 0 where
  pub put : Puts old (joined fs) mid
  pub near : length (joined fs) ≤ 35 * length fs

pub no_field : (old : Lent) → Fields old [] old
unfolding joined
no_field old = record { put = nothing_put old; near = omega arith }

joined_one : (f : List ℕ) → joined (f ∷ []) ≡ f
unfolding joined
joined_one f = append-nil f

module _ {old mid : Lent} {fs : List (List ℕ)} (F : Fields old fs mid) where
  pub then_field : {f : List ℕ} {new : Lent} → PutsField mid f new → Fields old (fs ++ (f ∷ [])) new
  then_field {f} p =
      let whole : joined (fs ++ (f ∷ [])) ≡ joined fs ++ f =
      joined_append fs (f ∷ []) ∙ ap (λ l. joined fs ++ l) (joined_one f) in
      record {
        put = puts_as (puts_on F.put p.put) (sym whole);
        near = omega (
          arith,
          ap (λ l. length l) whole,
          length-append (joined fs) f,
          p.few,
          F.near,
          length-append fs (f ∷ []),
        );
      }

  -- The text that had room for so much more still has it.
  pub still_room : (n : ℕ) → Room old (35 * length fs + n) → Room mid n
  still_room n h = room_left n F.put (omega (arith, F.near, h))

  -- The newline ends the line.
  pub then_newline : {new : Lent} → Puts mid (10 ∷ []) new → Puts old (line fs) new
  unfolding line
  then_newline p = puts_on F.put p

-- How long a line is at most: 35 bytes for each of its fields, and the newline.
abbrev Short : List (List ℕ) → Type 0
Short [] = Unit {0}
Short (f ∷ fs) = (length f ≤ 35) × Short fs

joined_most : (fs : List (List ℕ)) → Short fs → length (joined fs) ≤ 35 * length fs
unfolding joined
joined_most [] h = omega arith
joined_most (f ∷ fs) h =
    let ih : length (joined fs) ≤ 35 * length fs = joined_most fs h.1 in
    omega (arith, h.0, length-append f (joined fs))

line_most : (fs : List (List ℕ)) → Short fs → length (line fs) ≤ 35 * length fs + 1
unfolding line
line_most fs h = omega (arith, joined_most fs h, length-append (joined fs) (10 ∷ []))

field_most : (w : String) (n : ℕ) → length (letters w) ≤ 14 → length (field w n) ≤ 35
unfolding field
field_most w n h = omega (arith, length-append (letters w) (digits n), number_fits n)

signed_most : (w : String) (z : ℤ) → length (letters w) ≤ 14 → length (signed_field w z) ≤ 35
unfolding signed_field
signed_most w z h = omega (arith, length-append (letters w) (signed_digits z), signed_fits z)

pub piece_most : (i d s f : ℕ) (l : ℤ) → length (piece_text i d s f l) ≤ 211
unfolding piece_text letters
piece_most i d s f l = line_most (
    field "piece " i ∷ field " desk " d ∷ field " start " s ∷ field " finish " f
    ∷ signed_field " latest " l ∷ signed_field " late " (lateness_of f l) ∷ []) (
      field_most "piece " i (omega arith),
      (
        field_most " desk " d (omega arith),
        (
          field_most " start " s (omega arith),
          (
            field_most " finish " f (omega arith),
            (signed_most " latest " l (omega arith), (signed_most " late " (lateness_of f l) (omega arith), tt)),
          ),
        ),
      ),
    )

pub run_most : (d i from until : ℕ) → length (run_text d i from until) ≤ 141
unfolding run_text letters
run_most d i from until = line_most (
    field "run desk " d ∷ field " piece " i ∷ field " from " from ∷ field " until " until ∷ []) (
      field_most "run desk " d (omega arith),
      (
        field_most " piece " i (omega arith),
        (
          field_most " from " from (omega arith),
          (field_most " until " until (omega arith), tt),
        ),
      ),
    )

pub total_most : (n r e : ℕ) (w : ℤ) → length (total_text n r e w) ≤ 141
unfolding total_text letters
total_most n r e w = line_most (
    field "total pieces " n ∷ field " runs " r ∷ field " end " e ∷ signed_field " worst " w ∷ []) (
      field_most "total pieces " n (omega arith),
      (
        field_most " runs " r (omega arith),
        (
          field_most " end " e (omega arith),
          (signed_most " worst " w (omega arith), tt),
        ),
      ),
    )

pub refused_most : (n at : ℕ) → length (refused_text n at) ≤ 71
unfolding refused_text letters
refused_most n at = line_most (field "refused " n ∷ field " at " at ∷ [])
    (field_most "refused " n (omega arith), (field_most " at " at (omega arith), tt))
