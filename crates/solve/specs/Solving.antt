-- What cutting a set and solving a block ask of what is lent to them, and what they leave on the board.
use Rattle.std.specs.Prelude.{ℕ, ◌≤◌, List, map, ◌≡◌, length, Option as Maybe}
use Rattle.rules.specs.Rings.{linked_by}
use Rattle.rules.specs.Blocks.{cut_in_order}
use Rattle.rules.specs.declared.Link.{Link}
use Rattle.rules.specs.declared.Run.{Run as Stretch}
use Rattle.entries.specs.declared.list.Entry.{Entry}
use Rattle.entries.specs.Lent.{meant}
use Rattle.method.specs.Hours.{desk_end}
use Rattle.method.specs.Board.{whom}
use Rattle.method.specs.Method.{around, solved}
use Rattle.blocksteps.specs.Listed.{Listed}
use Rattle.blocksteps.specs.Aside.{Tied}

-- The links, the entries, and room on the board for so many stretches.
pub record Lent (ls : List Link) (es : List Entry) (most : ℕ) : Type 0 where
  pub links : Tied ls
  pub listed : Listed es
  pub room : most ≤ 512

-- The board after a set was cut, from `before`: its blocks solved, the slots around them given to the piece set aside.
abbrev pub CutOnto : List Link → List Entry → Maybe ℕ → ℕ → ℕ → List Stretch → List Stretch → Type 0
CutOnto ls es aside from end before after =
    (f : ℕ) → length es ≤ f
    → after
    ≡ around desk_end (solved (linked_by ls) desk_end f) (whom aside) from end
    (cut_in_order desk_end (map meant es)) before

-- The board after a block was solved.
abbrev pub SolvedOnto : List Link → List Entry → ℕ → ℕ → List Stretch → List Stretch → Type 0
SolvedOnto ls es from end before after =
    (f work : ℕ) → length es ≤ f → end ≡ desk_end from work
    → after
    ≡ solved (linked_by ls) desk_end f (record { from = from; work = work; members = map meant es }) before
