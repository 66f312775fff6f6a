-- The bytes of a record, field by field, for each kind of record.
use Rattle.std.specs.Prelude.{ℕ, List, get_or}
use Rattle.rules.specs.Bytes.{word, plan_record}
use Rattle.records.specs.declared.put.Kind.{Kind}
use Rattle.records.specs.declared.put.Kind.TheVariants.{Piece, Link, Result, Run, Block, Other}
use Rattle.records.specs.declared.put.Row.{Row}

-- The first byte.
abbrev pub code_of : Kind → ℕ
code_of Piece = 1
code_of Link = 2
code_of Result = 17
code_of Run = 18
code_of Block = 19
code_of (Other byte) = byte

abbrev pub row_bytes : Row → List ℕ
row_bytes r =
    plan_record (code_of r.kind) r.desk r.number (word (get_or r.words 0 0)) (word (get_or r.words 1 0))
    (word (get_or r.words 2 0))
