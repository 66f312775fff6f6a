-- The job file of pieces and links: the record of each piece in order, then the record of each link, as "The job file" has
-- their bytes.
use Rattle.std.specs.Prelude.{ℕ, List, ◌++◌, map}
use Rattle.rules.specs.Words.{joined}
use Rattle.rules.specs.Job.{Job}
use Rattle.rules.specs.Bytes.{half, word, plan_record}
use Rattle.rules.specs.declared.Piece.{Piece}
use Rattle.rules.specs.declared.Link.{Link}

-- Byte 0 is 1, byte 1 desk, 2-3 duration, 4-7 release, 8-11 due, 12-15 zero.
unfoldable pub piece_record : Piece → List ℕ
unfolding plan_record word
piece_record p = plan_record 1 p.desk p.duration (word p.release) (word p.due) (word 0)

-- Byte 0 is 2, byte 1 zero, 2-3 piece before, 4-5 piece after, 6-7 handover, 8-15 zero.
unfoldable pub link_record : Link → List ℕ
unfolding plan_record half word
link_record l = plan_record 2 0 l.before (half l.after ++ half l.handover) (word 0) (word 0)

unfoldable pub file_of : Job → List ℕ
unfolding joined piece_record link_record
file_of J = joined (map piece_record J.pieces ++ map link_record J.links)
