-- `to_bytes` meets its contract: each field low byte first.
use Rattle.std.proofs.Common.{refl}
use Rattle.rules.specs.Bytes.{half, word, plan_record}
use Rattle.records.proofs.put.Row.to_bytes.Goals as goal

pub returns : goal.returns
unfolding half word plan_record
returns c =
    rw (c.from.ensures, c.to_le_bytes.ensures, c.to_le_bytes-2.ensures, c.to_le_bytes-3.ensures, c.to_le_bytes-4.ensures)
    refl
