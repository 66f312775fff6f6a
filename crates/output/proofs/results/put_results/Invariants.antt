-- `put_results` meets its contract: each record is put right behind the ones before it.
use Rattle.records.specs.Puts.{Puts}
use Rattle.rules.specs.Tables.{desks_of, starts_of, finishes_of}
use Rattle.output.specs.Written.{results_in}
use Rattle.output.proofs.results.put_results.Given as goal

abbrev pub invariant-loop-i : goal.invariant-loop-i
invariant-loop-i l =
    Puts l.initial.buffer
    (results_in l.i (desks_of l.pieces) (starts_of l.spans) (finishes_of l.spans) l.latests) l.buffer
