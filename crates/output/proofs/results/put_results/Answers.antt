-- `put_results` meets its contract: each record is put right behind the ones before it.
use Rattle.std.proofs.Common.{refl, arith, get_or, pos, w32}
use mir.ValLaws.{to_z-of_z}
use Rattle.rules.specs.Tables.{desks_of, starts_of, finishes_of}
use Rattle.laws.proofs.Columns.{get_or-desks, get_or-starts, get_or-finishes}
use Rattle.records.proofs.PutLaws.{nothing_put, room_left, puts_as}
use Rattle.output.specs.Written.{results_in}
use Rattle.output.proofs.WrittenLaws.{results_step, results_length}
use Rattle.output.proofs.results.put_results.Goals as goal

pub loop-i-init : goal.loop-i-init
unfolding results_in
loop-i-init c = nothing_put c.args.buffer.now

pub put-requires : goal.put-requires
put-requires c =
    let a = c.args in
    room_left 16 c.loop-i.invariant
    (omega (
      arith,
      results_length (desks_of a.pieces.now) (starts_of a.spans.now) (finishes_of a.spans.now) a.latests.now c.loop-i.i,
      c.requires.room,
      c.loop-i-test.true,
    ))

pub loop-i-preserved : goal.loop-i-preserved
loop-i-preserved c =
    let a = c.args in
    let L = c.loop-i in
    let latest = to_z-of_z w32 (get_or a.latests.now L.i (pos 0)) (record { sfits = c.signed_word-arg-1.given }) in
    results_step (desks_of a.pieces.now) (starts_of a.spans.now) (finishes_of a.spans.now) a.latests.now L.i
    c.signed_word.result L.invariant (simp latest at c.signed_word.ensures)
    (puts_as c.put.ensures (rw (get_or-desks a.pieces.now L.i, get_or-starts a.spans.now L.i, get_or-finishes a.spans.now L.i)
    refl))
