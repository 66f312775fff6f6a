-- `put_field` meets its contract: the word, and its number right behind it.
use Rattle.std.proofs.Common.{◌≤◌, ◌++◌, arith, length, length-append}
use Rattle.records.proofs.PutLaws.{puts_on, puts_sized, room_left}
use Rattle.texts.proofs.put_field.Goals as goal

pub put_number-requires : goal.put_number-requires
put_number-requires g c =
    room_left g.I.Integer.MAX_STR_LEN c.put.ensures
    (omega (arith, c.requires.fits.short, c.requires.fits.room, c.requires.short))

pub returns-clause-put : goal.returns-clause-put
returns-clause-put g c =
    let both = puts_on c.put.ensures c.put_number.ensures.put in
    let few : length (c.args.word.now ++ g.I.Integer.text c.args.n) ≤ 35 = omega (
      arith,
      length-append c.args.word.now (g.I.Integer.text c.args.n),
      c.put_number.ensures.fits,
      c.requires.fits.short,
      c.requires.short,
    ) in
    record { put = both; few = few; near = omega (arith, both.past, few); sized = puts_sized both }
