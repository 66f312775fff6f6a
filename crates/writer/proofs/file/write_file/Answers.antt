-- `write_file` meets its contract: everything is judged before the first byte, and what is written is the file.
use Rattle.std.proofs.Common.{arith, rules, refl, sym, ◌∙◌, ◌≡◌, ◌+◌, ◌*◌, ◌/◌, ◌≤◌, length}
use Rattle.rules.specs.Job.{accepted}
use Rattle.rules.specs.Form.{form_job, form_outcome}
use Rattle.writer.proofs.FormLaws.{few_rows, pieces_held, links_held}
use Rattle.writer.proofs.FileLaws.{form_refused, no_room, pieces_long, records_fit, written}
use Rattle.records.proofs.PutLaws.{puts_on, puts_sized, front_is}
use Rattle.writer.proofs.file.write_file.Goals as goal

pub returns-in_err-judge_form : goal.returns-in_err-judge_form
returns-in_err-judge_form c =
    let a = c.args in
    let told = form_refused a.pieces.now a.links.now a.buffer.now c.in_err-judge_form.field-0.0
    c.in_err-judge_form.ensures in
    search rules

pub overflow_add-bytes : goal.overflow_add-bytes
overflow_add-bytes c =
    let a = c.args in
    let fine : form_outcome a.pieces.now a.links.now ≡ accepted (form_job a.pieces.now a.links.now) = search rules in
    let few = few_rows a.pieces.now a.links.now _ fine in
    omega arith

pub returns-then-buffer-bytes : goal.returns-then-buffer-bytes
returns-then-buffer-bytes c =
    let a = c.args in
    let fine : form_outcome a.pieces.now a.links.now ≡ accepted (form_job a.pieces.now a.links.now) = search rules in
    no_room a.pieces.now a.links.now a.buffer.now fine (omega arith)

pub put_rows-requires : goal.put_rows-requires
put_rows-requires c =
    let a = c.args in
    let fine : form_outcome a.pieces.now a.links.now ≡ accepted (form_job a.pieces.now a.links.now) = search rules in
    record { room = omega arith; held = pieces_held a.pieces.now a.links.now _ fine }

pub put_rows-requires-2 : goal.put_rows-requires-2
put_rows-requires-2 c =
    let a = c.args in
    let fine : form_outcome a.pieces.now a.links.now ≡ accepted (form_job a.pieces.now a.links.now) = search rules in
    let long = pieces_long a.pieces.now a.links.now a.buffer.now fine in
    record {
      room = omega (arith, long, c.put_rows.ensures.past, puts_sized c.put_rows.ensures);
      held = links_held a.pieces.now a.links.now _ fine;
    }

pub overflow_cast-result : goal.overflow_cast-result
overflow_cast-result c =
    let a = c.args in
    let fine : form_outcome a.pieces.now a.links.now ≡ accepted (form_job a.pieces.now a.links.now) = search rules in
    let few = few_rows a.pieces.now a.links.now _ fine in
    omega arith

pub returns : goal.returns
returns c =
    let a = c.args in
    let fine : form_outcome a.pieces.now a.links.now ≡ accepted (form_job a.pieces.now a.links.now) = search rules in
    let room : 16 * (length a.pieces.now / 4) + 16 * (length a.links.now / 3) ≤ length a.buffer.now = omega arith in
    let both = puts_on c.put_rows.ensures c.put_rows-2.ensures in
    let same = sym both.same in
    let stored = front_is refl (records_fit a.pieces.now a.links.now a.buffer.now fine room) both in
    written a.pieces.now a.links.now a.buffer.now fine _ room (search rules ∙ stored)
