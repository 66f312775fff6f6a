-- `put_listing` meets its contract: a refused file has its line, an accepted one its pages.
use Rattle.std.proofs.Common.{arith}
use Rattle.rules.specs.Told.{refusal_of}
use Rattle.records.proofs.PutLaws.{puts_as}
use Rattle.lines.proofs.LineLaws.{refused_most}
use Rattle.deskplan_text.proofs.ListingLaws.{refused_is, listing_is, listing_most}
use Rattle.deskplan_text.proofs.put_listing.Goals as goal

pub put_pages-requires-clause-finished : goal.put_pages-requires-clause-finished
put_pages-requires-clause-finished c =
    (c.plan_file.new.job.links.items, rw c.deref.ensures.0 c.in-Ok.ensures.finished)

pub returns-in-Ok : goal.returns-in-Ok
returns-in-Ok c =
    let F = c.in-Ok.ensures.finished in
    let is = listing_is c.args.file.now _ c.in-Ok.ensures.outcome in
    record {
      put = puts_as (c.put_pages.ensures c.plan_file.new.job.links.items (rw c.deref.ensures.0 F)) (rw c.deref.ensures.0 is);
      few = rw (← is) (listing_most F);
    }

pub returns-in-Err : goal.returns-in-Err
returns-in-Err c =
    let r = refusal_of c.in-Err.refusal in
    let is = refused_is c.args.file.now r c.in-Err.ensures.outcome in
    record {
      put = puts_as c.put_refused_line.ensures is;
      few = rw (← is) (omega (arith, refused_most r.number r.place));
    }
