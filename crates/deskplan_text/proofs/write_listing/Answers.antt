-- `write_listing` keeps its promise: a text too short is left, and else the listing stands at its front.
use Rattle.std.proofs.Common.{◌≡◌, refl, sym, ◌∙◌, arith, length}
use Rattle.rules.specs.Listing.{listing}
use Rattle.records.proofs.PutLaws.{front_is}
use Rattle.deskplan_text.proofs.ListingLaws.{listed_short, listed_front}
use Rattle.deskplan_text.proofs.write_listing.Goals as goal

pub returns-then-text-lt-ENOUGH : goal.returns-then-text-lt-ENOUGH
returns-then-text-lt-ENOUGH c =
    let a = c.args in listed_short a.file.now a.text.now (omega (arith, c.if-text-lt-ENOUGH.true))

pub returns : goal.returns
returns c =
    let a = c.args in
    let whole = c.put_listing.ensures.put in
    let counted : c.put_listing.new.text.at ≡ length (listing a.file.now) = omega (arith, whole.past) in
    listed_front a.file.now a.text.now _ _ (omega (arith, c.if-text-lt-ENOUGH.false)) counted
    (c.text-1.given.1.1 (sym whole.same)
    ∙ front_is refl (omega (arith, c.put_listing.ensures.few, c.if-text-lt-ENOUGH.false)) whole)
