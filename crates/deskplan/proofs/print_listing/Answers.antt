-- A listing lies within its text.
use mathlib.Core.Path.{sym}
use lib.Seq.{length-take-le}
use Rattle.deskplan_text.proofs.ListingLaws.{listed_within}
use Rattle.deskplan.proofs.print_listing.Goals as goal

pub slice_bounds-write_all-end : goal.slice_bounds-write_all-end
slice_bounds-write_all-end g c = listed_within _ _ _ _ c.write_listing-n.ensures

pub slice_bounds-write_all-end-2 : goal.slice_bounds-write_all-end-2
slice_bounds-write_all-end-2 g c = sym (length-take-le _ _ (listed_within _ _ _ _ c.write_listing-n.ensures))
