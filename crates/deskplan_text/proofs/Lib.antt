-- From a finished plan to its listing.
pub mod ListingLaws
