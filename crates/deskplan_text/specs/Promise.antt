-- What the listing promises: how many bytes it has, and what stands in the lent text, for every file and every text. A text
-- of 131,072 bytes has room for every listing; a shorter one is left as it was.
use Rattle.std.specs.Prelude.{ℕ, List, ◌≡◌, ltb, length}
use Rattle.rules.specs.Words.{when}
use Rattle.rules.specs.Listing.{listing}
use Rattle.rules.specs.Plan.{at_front}

-- Room for every listing.
abbrev pub enough : ℕ
enough = 131072

unfoldable pub listed_count : List ℕ → List ℕ → ℕ
unfolding when listing
listed_count file text = when (ltb (length text) enough) 0 (length (listing file))

unfoldable pub listed_text : List ℕ → List ℕ → List ℕ
unfolding when listing at_front
listed_text file text = when (ltb (length text) enough) text (at_front (listing file) text)

-- THE LISTING: a job file and a lent text give this count, and leave this in the text.
pub record ListingPromise (file text : List ℕ) (count : ℕ) (after : List ℕ) : Type 0 where
  pub counted : count ≡ listed_count file text
  pub left_there : after ≡ listed_text file text
