-- The laws that a piece and a link keep as entries.
use Rattle.std.specs.Prelude.{ℕ, List, ◌≡◌, refl}
use Rattle.rules.specs.Job.{Job}
use Rattle.rules.specs.File.{of_piece, of_link, as_piece, as_link}
use Rattle.rules.specs.Reading.{kind_fault, value_fault, contents}
use Rattle.rules.specs.Answers.{Work, Tie}
use Rattle.judge.specs.Values.{piece_value_fault, link_value_fault}

pub piece_known : kind_fault of_piece ≡ 0
unfolding kind_fault
piece_known = refl

pub piece_values : (J : Job) (r : List ℕ) → value_fault of_piece J r ≡ piece_value_fault J (as_piece r)
unfolding value_fault
piece_values J r = refl

pub piece_contents : (r : List ℕ) → contents of_piece r ≡ Work (as_piece r)
unfolding contents
piece_contents r = refl

pub link_known : kind_fault of_link ≡ 0
unfolding kind_fault
link_known = refl

pub link_values : (J : Job) (r : List ℕ) → value_fault of_link J r ≡ link_value_fault J (as_link r)
unfolding value_fault
link_values J r = refl

pub link_contents : (r : List ℕ) → contents of_link r ≡ Tie (as_link r)
unfolding contents
link_contents r = refl
