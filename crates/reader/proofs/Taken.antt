-- What the loop of the reading keeps, turn by turn: the rest from here is the whole, and the job has room for a record that
-- is read. What ends the loop is the outcome of the whole file.
use Rattle.std.specs.Prelude.{ℕ, ◌+◌, ◌≤◌, ◌<◌, List, [], ◌∷◌, ◌++◌, ◌≡◌, length}
use Rattle.std.proofs.Common.{arith, ap, sym, ◌∙◌}
use lib.ListN.{length-append}
use Rattle.rules.specs.Reading.{item_at, read_job}
use Rattle.rules.specs.Job.{refused, accepted}
use Rattle.rules.specs.Tables.{job_of}
use Rattle.rules.specs.declared.Piece.{Piece}
use Rattle.rules.specs.declared.Link.{Link}
use Rattle.rules.specs.Answers.{Refusal, Item, Work, Tie, Stop, Done}
use Rattle.judge.specs.declared.Counts.{Counts}
use Rattle.judge.specs.Says.{Says}
use Rattle.laws.proofs.Reading.{item_work, item_tie}
use Rattle.reader.specs.Rest.{rest}
use Rattle.reader.proofs.Rest.{from_start, on_piece, on_link, on_stop, on_done}

-- These pieces and links are taken in.
pub record Taken (s : List ℕ) (ps : List Piece) (ls : List Link) : Type 0 where
  pub few_pieces : length ps ≤ 256
  pub few_links : length ls ≤ 1024
  pub onward : read_job s ≡ rest s (length ps + length ls) (job_of ps ls)

pub taken_start : (s : List ℕ) → Taken s [] []
taken_start s = record { few_pieces = omega arith; few_links = omega arith; onward = from_start s }

module _ {s : List ℕ} {ps : List Piece} {ls : List Link} (taken : Taken s ps ls) where
  abbrev at : ℕ
  at = length ps + length ls

  -- What the reader of one record told of the file's next record, with so many pieces and links read before it.
  module _ {before : Counts} {k : ℕ} {i : Item} (says : Says before i (item_at s k))
      (pieces : before.pieces ≡ length ps) (links : before.links ≡ length ls) (place : k ≡ at) where
    pub told : i ≡ item_at s at (job_of ps ls)
    told = says (job_of ps ls) (sym pieces) (sym links) ∙ ap (λ j. item_at s j (job_of ps ls)) place

  module _ (p : Piece) (read : Work p ≡ item_at s at (job_of ps ls)) where
    pub piece_room : length ps < 256
    piece_room = (item_work s at (job_of ps ls) p (sym read)).room

    pub piece_on : Taken s (ps ++ (p ∷ [])) ls
    piece_on =
        let next : at + 1 ≡ length (ps ++ (p ∷ [])) + length ls = omega (arith, length-append ps (p ∷ [])) in
        let room = piece_room in
        record {
          few_pieces = omega (arith, length-append ps (p ∷ []));
          few_links = taken.few_links;
          onward = taken.onward ∙ on_piece s at (job_of ps ls) p (sym read)
              ∙ ap (λ k. rest s k (job_of (ps ++ (p ∷ [])) ls)) next;
        }

  module _ (l : Link) (read : Tie l ≡ item_at s at (job_of ps ls)) where
    pub link_room : length ls < 1024
    link_room = (item_tie s at (job_of ps ls) l (sym read)).room

    pub link_on : Taken s ps (ls ++ (l ∷ []))
    link_on =
        let next : at + 1 ≡ length ps + length (ls ++ (l ∷ [])) = omega (arith, length-append ls (l ∷ [])) in
        let room = link_room in
        record {
          few_pieces = taken.few_pieces;
          few_links = omega (arith, length-append ls (l ∷ []));
          onward = taken.onward ∙ on_link s at (job_of ps ls) l (sym read)
              ∙ ap (λ k. rest s k (job_of ps (ls ++ (l ∷ [])))) next;
        }

  -- Neither a piece nor a link: the outcome of the file.
  pub stopped : (r : Refusal) → Stop r ≡ item_at s at (job_of ps ls) → read_job s ≡ refused r
  stopped r e = taken.onward ∙ on_stop s at (job_of ps ls) r (sym e)

  pub done : Done ≡ item_at s at (job_of ps ls) → read_job s ≡ accepted (job_of ps ls)
  done e = taken.onward ∙ on_done s at (job_of ps ls) (sym e)
