-- A form judged whole: its pieces, its links behind them, then a row cut short; and that what is left is sound, so that
-- its values have room in their fields.
use Rattle.std.specs.Prelude.{ℕ, ◌+◌, ◌/◌, ◌%◌, ◌<◌, ◌≤◌, true, false, eqb, List, [], ◌++◌, map, ◌≡◌, length}
use Rattle.std.specs.Prelude.{Result, Ok, Err}
use Rattle.std.proofs.Common.{arith, refl, sym, ap, ◌∙◌}
use mathlib.Core.List.{append-nil}
use Rattle.rules.specs.Words.{below}
use Rattle.rules.specs.Job.{Job, Outcome, refused, accepted, empty_job}
use Rattle.rules.specs.Judgement.{then_judge}
use Rattle.rules.specs.Tables.{Sound}
use Rattle.rules.specs.Form.{piece_row, link_row, form_job, offers, take_all, unless_cut, form_outcome}
use Rattle.rules.specs.Told.{refusal_of}
use Rattle.rules.specs.Answers.{Item, Work, Tie, Refusal}
use Rattle.rules.specs.declared.fault.Refusal.{Refusal as Refused}
use Rattle.laws.specs.Held.{PieceHeld, LinkHeld}
use Rattle.laws.proofs.Words.{below_mem, mem_map, when_true, when_false}
use Rattle.laws.proofs.Joined.{map_twice}
use Rattle.laws.proofs.Reading.{sound_empty}
use Rattle.laws.proofs.Offers.{take_sound, taken_sound}
use Rattle.laws.proofs.Reread.{sound_held}
use Rattle.forms.specs.Judged.{RowsJudged, outcome_or}
use Rattle.forms.specs.Kinds.{with_pieces, with_links}
use Rattle.forms.proofs.InTurn.{rows_count}

-- The rows of pieces, and the rows of links behind n pieces.
abbrev pub PiecesJudged : List ℕ → Result Unit Refused → Type 0
PiecesJudged rows r =
    RowsJudged Work piece_row with_pieces rows (length rows / 4) (record { pieces = 0; links = 0 }) r

abbrev pub LinksJudged : ℕ → List ℕ → Result Unit Refused → Type 0
LinksJudged n rows r =
    RowsJudged Tie link_row with_links rows (length rows / 3) (record { pieces = n; links = 0 }) r

module _ (pieces links : List ℕ) where
  abbrev F : Job
  F = form_job pieces links

  abbrev n : ℕ
  n = length pieces / 4

  abbrev m : ℕ
  m = length links / 3

  -- The rows of pieces taken in.
  abbrev G : Job
  G = record { pieces = map (piece_row pieces) (below n); links = [] }

  abbrev tied : List Item
  tied = map (λ k. Tie (link_row links k)) (below m)

  -- The offers of a form, row by row.
  offers_rows : offers F ≡ map (λ i. Work (piece_row pieces i)) (below n) ++ tied
  unfolding offers form_job
  offers_rows = λ i. map_twice (piece_row pieces) Work (below n) i ++ map_twice (link_row links) Tie (below m) i

  stopped_form : (r : Refusal) → take_all (offers F) 0 empty_job ≡ refused r → form_outcome pieces links ≡ refused r
  unfolding form_outcome then_judge
  stopped_form r h = ap (λ o. then_judge o (unless_cut pieces links)) h

  after_pieces : (r : Result Unit Refused) → PiecesJudged pieces r → (xs : List Item)
      → take_all (map (λ i. Work (piece_row pieces i)) (below n) ++ xs) 0 empty_job ≡ outcome_or r (take_all xs n G)
  after_pieces r judged xs =
      let z : 0 + 0 + n ≡ n = omega arith in
      judged empty_job xs refl refl ∙ ap (λ k. outcome_or r (take_all xs k G)) z

  -- A refusal among the pieces.
  pub pieces_stopped : (x : Refused) → PiecesJudged pieces (Err x) → form_outcome pieces links ≡ refused (refusal_of x)
  pieces_stopped x judged =
      stopped_form _ (ap (λ xs. take_all xs 0 empty_job) offers_rows ∙ after_pieces (Err x) judged tied)

  module _ (taken : PiecesJudged pieces (Ok tt)) where
    -- Pieces that were taken are at most 256.
    pub few_taken : n ≤ 256
    unfolding take_all
    few_taken =
        let sound = take_sound (map (λ i. Work (piece_row pieces i)) (below n) ++ []) 0 empty_job G sound_empty
        (after_pieces (Ok tt) taken []) in
        omega (arith, sound.few_pieces, rows_count (piece_row pieces) n)

    -- The links behind them.
    after_links : (r : Result Unit Refused) → LinksJudged n links r
        → take_all (offers F) 0 empty_job ≡ outcome_or r (accepted F)
    unfolding form_job take_all
    after_links r judged =
        let z : n ≡ n + 0 = omega arith in
        ap (λ xs. take_all xs 0 empty_job) offers_rows ∙ after_pieces (Ok tt) taken tied
        ∙ ap (λ xs. take_all xs n G) (sym (append-nil tied)) ∙ ap (λ k. take_all (tied ++ []) k G) z
        ∙ judged G [] (rows_count (piece_row pieces) n) refl

    pub links_stopped : (x : Refused) → LinksJudged n links (Err x) → form_outcome pieces links ≡ refused (refusal_of x)
    links_stopped x judged = stopped_form _ (after_links (Err x) judged)

    -- And links that were taken: a row cut short, or the whole form.
    module _ (judged : LinksJudged n links (Ok tt)) where
      all_taken : form_outcome pieces links ≡ unless_cut pieces links F
      unfolding form_outcome then_judge
      all_taken = ap (λ o. then_judge o (unless_cut pieces links)) (after_links (Ok tt) judged)

      pub cut_short : eqb (length pieces % 4 + length links % 3) 0 ≡ false
          → form_outcome pieces links ≡ refused (record { number = 1; place = n + m })
      unfolding unless_cut
      cut_short h = all_taken ∙ when_false _ _ _ h

      pub form_taken : eqb (length pieces % 4 + length links % 3) 0 ≡ true → form_outcome pieces links ≡ accepted F
      unfolding unless_cut
      form_taken h = all_taken ∙ when_true _ _ _ h

  -- A form that was taken is sound.
  module _ (K : Job) (fine : form_outcome pieces links ≡ accepted K) where
    pub form_sound : Sound F
    unfolding form_outcome then_judge
    form_sound = go (take_all (offers F) 0 empty_job) refl fine
      where
        code : Outcome → ℕ
        code (refused r) = 1
        code (accepted J) = 0

        go : (o : Outcome) → take_all (offers F) 0 empty_job ≡ o → then_judge o (unless_cut pieces links) ≡ accepted K
            → Sound F
        go (refused r) e h = let z : ◌≡◌ {A = ℕ} 1 0 = ap code h in absurd (omega arith)
        go (accepted J) e h = taken_sound F J e

    pub few_rows : (n ≤ 256) × (m ≤ 1024)
    unfolding form_job
    few_rows = (
      omega (arith, form_sound.few_pieces, rows_count (piece_row pieces) n),
      omega (arith, form_sound.few_links, rows_count (link_row links) m),
    )

    pub pieces_held : (i : ℕ) → i < n → PieceHeld (piece_row pieces i)
    unfolding form_job
    pieces_held i h =
        (sound_held F form_sound).pieces_held (piece_row pieces i)
        (mem_map (piece_row pieces) (below n) i (below_mem n i h))

    pub links_held : (k : ℕ) → k < m → LinkHeld (link_row links k)
    unfolding form_job
    links_held k h =
        (sound_held F form_sound).links_held (link_row links k) (mem_map (link_row links) (below m) k (below_mem m k h))
