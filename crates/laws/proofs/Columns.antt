-- A table that is made of a list of structs, one field of each: what stands at a place of it; and the job of such
-- tables is the job of the lists.
use Rattle.std.specs.Prelude.{ℕ, suc, ◌+◌, List, [], ◌∷◌, ◌≡◌, map, length, get_or}
use Rattle.std.proofs.Common.{refl, ap, ap₂, ◌∙◌, arith}
use Rattle.std.proofs.lemmas.List.{map-id}
use Rattle.std.proofs.Math.ListN.{get_or-map}
use Rattle.rules.specs.Words.{row, below}
use Rattle.rules.specs.Job.{no_piece}
use Rattle.rules.specs.Tables.{desks_of, durations_of, releases_of, dues_of, befores_of, afters_of, handovers_of}
use Rattle.rules.specs.Tables.{starts_of, finishes_of, run_pieces, run_froms, run_untils, no_link, no_span, no_run}
use Rattle.rules.specs.Tables.{piece_in, link_in, pieces_in, links_in, job_in, job_of}
use Rattle.rules.specs.declared.Piece.{Piece}
use Rattle.rules.specs.declared.Link.{Link}
use Rattle.rules.specs.declared.Span.{Span}
use Rattle.rules.specs.declared.Run.{Run}

pub get_or-desks : (ps : List Piece) (i : ℕ) → get_or (desks_of ps) i 0 ≡ (get_or ps i no_piece).desk
get_or-desks ps i = get_or-map (λ p. p.desk) ps i no_piece

pub get_or-durations : (ps : List Piece) (i : ℕ) → get_or (durations_of ps) i 0 ≡ (get_or ps i no_piece).duration
get_or-durations ps i = get_or-map (λ p. p.duration) ps i no_piece

pub get_or-releases : (ps : List Piece) (i : ℕ) → get_or (releases_of ps) i 0 ≡ (get_or ps i no_piece).release
get_or-releases ps i = get_or-map (λ p. p.release) ps i no_piece

pub get_or-dues : (ps : List Piece) (i : ℕ) → get_or (dues_of ps) i 0 ≡ (get_or ps i no_piece).due
get_or-dues ps i = get_or-map (λ p. p.due) ps i no_piece

pub get_or-befores : (ls : List Link) (k : ℕ) → get_or (befores_of ls) k 0 ≡ (get_or ls k no_link).before
get_or-befores ls k = get_or-map (λ l. l.before) ls k no_link

pub get_or-afters : (ls : List Link) (k : ℕ) → get_or (afters_of ls) k 0 ≡ (get_or ls k no_link).after
get_or-afters ls k = get_or-map (λ l. l.after) ls k no_link

pub get_or-handovers : (ls : List Link) (k : ℕ) → get_or (handovers_of ls) k 0 ≡ (get_or ls k no_link).handover
get_or-handovers ls k = get_or-map (λ l. l.handover) ls k no_link

pub get_or-starts : (ws : List Span) (i : ℕ) → get_or (starts_of ws) i 0 ≡ (get_or ws i no_span).start
get_or-starts ws i = get_or-map (λ w. w.start) ws i no_span

pub get_or-finishes : (ws : List Span) (i : ℕ) → get_or (finishes_of ws) i 0 ≡ (get_or ws i no_span).finish
get_or-finishes ws i = get_or-map (λ w. w.finish) ws i no_span

pub get_or-run_pieces : (rs : List Run) (k : ℕ) → get_or (run_pieces rs) k 0 ≡ (get_or rs k no_run).piece
get_or-run_pieces rs k = get_or-map (λ r. r.piece) rs k no_run

pub get_or-run_froms : (rs : List Run) (k : ℕ) → get_or (run_froms rs) k 0 ≡ (get_or rs k no_run).from
get_or-run_froms rs k = get_or-map (λ r. r.from) rs k no_run

pub get_or-run_untils : (rs : List Run) (k : ℕ) → get_or (run_untils rs) k 0 ≡ (get_or rs k no_run).until
get_or-run_untils rs k = get_or-map (λ r. r.until) rs k no_run

-- A list read place by place.
read_on : {A B : Type 0} (f : ℕ → B) (g : A → B) (none : A) (xs : List A) (a : ℕ)
    → ((i : ℕ) → f (a + i) ≡ g (get_or xs i none)) → map f (row a (length xs)) ≡ map g xs
unfolding row
read_on f g none [] a h = refl
read_on f g none (x ∷ xs) a h =
    ap₂ (λ y ys. y ∷ ys) (ap f (add-zero a) ∙ h 0)
    (read_on f g none xs (suc a) (λ i. ap f (add-suc a i) ∙ h (suc i)))
  where
    add-zero : (a : ℕ) → a ≡ a + 0
    add-zero a = omega arith

    add-suc : (a i : ℕ) → suc a + i ≡ a + suc i
    add-suc a i = omega arith

read_whole : {A : Type 0} (f : ℕ → A) (none : A) (xs : List A) → ((i : ℕ) → f i ≡ get_or xs i none)
    → map f (below (length xs)) ≡ xs
unfolding below
read_whole f none xs h =
    let from_zero : (i : ℕ) → 0 + i ≡ i = λ i. omega arith in
    read_on f (λ x. x) none xs 0 (λ i. ap f (from_zero i) ∙ h i) ∙ map-id xs

-- The job of the tables of these pieces and links is their job.
pub job_in-columns : (ps : List Piece) (ls : List Link)
    → job_in (length ps) (length ls) (desks_of ps) (durations_of ps) (releases_of ps) (dues_of ps)
    (befores_of ls) (afters_of ls) (handovers_of ls) ≡ job_of ps ls
unfolding job_in pieces_in links_in piece_in link_in
job_in-columns ps ls =
    ap₂ (λ (a : List Piece) (b : List Link). job_of a b)
    (read_whole _ no_piece ps (λ i. rw (get_or-desks ps i, get_or-durations ps i, get_or-releases ps i, get_or-dues ps i) refl))
    (read_whole _ no_link ls (λ k. rw (get_or-befores ls k, get_or-afters ls k, get_or-handovers ls k) refl))
