-- The runs of a plan, turn by turn: what `runs_from` of the rules does with one turn more, as three cases. All that
-- is proved of runs goes by these cases. Assumes nothing.
use mathlib.Core.Path.{◌≡◌, refl, sym, ap, ◌∙◌}
use mathlib.Core.Bool.{Bool, true, false}
use mathlib.Core.Option.{Option, none, some}
use mathlib.Core.List.{List, [], ◌∷◌, map}
use Prim.Native.Nat.{ℕ, zero, suc, ◌<◌}
use lib.Dec.{eqb}
use borrow.Author.Tests.{eqb-true, eq-eqb}
use Rattle.rules.specs.Words.{when, keep, row, below}
use Rattle.rules.specs.Job.{Job}
use Rattle.rules.specs.Hours.{is_open}
use Rattle.rules.specs.Runs.{Turn, Run, new_run, longer_run, closing, goes_on, next_run, runs_from, turns}
use Rattle.laws.proofs.Words.{by_test, mem_keep, mem_row}
use Rattle.theory.proofs.Lists.{◌∈◌}
use Rattle.theory.proofs.Plans.{Plan}

-- the open slots before h, with who is worked on in each
abbrev pub turn_of : Plan → ℕ → Turn
turn_of w t = record { slot = t; who = w t }

abbrev pub turns_of : (ℕ → Bool) → Plan → ℕ → List Turn
turns_of opens w h = map (turn_of w) (keep opens (below h))

pub turns_of_lem : (J : Job) (d : ℕ) (w : Plan) (h : ℕ) → turns J d w h ≡ turns_of (is_open J d) w h
unfolding turns
turns_of_lem J d w h = refl

pub whos_turns : (w : Plan) (ts : List ℕ) → map (λ (x : Turn). x.who) (map (turn_of w) ts) ≡ map w ts
whos_turns w [] = refl
whos_turns w (t ∷ ts) = rw (whos_turns w ts)

-- slots in rising order
abbrev pub Rise : List ℕ → Type 0
Rise [] = Unit {0}
Rise (s ∷ ts) = ((t : ℕ) → t ∈ ts → s < t) × Rise ts

rise_row : (n a : ℕ) → Rise (row a n)
unfolding row
rise_row zero a = tt
rise_row (suc n) a = (λ t m. (mem_row n (suc a) t m).0, rise_row n (suc a))

rise_keep : (p : ℕ → Bool) (ts : List ℕ) → Rise ts → Rise (keep p ts)
unfolding keep
rise_keep p [] r = tt
rise_keep p (s ∷ ts) r =
    by_test (p s)
    (λ e. rw (e, when) (λ t m. r.0 t (mem_keep p ts t m).0, rise_keep p ts r.1))
    (λ e. rw (e, when) (rise_keep p ts r.1))

-- the open slots before h rise
pub rise_open : (opens : ℕ → Bool) (h : ℕ) → Rise (keep opens (below h))
unfolding below
rise_open opens h = rise_keep opens (row 0 h) (rise_row h 0)

pub runs_over : (u : Option Run) → runs_from u [] ≡ closing u []
unfolding runs_from
runs_over u = refl

module _ (x : Turn) (xs : List Turn) where
  -- nobody is worked on: the run under way ends
  pub runs_rest : (u : Option Run) → x.who ≡ none → runs_from u (x ∷ xs) ≡ closing u (runs_from none xs)
  unfolding runs_from
  runs_rest u e = rw (e, runs_from)

  -- the run under way goes on
  pub runs-longer : (r : Run) → x.who ≡ some r.piece
      → runs_from (some r) (x ∷ xs) ≡ runs_from (some (longer_run r x.slot)) xs
  unfolding runs_from goes_on next_run when
  runs-longer r e =
      let g : eqb r.piece r.piece ≡ true = eq-eqb r.piece r.piece refl in
      rw (e, runs_from, g, when)

  -- another run begins
  pub runs_new : (u : Option Run) (i : ℕ) → x.who ≡ some i → goes_on u i ≡ false
      → runs_from u (x ∷ xs) ≡ closing u (runs_from (some (new_run i x.slot)) xs)
  unfolding runs_from goes_on next_run when
  runs_new none i e h = rw (e, runs_from)
  runs_new (some r) i e h = let g : eqb r.piece i ≡ false = h in rw (e, runs_from, g, when)

-- the three cases of a turn
pub by_turn : (P : Option Run → Type 0) (x : Turn) → ((u : Option Run) → x.who ≡ none → P u)
    → ((r : Run) → x.who ≡ some r.piece → P (some r))
    → ((u : Option Run) (i : ℕ) → x.who ≡ some i → goes_on u i ≡ false → P u) → (u : Option Run) → P u
unfolding goes_on
by_turn P x rests longer new u = who x.who refl
  where
    under : (u : Option Run) (i : ℕ) → x.who ≡ some i → P u
    under none i e = new none i e refl
    under (some r) i e =
        by_test (eqb r.piece i)
        (λ k. longer r (e ∙ ap some (sym (eqb-true r.piece i k))))
        (λ k. new (some r) i e k)

    who : (o : Option ℕ) → x.who ≡ o → P u
    who none e = rests u e
    who (some i) e = under u i e
