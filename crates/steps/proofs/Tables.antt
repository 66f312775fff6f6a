-- The tables of a job's pieces and links are those of the job.
use Prim.Native.Nat.{ℕ, zero, suc, ◌+◌, ◌<◌}
use mathlib.Core.List.{List, [], ◌∷◌, ◌++◌}
use mathlib.Core.Path.{◌≡◌, refl, sym, ap, ◌∙◌}
use native.Mathlib.Omega.{arith}
use lib.ListN.{length, get_or}
use Rattle.rules.specs.Words.{row, below}
use Rattle.rules.specs.Job.{Job}
use Rattle.rules.specs.Moments.{latest}
use Rattle.rules.specs.Tables.{job_in, links_in, job_of, desks_of, durations_of, releases_of, befores_of, afters_of, handovers_of}
use Rattle.rules.specs.declared.Link.{Link}
use Rattle.rules.specs.declared.Piece.{Piece}
use Rattle.laws.proofs.Columns.{get_or-desks, get_or-durations, get_or-releases, job_in-columns}
use Rattle.steps.specs.Keys.{key_of}
use Rattle.steps.specs.Tables.{Tables, Listed}

-- The tables of these pieces and links, with the keys of the pieces.
abbrev pub tables_of : List Piece → List Link → List ℕ → Tables
tables_of ps ls keys = record {
  pieces = length ps;
  links = length ls;
  desks = desks_of ps;
  durations = durations_of ps;
  releases = releases_of ps;
  befores = befores_of ls;
  afters = afters_of ls;
  handovers = handovers_of ls;
  keys = keys;
}

pub listed : (ps : List Piece) (ls : List Link) (keys : List ℕ)
    → ((i : ℕ) → i < length ps → get_or keys i 0 ≡ key_of (latest (job_of ps ls) i) i)
    → Listed (job_of ps ls) (tables_of ps ls keys)
unfolding job_in links_in
listed ps ls keys h = record {
  count = refl;
  desk_is = λ i l. sym (get_or-desks ps i);
  duration_is = λ i l. sym (get_or-durations ps i);
  release_is = λ i l. sym (get_or-releases ps i);
  links_are = ap (λ (J : Job). J.links) (sym (job_in-columns ps ls));
  key_is = h;
}

-- One number more in a row.
pub row_more : (n a : ℕ) → row a (suc n) ≡ row a n ++ ((a + n) ∷ [])
unfolding row
row_more zero a = let z : a + 0 ≡ a = omega arith in rw z
row_more (suc n) a = let z : suc a + n ≡ a + suc n = omega arith in ap (λ l. a ∷ l) (row_more n (suc a) ∙ rw z)

pub below_more : (n : ℕ) → below (suc n) ≡ below n ++ (n ∷ [])
unfolding below
below_more n = let z : 0 + n ≡ n = omega arith in row_more n 0 ∙ rw z
