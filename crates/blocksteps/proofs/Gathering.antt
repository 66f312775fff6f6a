-- A block while it is gathered, piece by piece: what is left to gather gives the blocks of the whole set. Assumes
-- nothing.
use Rattle.std.proofs.Common.{ℕ, ◌+◌, ◌≤◌, ◌<◌, List, [], ◌∷◌, ◌≡◌, ◌∙◌, refl, sym, ap, map, length, take, drop, leb}
use Rattle.std.proofs.Common.{arith}
use Rattle.std.proofs.lemmas.List.{map-append, take_more, drop_more, drop_all}
use borrow.Author.Tests.{le-leb, lt-leb}
use Rattle.rules.specs.Entries.{Entry}
use Rattle.rules.specs.Blocks.{Block, gathered, block_end, gather, cut_in_order}
use Rattle.laws.proofs.Words.{when_true, when_false}
use Rattle.entries.specs.declared.list.Entry.{Entry as Struct}
use Rattle.entries.specs.Lent.{meant, no_entry, entry_at}
use Rattle.method.specs.Hours.{desk_end}
use Rattle.blocksteps.specs.Listed.{Extends}

-- The next entry is gathered, or begins a block of its own.
joins : (B : Block) (e : Entry) (es : List Entry) → e.ready < block_end desk_end B
    → gather desk_end B (e ∷ es) ≡ gather desk_end (gathered B e) es
unfolding gather
joins B e es h = when_false (leb (block_end desk_end B) e.ready) _ _ (lt-leb _ _ h)

begins : (B : Block) (e : Entry) (es : List Entry) → block_end desk_end B ≤ e.ready
    → gather desk_end B (e ∷ es) ≡ B ∷ cut_in_order desk_end (e ∷ es)
unfolding gather cut_in_order
begins B e es h = when_true (leb (block_end desk_end B) e.ready) _ _ (le-leb _ _ h)

ended : (B : Block) (es : List Entry) → es ≡ [] → gather desk_end B es ≡ B ∷ cut_in_order desk_end es
unfolding gather cut_in_order
ended B es e = rw e

module _ (es : List Struct) where
  -- The block of the first k, with their work.
  abbrev pub so_far : ℕ → ℕ → Block
  so_far work k = record { from = (entry_at es 0).ready; work = work; members = map meant (take k es) }

  pub record Gathering (work k : ℕ) : Type 0 where
    pub some_one : 1 ≤ k
    pub within : k ≤ length es
    pub rest : gather desk_end (so_far work k) (map meant (drop k es)) ≡ cut_in_order desk_end (map meant es)

  pub gathering_one : 0 < length es → Gathering (entry_at es 0).duration 1
  unfolding cut_in_order
  gathering_one h = record { some_one = omega arith; within = omega arith; rest = go es h }
    where
      go : (l : List Struct) → 0 < length l
          → gather desk_end
          (record {
            from = (entry_at l 0).ready;
            work = (entry_at l 0).duration;
            members = map meant (take 1 l);
          })
          (map meant (drop 1 l)) ≡ cut_in_order desk_end (map meant l)
      go [] h = absurd (omega arith)
      go (x ∷ xs) h = refl

  module _ (work k : ℕ) (g : Gathering work k) where
    -- The next one.
    abbrev next : Entry
    next = meant (entry_at es k)

    here : k < length es → map meant (drop k es) ≡ next ∷ map meant (drop (k + 1) es)
    here h = ap (map meant) (drop_more es k no_entry h)

    pub gathering_more : k < length es → next.ready < desk_end (entry_at es 0).ready work
        → Gathering (work + next.duration) (k + 1)
    unfolding block_end
    gathering_more h soon = record {
      some_one = omega arith;
      within = omega arith;
      rest =
          ap (λ (ms : List Entry).
          gather desk_end (record { from = (entry_at es 0).ready; work = work + next.duration; members = ms })
          (map meant (drop (k + 1) es)))
          (ap (map meant) (take_more es k no_entry h) ∙ map-append meant (take k es) (entry_at es k ∷ []))
          ∙ sym (joins (so_far work k) next (map meant (drop (k + 1) es)) soon)
          ∙ ap (gather desk_end (so_far work k)) (sym (here h))
          ∙ g.rest;
    }

    pub gathering_stop : (over : ℕ) → over ≡ desk_end (entry_at es 0).ready work → k < length es
        → over ≤ next.ready → Extends es k over
    unfolding block_end
    gathering_stop over e h late = record {
      some_one = g.some_one;
      within = g.within;
      work = work;
      ends = e;
      cuts =
          sym g.rest ∙ ap (gather desk_end (so_far work k)) (here h)
          ∙ begins (so_far work k) next (map meant (drop (k + 1) es)) (omega (arith, e))
          ∙ ap (λ (l : List Entry). so_far work k ∷ cut_in_order desk_end l) (sym (here h));
    }

    pub gathering_end : (over : ℕ) → over ≡ desk_end (entry_at es 0).ready work → length es ≡ k → Extends es (length es) over
    gathering_end over e h = rw h (record {
      some_one = g.some_one;
      within = g.within;
      work = work;
      ends = e;
      cuts =
          sym g.rest
          ∙ ended (so_far work k) (map meant (drop k es)) (ap (map meant) (drop_all k es (omega arith)));
    })
