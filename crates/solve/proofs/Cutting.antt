-- Cutting a set, block by block, and solving a block: what is left to cut from here gives the board of the whole set.
-- Assumes nothing.
use Rattle.std.proofs.Common.{ℕ, zero, suc, ◌+◌, ◌-◌, ◌*◌, ◌≤◌, ◌<◌, Bool, false, not, List, [], ◌∷◌, ◌≡◌, ◌∙◌, refl}
use Rattle.std.proofs.Common.{sym, ap, map, length, take, drop, eqb, Some, None, arith}
use Rattle.std.specs.Prelude.{Option as Maybe}
use Rattle.std.proofs.Math.Option.{Option, some}
use Rattle.std.proofs.lemmas.List.{length-take, length-drop, take_all, length-take-le, get_or-drop, get_or-take}
use Rattle.std.proofs.lemmas.List.{drop-drop}
use mathlib.Core.List.Memᴰ.{head as here}
use mathlib.Core.List.Memᴰ.{tail as there}
use mathlib.Core.List.{Memᴰ as Mem}
use borrow.Author.Tests.{eq-eqb}
use Rattle.rules.specs.Words.{when, keep}
use Rattle.rules.specs.Rings.{linked_by}
use Rattle.rules.specs.Entries.{Entry}
use Rattle.rules.specs.Blocks.{Block, block_end, cut_in_order}
use Rattle.rules.specs.declared.Link.{Link}
use Rattle.rules.specs.declared.Run.{Run as Stretch}
use Rattle.laws.proofs.Words.{by_test, keep-length, mem_keep}
use Rattle.laws.proofs.Sound.{mem_place, place_mem}
use Rattle.entries.specs.declared.list.Entry.{Entry as Struct}
use Rattle.entries.specs.Lent.{meant, no_entry, entry_at}
use Rattle.method.specs.Hours.{desk_end}
use Rattle.method.specs.Board.{board_of, give, whom, share}
use Rattle.method.specs.Method.{around, solved}
use Rattle.blocksteps.specs.Listed.{Listed, Extends}
use Rattle.blocksteps.specs.Aside.{Aside}
use Rattle.blocksteps.proofs.Chosen.{aside_listed, others_are}
use Rattle.solve.specs.Solving.{CutOnto, SolvedOnto}

module _ (follows : ℕ → ℕ → Bool) (f : ℕ) (who : Option ℕ) (end : ℕ) where
  -- The board of the set from moment t on.
  abbrev pub onward : ℕ → List Struct → List Stretch → List Stretch
  onward t es b = around desk_end (solved follows desk_end f) who t end (cut_in_order desk_end (map meant es)) b

  -- One block more.
  pub one_block : (es : List Struct) (t count over : ℕ) (b c d : List Stretch) → Extends es count over
      → c ≡ give who t (entry_at es 0).ready b
      → ((work : ℕ) → over ≡ desk_end (entry_at es 0).ready work
      → d ≡ solved follows desk_end f
      (record { from = (entry_at es 0).ready; work = work; members = map meant (take count es) }) c)
      → onward over (drop count es) d ≡ onward t es b
  unfolding around block_end
  one_block es t count over b c d e p q =
      let rest : List Block = cut_in_order desk_end (map meant (drop count es)) in
      let first : Block =
      record { from = (entry_at es 0).ready; work = e.work; members = map meant (take count es) } in
      ap (λ (s : ℕ). around desk_end (solved follows desk_end f) who s end rest d) e.ends
      ∙ ap (around desk_end (solved follows desk_end f) who (block_end desk_end first) end rest)
      (q e.work e.ends ∙ ap (solved follows desk_end f first) p)
      ∙ sym (ap (λ (Bs : List Block). around desk_end (solved follows desk_end f) who t end Bs b) e.cuts)

  -- No block more.
  pub no_block : (es : List Struct) (t : ℕ) (b : List Stretch) → es ≡ [] → give who t end b ≡ onward t es b
  unfolding around cut_in_order
  no_block es t b e = rw e

-- The set cut up to place `at` of its slice, and to moment t: what is left to cut from here gives the board of the whole
-- set.
pub record CutTo (follows : ℕ → ℕ → Bool) (who : Option ℕ) (from end : ℕ) (start : List Struct) (laid : List Stretch)
    (es : List Struct) (runs : List Stretch) (t at : ℕ) : Type 0 where
  pub within : at ≤ length start
  pub sized : length es ≡ length start
  pub rest : drop at es ≡ drop at start
  pub few : length runs + 2 * (length start - at) ≤ length laid + 2 * length start
  pub board : (f : ℕ) → length start ≤ f
      → onward follows f who end t (drop at start) (board_of runs)
      ≡ onward follows f who end from start (board_of laid)

-- Two slices that are the same from place a on.
module _ (es start : List Struct) (a : ℕ) (e : drop a es ≡ drop a start) where
  pub same_at : entry_at es a ≡ entry_at start a
  same_at =
      let z : a + 0 ≡ a = omega arith in
      ap (entry_at es) (sym z) ∙ sym (get_or-drop a es 0 no_entry) ∙ ap (λ (l : List Struct). entry_at l 0) e
      ∙ get_or-drop a start 0 no_entry ∙ ap (entry_at start) z

  pub same_rest : take (length es - a) (drop a es) ≡ drop a start
  same_rest = take_all (length es - a) (drop a es) (omega (arith, length-drop a es)) ∙ e

-- The part from place a until a + n.
pub part_length : (es : List Struct) (a n : ℕ) → a + n ≤ length es → length (take (a + n - a) (drop a es)) ≡ n
part_length es a n h =
    let q : a + n - a ≡ n = omega arith in
    rw q (length-take-le n (drop a es) (omega (arith, length-drop a es)))

pub part_same : (es start : List Struct) (a n : ℕ) → drop a es ≡ drop a start
    → take (a + n - a) (drop a es) ≡ take n (drop a start)
part_same es start a n e = let q : a + n - a ≡ n = omega arith in rw q (ap (take n) e)

-- Past the part, as it was.
pub past_part : (es start : List Struct) (a n : ℕ) → drop a es ≡ drop a start → drop (a + n) es ≡ drop (a + n) start
past_part es start a n e = sym (drop-drop n a es) ∙ ap (drop n) e ∙ drop-drop n a start

pub first_of : (es : List Struct) (a : ℕ) → entry_at (drop a es) 0 ≡ entry_at es a
first_of es a = let z : a + 0 ≡ a = omega arith in get_or-drop a es 0 no_entry ∙ ap (entry_at es) z

-- One block more of the slice that is the same from place a on.
module _ (ls : List Link) (es start : List Struct) (a n over f : ℕ) (who : Maybe ℕ) (end t : ℕ)
    (e : drop a es ≡ drop a start) where
  pub next_block : (b c d : List Stretch) → Extends (drop a start) n over
      → c ≡ give (whom who) t (entry_at es a).ready b
      → SolvedOnto ls (take (a + n - a) (drop a es)) (entry_at es a).ready over c d
      → length (take (a + n - a) (drop a es)) ≤ f
      → onward (linked_by ls) f (whom who) end over (drop (a + n) start) d
      ≡ onward (linked_by ls) f (whom who) end t (drop a start) b
  next_block b c d x p q l =
      let g = linked_by ls in
      let moment : (entry_at es a).ready ≡ (entry_at (drop a start) 0).ready =
      ap (λ (x : Struct). x.ready) (same_at es start a e ∙ sym (first_of start a)) in
      ap (λ (l : List Struct). onward g f (whom who) end over l d) (sym (drop-drop n a start))
      ∙ one_block g f (whom who) end (drop a start) t n over b c d x
      (p ∙ ap (λ (s : ℕ). give (whom who) t s b) moment)
      (λ work k.
      q f work l (k ∙ ap (λ (s : ℕ). desk_end s work) (sym moment))
      ∙ ap (λ (s : ℕ). solved g desk_end f
      (record { from = s; work = work; members = map meant (take (a + n - a) (drop a es)) }) c) moment
      ∙ ap (λ (ks : List Struct). solved g desk_end f
      (record { from = (entry_at (drop a start) 0).ready; work = work; members = map meant ks }) c)
      (part_same es start a n e))

-- A part of the slice is listed.
pub listed_part : (es : List Struct) (a n : ℕ) → Listed es → a + n ≤ length es → Listed (take n (drop a es))
listed_part es a n h l =
    let sized : length (take n (drop a es)) ≡ n = simp (length-take, length-drop) (omega arith) in
    record {
      few = omega (arith, h.few);
      known = λ k i. rw (part_at k (omega arith)) (h.known (a + k) (omega arith));
      early = λ k i. rw (part_at k (omega arith)) (h.early (a + k) (omega arith));
    }
  where
    part_at : (k : ℕ) → k < n → entry_at (take n (drop a es)) k ≡ entry_at es (a + k)
    part_at k i = get_or-take n (drop a es) k no_entry i ∙ get_or-drop a es k no_entry

pub listed_rest : (es : List Struct) (a : ℕ) → Listed es → a ≤ length es → Listed (drop a es)
listed_rest es a h l =
    rw (same_rest es es a refl) at (listed_part es a (length es - a) h (omega arith))

pub listed-keep : (es : List Struct) (p : Struct → Bool) → Listed es → Listed (keep p es)
listed-keep es p h = record {
  few = omega (arith, keep-length p es, h.few);
  known = λ k i. let w = kept_place k i in rw w.2 at (h.known w.0 w.1);
  early = λ k i. let w = kept_place k i in rw w.2 at (h.early w.0 w.1);
}
  where
    kept_place : (k : ℕ) → k < length (keep p es)
        → (j : ℕ) × (j < length es) × (entry_at es j ≡ entry_at (keep p es) k)
    kept_place k i =
        mem_place no_entry es (entry_at (keep p es) k)
        (mem_keep p es (entry_at (keep p es) k) (place_mem no_entry (keep p es) k i)).0

keep_fewer : (p : Struct → Bool) (l : List Struct) (x : Struct) → Mem x l → p x ≡ false → length (keep p l) < length l
unfolding keep
keep_fewer p [] _ never h = elim never [ ]
keep_fewer p (y ∷ l) x (here e) h =
    let k : p y ≡ false = ap p (sym e) ∙ h in rw (k, when) (omega (arith, keep-length p l))
keep_fewer p (y ∷ l) x (there m) h =
    let ih : length (keep p l) < length l = keep_fewer p l x m h in
    by_test (p y) (λ k. rw (k, when) (omega arith)) (λ k. rw (k, when) (omega arith))

-- What a gift can add.
pub share_most : (x : Maybe ℕ) → share x ≤ 1
share_most None = omega arith
share_most (Some p) = omega arith

-- SOLVING A BLOCK: nobody is set aside, or one is and the others are cut.
module _ (ls : List Link) (es : List Struct) where
  abbrev g : ℕ → ℕ → Bool
  g = linked_by ls

  abbrev B : ℕ → ℕ → Block
  B from work = record { from = from; work = work; members = map meant es }

  pub solved_nobody : (from work f : ℕ) (b : List Stretch) → Aside g es None → b ≡ solved g desk_end f (B from work) b
  unfolding solved
  solved_nobody from work zero b a = refl
  solved_nobody from work (suc f) b a = rw (a from work, solved)

  module _ (r : Struct) (a : Aside g es (Some r)) where
    abbrev rest : List Struct
    rest = keep (λ e. not (eqb e.number r.number)) es

    -- The others are fewer.
    pub fewer : length rest < length es
    fewer =
        let x = aside_listed g es r a in
        keep_fewer (λ e. not (eqb e.number r.number)) es x.0 x.1 (ap not (eq-eqb x.0.number r.number (sym x.2)))

    solved_others : (from work n : ℕ) (b : List Stretch)
        → onward g n (some r.number) (desk_end from work) from rest b ≡ solved g desk_end (suc n) (B from work) b
    unfolding solved block_end
    solved_others from work n b =
        sym (rw (a from work, solved)
        (ap (λ (l : List Entry). around desk_end (solved g desk_end n) (some r.number) from (desk_end from work)
        (cut_in_order desk_end l) b) (others_are es from work r)))

    pub solved_by_cut : (from work f : ℕ) (ks : List Struct) (end : ℕ) (b d : List Stretch) → ks ≡ rest → length es ≤ f
        → end ≡ desk_end from work → CutOnto ls ks (Some r.number) from end b d
        → d ≡ solved g desk_end f (B from work) b
    solved_by_cut from work f ks end b d same few over cut =
        let less : length ks < length es = rw same fewer in
        let n : ℕ = f - 1 in
        let one : suc n ≡ f = omega arith in
        cut n (omega arith)
        ∙ ap (λ (e : ℕ). onward g n (some r.number) e from ks b) over
        ∙ ap (λ (l : List Struct). onward g n (some r.number) (desk_end from work) from l b) same
        ∙ solved_others from work n b
        ∙ ap (λ (k : ℕ). solved g desk_end k (B from work) b) one
