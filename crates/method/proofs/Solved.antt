-- THE BOARD HOLDS THE BLOCK METHOD: after a set was cut and its blocks were solved, each slot is held by whom the rules'
-- block method works on in it, and the board is tidy. By induction on the cuttings. Assumes nothing.
use Prim.Native.Nat.{ℕ, zero, suc, ◌+◌, ◌≤◌, ◌<◌}
use mathlib.Core.Bool.{Bool, true, false}
use mathlib.Core.List.{List, [], ◌∷◌, map}
use mathlib.Core.List.Memᴰ.{head as here}
use mathlib.Core.List.Memᴰ.{tail as there}
use mathlib.Core.Option.{Option, none, some}
use mathlib.Core.Path.{◌≡◌, refl, sym, ap, ◌∙◌}
use native.Mathlib.Omega.{arith}
use lib.ListN.{length}
use Rattle.rules.specs.Words.{when, or_else, greatest}
use Rattle.rules.specs.Entries.{Entry}
use Rattle.rules.specs.Blocks.{Block, in_order, block_end, cut_in_order, cut, set_aside, others, is_slot_of, in_block}
use Rattle.rules.specs.Blocks.{in_blocks, set_worked}
use Rattle.laws.proofs.Words.{by_test, true_or_false, when_true, when_false, greatest_of}
use Rattle.theory.proofs.Cases.{by_le}
use Rattle.theory.proofs.Hours.{Hours}
use Rattle.theory.proofs.Lists.{◌∈◌, Distinct, sum_of}
use Rattle.theory.proofs.Plans.{busy}
use Rattle.laws.proofs.Order.{number}
use Rattle.theory.proofs.OneBlock.{lasting}
use Rattle.theory.proofs.SetAside.{LinksAhead, set_aside_lem, others_shorter, mem_others}
use Rattle.theory.proofs.BlockShape.{BlocksRise, count, cut-rises, cut_count}
use Rattle.rules.specs.declared.Run.{Run as Stretch}
use Rattle.method.specs.Board.{give, holder}
use Rattle.method.specs.Method.{around, solved}
use Rattle.method.proofs.Held.{Tidy, Ends, give_tidy, give-holder, between, in_between, before_between, after_between}
use Rattle.method.proofs.Held.{shut_between}
use Rattle.method.proofs.Held.{between_facts, given, given_out, given_same}
use Rattle.method.proofs.Sets.{Good, in_order_same, sorted_good, good_keep}
use Rattle.method.proofs.Parts.{Fine, cut_over, cut_fine, cut_floor}

or_else_none : (o z : Option ℕ) → o ≡ none → or_else o z ≡ z
unfolding or_else
or_else_none o z e = rw e

pub or_else_rest : (o : Option ℕ) → or_else o none ≡ o
unfolding or_else
or_else_rest none = refl
or_else_rest (some i) = refl

or_else_first : (o y z : Option ℕ) → busy o ≡ true → or_else (or_else o y) z ≡ o
unfolding or_else busy
or_else_first none y z h = true_or_false (sym h)
or_else_first (some i) y z h = refl

or_else_busy : (o : Option ℕ) (i : ℕ) → busy (or_else o (some i)) ≡ true
unfolding or_else busy
or_else_busy none i = refl
or_else_busy (some j) i = refl

module _ (follows : ℕ → ℕ → Bool) (opens : ℕ → Bool) (end_of : ℕ → ℕ → ℕ) (H : Hours opens end_of) where
  abbrev slot_of : Block → ℕ → Bool
  slot_of = is_slot_of follows opens end_of

  abbrev works_in : (List Entry → Option ℕ) → Block → ℕ → Option ℕ
  works_in = in_block follows opens end_of

  abbrev work_in : (List Entry → Option ℕ) → List Block → ℕ → Option ℕ
  work_in = in_blocks follows opens end_of

  slot_between : (B : Block) (t : ℕ) → slot_of B t ≡ between opens B.from (block_end end_of B) t
  unfolding is_slot_of
  slot_between B t = refl

  -- A block works in its slots alone, and so do the blocks of a set.
  outside : (planned : List Entry → Option ℕ) (B : Block) (t : ℕ) → slot_of B t ≡ false → works_in planned B t ≡ none
  unfolding in_block
  outside planned B t h = go (set_aside follows B) refl
    where
      go : (o : Option Entry) → set_aside follows B ≡ o → works_in planned B t ≡ none
      go none e = rw (e, in_block)
      go (some m) e = rw (e, in_block) (when_false (slot_of B t) _ none h)

  quiet : (planned : List Entry → Option ℕ) (Bs : List Block) (t : ℕ)
      → ((C : Block) → C ∈ Bs → slot_of C t ≡ false) → work_in planned Bs t ≡ none
  unfolding in_blocks or_else
  quiet planned [] t h = refl
  quiet planned (B ∷ Bs) t h =
      rw (outside planned B t (h B (here refl)), or_else) (quiet planned Bs t (λ C m. h C (there m)))

  -- What a block leaves on the board b: it is tidy, over by the block's end, and the block's slots are as w says.
  pub record Filled (B : Block) (w : ℕ → Option ℕ) (b c : List Stretch) : Type 0 where
    pub tidy : Tidy c
    pub ends : Ends (block_end end_of B) c
    pub who : (t : ℕ) → holder opens c t ≡ when (slot_of B t) (w t) (holder opens b t)

  abbrev Fills : (Block → List Stretch → List Stretch) → (ℕ → Option ℕ) → Block → Type 0
  Fills solve w B = (b : List Stretch) → Tidy b → Ends B.from b → Filled B w b (solve B b)

  -- What a set leaves there.
  pub record Laid (who : Option ℕ) (s end : ℕ) (w : ℕ → Option ℕ) (b c : List Stretch) : Type 0 where
    pub tidy : Tidy c
    pub ends : Ends end c
    pub slots : (t : ℕ) → holder opens c t ≡ or_else (w t) (given opens who s end t (holder opens b t))

  -- One block in front of others that begin when it is over, at the latest with `end`: in slot t.
  module _ (who : Option ℕ) (s from last end t : ℕ) (o x y : Option ℕ) (h : s ≤ from) (k : from ≤ last) (l : last ≤ end)
      (idle : between opens from last t ≡ false → x ≡ none)
      (active : between opens from last t ≡ true → busy x ≡ true)
      (later : t < last → y ≡ none) (shut : opens t ≡ false → y ≡ none) where
    abbrev first : Option ℕ
    first = given opens who s from t o

    abbrev second : Option ℕ
    second = when (between opens from last t) x first

    abbrev Goal : Type 0
    Goal = or_else y (given opens who last end t second) ≡ or_else (or_else x y) (given opens who s end t o)

    -- The block does not work in slot t.
    without_x : x ≡ none → or_else (or_else x y) (given opens who s end t o) ≡ or_else y (given opens who s end t o)
    without_x xn = ap (λ (z : Option ℕ). or_else z (given opens who s end t o)) (or_else_none x y xn)

    -- Nor do the others.
    neither : x ≡ none → y ≡ none → second ≡ first → given opens who last end t second ≡ second
        → first ≡ given opens who s end t o → Goal
    neither xn yn a b c =
        or_else_none y _ yn ∙ b ∙ a ∙ c ∙ sym (without_x xn ∙ or_else_none y _ yn)

    -- It is over by then.
    behind : opens t ≡ true → last ≤ t → Goal
    behind z e =
        let off : between opens from last t ≡ false = after_between opens from last t e in
        let same : second ≡ o =
        when_false (between opens from last t) x first off
        ∙ given_out opens who s from t o (after_between opens s from t (omega arith)) in
        ap (λ (q : Option ℕ). or_else y (given opens who last end t q)) same
        ∙ ap (or_else y)
        (by_le end t
        (λ d.
        given_out opens who last end t o (after_between opens last end t d)
        ∙ sym (given_out opens who s end t o (after_between opens s end t d)))
        (λ d.
        given_same opens who last end s end t o (in_between opens last end t e d z)
        (in_between opens s end t (omega arith) d z)))
        ∙ sym (without_x (idle off))

    one_block : Goal
    one_block =
        by_test (opens t)
        (λ z.
        by_le last t (behind z)
        (λ e.
        let out : given opens who last end t second ≡ second =
        given_out opens who last end t second (before_between opens last end t e) in
        by_le from t
        (λ d.
        let on : between opens from last t ≡ true = in_between opens from last t d e z in
        or_else_none y _ (later e) ∙ out ∙ when_true (between opens from last t) x first on
        ∙ sym (or_else_first x y _ (active on)))
        (λ d.
        let off : between opens from last t ≡ false = before_between opens from last t d in
        neither (idle off) (later e) (when_false (between opens from last t) x first off) out
        (by_le s t
        (λ c.
        given_same opens who s from s end t o (in_between opens s from t c d z)
        (in_between opens s end t c (omega arith) z))
        (λ c.
        given_out opens who s from t o (before_between opens s from t c)
        ∙ sym (given_out opens who s end t o (before_between opens s end t c)))))))
        (λ z.
        let off : between opens from last t ≡ false = shut_between opens from last t z in
        neither (idle off) (shut z) (when_false (between opens from last t) x first off)
        (given_out opens who last end t second (shut_between opens last end t z))
        (given_out opens who s from t o (shut_between opens s from t z)
        ∙ sym (given_out opens who s end t o (shut_between opens s end t z))))

  module _ (solve : Block → List Stretch → List Stretch) (planned : ℕ → List Entry → Option ℕ) (who : Option ℕ)
      (end : ℕ) where
    around_lays : (Bs : List Block) (s : ℕ) (b : List Stretch)
        → ((C : Block) → C ∈ Bs → Fills solve (λ t. works_in (planned t) C t) C)
        → ((C : Block) → C ∈ Bs → (t : ℕ) → slot_of C t ≡ true → busy (works_in (planned t) C t) ≡ true)
        → BlocksRise end_of Bs
        → ((C : Block) → C ∈ Bs → (s ≤ C.from) × (block_end end_of C ≤ end)) → s ≤ end → Tidy b → Ends s b
        → Laid who s end (λ t. work_in (planned t) Bs t) b (around end_of solve who s end Bs b)
    unfolding around in_blocks or_else
    around_lays [] s b fills full rise inside h tidy ends =
        let g = give_tidy who s end b h tidy ends in
        record { tidy = g.0; ends = g.1; slots = give-holder opens who s end b tidy }
    around_lays (B ∷ Bs) s b fills full rise inside h tidy ends =
        let a = inside B (here refl) in
        let last : ℕ = block_end end_of B in
        let up : B.from ≤ last = H.from B.from B.work in
        let g = give_tidy who s B.from b a.0 tidy ends in
        let f = fills B (here refl) (give who s B.from b) g.0 g.1 in
        let r = around_lays Bs last (solve B (give who s B.from b)) (λ C m. fills C (there m)) (λ C m. full C (there m))
        rise.1 (λ C m. (rise.0 C m, (inside C (there m)).1)) a.1 f.tidy f.ends in
        record {
          tidy = r.tidy;
          ends = r.ends;
          slots = λ t.
              r.slots t
              ∙ ap (λ (q : Option ℕ). or_else (work_in (planned t) Bs t) (given opens who last end t q))
              (f.who t ∙ ap (when (slot_of B t) (works_in (planned t) B t)) (give-holder opens who s B.from b tidy t))
              ∙ one_block who s B.from last end t (holder opens b t) (works_in (planned t) B t) (work_in (planned t) Bs t)
              a.0 up a.1
              (λ e. outside (planned t) B t (slot_between B t ∙ e))
              (λ e. full B (here refl) t (slot_between B t ∙ e))
              (λ e. quiet (planned t) Bs t
              (λ C m. slot_between C t ∙ before_between opens C.from (block_end end_of C) t (omega (arith, rise.0 C m))))
              (λ e. quiet (planned t) Bs t (λ C m. slot_between C t ∙ shut_between opens C.from (block_end end_of C) t e));
        }

-- One cutting less.
abbrev before : ℕ → ℕ
before zero = zero
before (suc n) = n

-- A set that is in order need not be sorted before it is cut.
pub cut_same : (follows : ℕ → ℕ → Bool) (end_of : ℕ → ℕ → ℕ) (es : List Entry) → Good follows es
    → cut end_of es ≡ cut_in_order end_of es
unfolding cut
cut_same follows end_of es g = ap (cut_in_order end_of) (in_order_same es g.ordered)

filled_some : (es : List Entry) (e : Entry) → e ∈ es → 1 ≤ length es
filled_some [] e m = elim m [ ]
filled_some (x ∷ xs) e m = omega arith

module _ (follows : ℕ → ℕ → Bool) (opens : ℕ → Bool) (end_of : ℕ → ℕ → ℕ) (H : Hours opens end_of) where
  -- Who a set works on in slot t, by n cuttings.
  abbrev plan : ℕ → ℕ → List Entry → Option ℕ
  plan n t es = set_worked follows opens end_of n es t

  abbrev whom : ℕ → Block → ℕ → Option ℕ
  whom n B t = in_block follows opens end_of (plan n t) B t

  abbrev FillsBy : ℕ → Block → Type 0
  FillsBy n B = Fills follows opens end_of H (solved follows end_of n) (whom (before n) B) B

  module _ (B : Block) (F : Fine follows opens end_of H B) where
    aside : (m : Entry) × (set_aside follows B ≡ some m) × (m ∈ B.members)
    aside =
        let r = set_aside_lem follows B F.good.apart F.good.links F.filled.0 F.filled.1 in
        (r.0, r.1, r.2.member)

    -- In its slots a block works.
    works_there : (n t : ℕ) → is_slot_of follows opens end_of B t ≡ true → busy (whom n B t) ≡ true
    unfolding in_block
    works_there n t h =
        let a = aside in
        rw (a.1, in_block, h, when) (or_else_busy (plan n t (others B a.0)) a.0.number)

  -- What n cuttings make of a good set.
  rest_works : (n : ℕ) (es : List Entry) → Good follows es → length es ≤ n → (t : ℕ)
      → plan n t es ≡ in_blocks follows opens end_of (plan (before n) t) (cut_in_order end_of es) t
  unfolding set_worked cut_in_order in_blocks
  rest_works zero [] g h t = refl
  rest_works zero (e ∷ es) g h t = absurd (omega arith)
  rest_works (suc n) es g h t = rw (cut_same follows end_of es g)

  module _ (n : ℕ) (smaller : (C : Block) → Fine follows opens end_of H C → count C ≤ n → FillsBy n C)
      (B : Block) (F : Fine follows opens end_of H B) (few : count B ≤ suc n) (m : Entry)
      (chosen : set_aside follows B ≡ some m) (member : m ∈ B.members) where
    abbrev rest : List Entry
    rest = others B m

    abbrev parts : List Block
    parts = cut_in_order end_of rest

    rest_good : Good follows rest
    unfolding others
    rest_good = good_keep follows _ B.members F.good

    rest_few : length rest ≤ n
    rest_few = omega (arith, others_shorter B m member)

    part_fine : (C : Block) → C ∈ parts → Fine follows opens end_of H C
    part_fine = cut_fine follows opens end_of H rest rest_good

    part_few : (C : Block) → C ∈ parts → count C ≤ n
    part_few C i = omega (arith, rest_few, cut_count end_of rest C (rw (cut_same follows end_of rest rest_good) i))

    part_over : (C : Block) → C ∈ parts → block_end end_of C ≤ block_end end_of B
    unfolding others block_end
    part_over C i =
        let z : 0 + sum_of lasting B.members ≡ B.work = omega (arith, F.whole) in
        rw z at (cut_over opens end_of H _ B.members B.from 0 F.chain C i)

    part_late : (C : Block) → C ∈ parts → B.from ≤ C.from
    part_late = cut_floor end_of B.from rest (λ e i. F.floor e (mem_others B m e i).0)

    -- Who the block works on in one of its slots.
    whom_there : (t : ℕ) → is_slot_of follows opens end_of B t ≡ true → whom n B t ≡ or_else (plan n t rest) (some m.number)
    unfolding in_block
    whom_there t h = rw (chosen, in_block) (when_true (is_slot_of follows opens end_of B t) _ none h)

    -- The others work in the block's slots alone.
    rest_quiet : (t : ℕ) → is_slot_of follows opens end_of B t ≡ false
        → in_blocks follows opens end_of (plan (before n) t) parts t ≡ none
    rest_quiet t h =
        quiet follows opens end_of H (plan (before n) t) parts t
        (λ C i.
        by_test (is_slot_of follows opens end_of C t)
        (λ e.
        let k = between_facts opens C.from (block_end end_of C) t (sym (slot_between follows opens end_of H C t) ∙ e) in
        let on : between opens B.from (block_end end_of B) t ≡ true =
        in_between opens B.from (block_end end_of B) t (omega (arith, k.0, part_late C i))
        (omega (arith, k.1, part_over C i)) k.2 in
        true_or_false (sym on ∙ sym (slot_between follows opens end_of H B t) ∙ h))
        (λ e. e))

    block_slots : (t : ℕ) (o : Option ℕ)
        → or_else (in_blocks follows opens end_of (plan (before n) t) parts t)
        (given opens (some m.number) B.from (block_end end_of B) t o)
        ≡ when (is_slot_of follows opens end_of B t) (whom n B t) o
    block_slots t o =
        by_test (is_slot_of follows opens end_of B t)
        (λ h.
        ap (or_else (in_blocks follows opens end_of (plan (before n) t) parts t))
        (when_true (between opens B.from (block_end end_of B) t) (some m.number) o
        (sym (slot_between follows opens end_of H B t) ∙ h))
        ∙ ap (λ (q : Option ℕ). or_else q (some m.number)) (sym (rest_works n rest rest_good rest_few t))
        ∙ sym (when_true (is_slot_of follows opens end_of B t) (whom n B t) o h ∙ whom_there t h))
        (λ h.
        or_else_none (in_blocks follows opens end_of (plan (before n) t) parts t) _ (rest_quiet t h)
        ∙ when_false (between opens B.from (block_end end_of B) t) (some m.number) o
        (sym (slot_between follows opens end_of H B t) ∙ h)
        ∙ sym (when_false (is_slot_of follows opens end_of B t) (whom n B t) o h))

    block_filled : (b : List Stretch) → Tidy b → Ends B.from b
        → Filled follows opens end_of H B (whom n B) b (solved follows end_of (suc n) B b)
    unfolding solved
    block_filled b tidy ends =
        let r = around_lays follows opens end_of H (solved follows end_of n) (plan (before n)) (some m.number)
        (block_end end_of B) parts B.from b
        (λ C i. smaller C (part_fine C i) (part_few C i))
        (λ C i t. works_there C (part_fine C i) (before n) t)
        (rw (cut_same follows end_of rest rest_good) at (cut-rises end_of rest))
        (λ C i. (part_late C i, part_over C i)) (H.from B.from B.work) tidy ends in
        rw (chosen, solved) (record {
          tidy = r.tidy;
          ends = r.ends;
          who = λ t. r.slots t ∙ block_slots t (holder opens b t);
        })

  solved_fills : (n : ℕ) (B : Block) → Fine follows opens end_of H B → count B ≤ n → FillsBy n B
  solved_fills zero B F few = absurd (omega (arith, filled_some B.members F.filled.0 F.filled.1))
  solved_fills (suc n) B F few =
      let a = aside B F in
      block_filled n (solved_fills n) B F few a.0 a.1 a.2

  -- What n cuttings make of a set, sorted first.
  whole_set : (n : ℕ) (es : List Entry) → length es ≤ n → (t : ℕ)
      → in_blocks follows opens end_of (plan (before n) t) (cut_in_order end_of (in_order es)) t ≡ plan n t es
  unfolding in_order cut_in_order in_blocks set_worked cut
  whole_set zero [] h t = refl
  whole_set zero (e ∷ es) h t = absurd (omega arith)
  whole_set (suc n) es h t = refl

-- For nobody no slot between the blocks is given away, whatever the moments.
around_nobody : (end_of : ℕ → ℕ → ℕ) (solve : Block → List Stretch → List Stretch) (Bs : List Block) (s t end last : ℕ)
    (b : List Stretch) → around end_of solve none s end Bs b ≡ around end_of solve none t last Bs b
unfolding around give
around_nobody end_of solve [] s t end last b = refl
around_nobody end_of solve (B ∷ Bs) s t end last b =
    around_nobody end_of solve Bs (block_end end_of B) (block_end end_of B) end last (solve B b)

-- THE WHOLE SET
module _ (follows : ℕ → ℕ → Bool) (opens : ℕ → Bool) (end_of : ℕ → ℕ → ℕ) (H : Hours opens end_of) (es : List Entry)
    (d : Distinct number es) (links : LinksAhead follows es) where
  -- The board of the set, by so many cuttings.
  abbrev pub laid_out : ℕ → ℕ → ℕ → List Stretch
  laid_out n s end = around end_of (solved follows end_of n) none s end (cut_in_order end_of (in_order es)) []

  abbrev far : ℕ
  far = greatest 0 (map (block_end end_of) (cut_in_order end_of (in_order es)))

  good : Good follows (in_order es)
  good = sorted_good follows es d links

  laid : (n : ℕ) → length es ≤ n
      → Laid follows opens end_of H none 0 far
      (λ t. in_blocks follows opens end_of (plan follows opens end_of H (before n) t) (cut_in_order end_of (in_order es)) t)
      [] (laid_out n 0 far)
  unfolding cut
  laid n h =
      around_lays follows opens end_of H (solved follows end_of n) (plan follows opens end_of H (before n)) none far
      (cut_in_order end_of (in_order es)) 0 []
      (λ C m. solved_fills follows opens end_of H n C (cut_fine follows opens end_of H (in_order es) good C m)
      (omega (arith, cut_count end_of es C m)))
      (λ C m t. works_there follows opens end_of H C (cut_fine follows opens end_of H (in_order es) good C m) (before n) t)
      (cut-rises end_of es)
      (λ C m. (omega arith, greatest_of (block_end end_of) 0 (cut_in_order end_of (in_order es)) C m))
      (omega arith) tt tt

  -- Each slot is held by whom the block method works on.
  pub board_holds : (n s end t : ℕ) → length es ≤ n → holder opens (laid_out n s end) t ≡ set_worked follows opens end_of n es t
  unfolding holder
  board_holds n s end t h =
      ap (λ (b : List Stretch). holder opens b t)
      (around_nobody end_of (solved follows end_of n) (cut_in_order end_of (in_order es)) s 0 end far [])
      ∙ (laid n h).slots t ∙ or_else_rest _ ∙ whole_set follows opens end_of H n es h t

  pub board_tidy : (n s end : ℕ) → length es ≤ n → Tidy (laid_out n s end)
  board_tidy n s end h =
      rw (around_nobody end_of (solved follows end_of n) (cut_in_order end_of (in_order es)) s 0 end far []) (laid n h).tidy
