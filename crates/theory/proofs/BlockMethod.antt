-- AGREEMENT: the block method works in every slot on the number that the rule works on. A set is cut into blocks,
-- each over before the entries of the next are ready; a block is planned by the rule if the others of it are; and
-- these are fewer. Assumes nothing.
use mathlib.Core.Path.{◌≡◌, refl, sym, ap, ◌∙◌, subst}
use mathlib.Core.Logic.{⊎_elim}
use mathlib.Core.Bool.{Bool, true, false, ◌&&◌}
use mathlib.Core.Option.{Option, none, some}
use mathlib.Core.List.Memᴰ
use mathlib.Core.List.{List, ◌∷◌, ◌++◌, append-nil, append_assoc, []}
use mathlib.Core.List.Memᴰ.{head as here}
use mathlib.Core.List.Memᴰ.{tail as there}
use Prim.Native.Nat.{ℕ, zero, suc, ◌+◌, ◌≤◌, ◌<◌}
use native.Mathlib.Omega.{arith}
use lib.Dec.{leb, ltb, eqb}
use lib.ListN.{length, length-append}
use borrow.Author.Tests.{leb-true, leb-false, ltb-true, ltb-false, eqb-true}
use Rattle.rules.specs.Words.{when, or_else, sum}
use Rattle.rules.specs.Entries.{Entry}
use Rattle.rules.specs.Blocks.{Block, block_of, gathered, ready_first, placed, in_order, block_end, gather, cut_in_order}
use Rattle.rules.specs.Blocks.{cut, others, in_block, in_blocks, set_worked}
use Rattle.laws.proofs.Words.{by_test, and_true, or_false, or_true}
use Rattle.theory.proofs.Lists.{◌∈◌, by-mem, Distinct, sum_snoc, distinct_snoc}
use Rattle.theory.proofs.Order.{Climbs, insert, sorted, mem_sorted, sorted_mem, sorted_distinct}
use Rattle.theory.proofs.Order.{sorted_length, sorted_climbs}
use Rattle.theory.proofs.Hours.{Hours}
use Rattle.theory.proofs.Plans.{Plan, busy}
use Rattle.theory.proofs.Layers as Layers
use Rattle.theory.proofs.Rule.{rest}
use Rattle.theory.proofs.Obeyed.{obeys_members, obeys_ext, obeys_layers, obeys_unique}
use Rattle.theory.proofs.Locality.{beside}
use Rattle.theory.proofs.Gathered.{chained_one, chained_more}
use Rattle.laws.proofs.Order.{number, urgent}
use Rattle.theory.proofs.EntryOrder.{entry_urgency}
use Rattle.theory.proofs.SetAside.{LinksAhead, others_shorter, mem_others, others_distinct}
use Rattle.theory.proofs.OneBlock.{ready_at, lasting, ObeysFor, Sound, block_obeys, block_over}

-- the order by ready moment, then number, is a sorting
abbrev pub waits : Entry → Entry → Bool
waits f e = ready_first e f

placed_insert : (e : Entry) (es : List Entry) → placed e es ≡ insert waits e es
unfolding placed insert
placed_insert e [] = refl
placed_insert e (f ∷ es) =
    by_test (ready_first e f)
    (λ h. rw (h, when, insert))
    (λ h. rw (h, when, insert) (ap (λ l. f ∷ l) (placed_insert e es)))

pub in_order_lem : (es : List Entry) → in_order es ≡ sorted waits es
unfolding in_order sorted
in_order_lem [] = refl
in_order_lem (e ∷ es) = placed_insert e (in_order es) ∙ ap (insert waits e) (in_order_lem es)

pub ready_front : (x y : Entry) → waits y x ≡ true → x.ready ≤ y.ready
unfolding ready_first
ready_front x y h =
    ⊎_elim
    (λ e. omega (arith, ltb-true x.ready y.ready e))
    (λ e.
    let k = and_true (eqb x.ready y.ready) (ltb x.number y.number) e in
    omega (arith, eqb-true x.ready y.ready k.0))
    (or_true (ltb x.ready y.ready) (eqb x.ready y.ready && ltb x.number y.number) h)

pub ready_behind : (x y : Entry) → waits y x ≡ false → y.ready ≤ x.ready
unfolding ready_first
ready_behind x y h =
    ltb-false x.ready y.ready
    (or_false (ltb x.ready y.ready) (eqb x.ready y.ready && ltb x.number y.number) h).0

or_else_rest_lem : (o : Option ℕ) → or_else o none ≡ o
unfolding or_else
or_else_rest_lem none = refl
or_else_rest_lem (some i) = refl

-- blocks as they are gathered are sound
module _ (opens : ℕ → Bool) where
  sound_one : (e : Entry) → Sound opens (block_of e)
  unfolding sum
  sound_one e = record {
    filled = (e, here refl);
    whole = omega arith;
    floor = λ m n. let p : m ≡ e = Memᴰ.eq_of_singleton n in rw p (omega arith);
    apart = (λ a m. elim m [ ], tt);
    chain = chained_one number ready_at lasting opens e;
  }

  sound_more : (end_of : ℕ → ℕ → ℕ) → Hours opens end_of → (B : Block) (e : Entry) → Sound opens B
      → e.ready < block_end end_of B → B.from ≤ e.ready → ((m : Entry) → m ∈ B.members → m.number ≡ e.number → ⊥)
      → Sound opens (gathered B e)
  unfolding block_end
  sound_more end_of H B e S soon late new = record {
    filled = (S.filled.0, Memᴰ.append_left (e ∷ []) S.filled.1);
    whole = omega (arith, S.whole, sum_snoc lasting B.members e);
    floor = λ m n.
        ⊎_elim
        (λ k. S.floor m k)
        (λ k. let p : m ≡ e = Memᴰ.eq_of_singleton k in rw p late)
        (Memᴰ.append_cases B.members n);
    apart = distinct_snoc number B.members e S.apart new;
    chain =
        chained_more number ready_at lasting opens end_of H B.from B.members e S.apart S.chain
        (omega (arith, ap (end_of B.from) S.whole));
  }

-- the blocks of a set that is gathered, where all sets shorter than N entries are planned by the rule
module _ (follows : ℕ → ℕ → Bool) (opens : ℕ → Bool) (end_of : ℕ → ℕ → ℕ) (H : Hours opens end_of)
    (planned : List Entry → Plan) (all : List Entry)
    (links : LinksAhead follows all)
    (shorter : (es : List Entry) → Distinct number es → length es < length all → ((e : Entry) → e ∈ es → e ∈ all)
    → ObeysFor opens es (planned es)) where
  abbrev cut_works : List Block → Plan
  cut_works Bs t = in_blocks follows opens end_of (λ es. planned es t) Bs t

  abbrev block_works : Block → Plan
  block_works B t = in_block follows opens end_of (λ es. planned es t) B t

  module _ (B : Block) (S : Sound opens B) (part : (m : Entry) → m ∈ B.members → m ∈ all)
      (short : length B.members ≤ length all) where
    rest_obeys : (z : Entry) → z ∈ B.members → ObeysFor opens (others B z) (planned (others B z))
    rest_obeys z m =
        shorter (others B z) (others_distinct B z S.apart) (omega (arith, others_shorter B z m))
        (λ e n. part e (mem_others B z e n).0)

    one_obeys : ObeysFor opens B.members (block_works B)
    one_obeys =
        block_obeys follows opens end_of H planned B S (λ e f m n. links e f (part e m) (part f n)) rest_obeys

    one_over : (t : ℕ) → busy (block_works B t) ≡ true → t < block_end end_of B
    one_over = block_over follows opens end_of H planned B S (λ e f m n. links e f (part e m) (part f n)) rest_obeys

  gather_obeys : (es : List Entry) (B : Block) → Sound opens B → Climbs ready_at es → Distinct number es
      → ((m : Entry) → m ∈ B.members ++ es → m ∈ all)
      → ((m e : Entry) → m ∈ B.members → e ∈ es → m.number ≡ e.number → ⊥)
      → ((e : Entry) → e ∈ es → B.from ≤ e.ready) → length B.members + length es ≤ length all
      → ObeysFor opens (B.members ++ es) (cut_works (gather end_of B es))
  unfolding gather in_blocks
  gather_obeys [] B S c d part new late short =
      rw append-nil
      (obeys_ext number ready_at lasting opens urgent B.members (block_works B) (cut_works (B ∷ []))
      (λ t. sym (or_else_rest_lem (block_works B t)))
      (one_obeys B S (λ m n. part m (Memᴰ.append_left [] n)) (omega arith)))
  gather_obeys (e ∷ es) B S c d part new late short =
      by_test (leb (block_end end_of B) e.ready)
      (λ h.
      rw (h, when)
      (beside number ready_at lasting opens urgent B.members (e ∷ es) new
      (block_works B) (cut_works (gather end_of (block_of e) es))
      (one_obeys B S (λ m n. part m (Memᴰ.append_left (e ∷ es) n)) (omega arith))
      (gather_obeys es (block_of e) (sound_one opens e) c.1 d.1
      (λ m n. part m (Memᴰ.append_right B.members n))
      (λ m f n k q. d.0 f k (sym q ∙ ap number (Memᴰ.eq_of_singleton n)))
      c.0 (omega arith))
      (block_end end_of B)
      (one_over B S (λ m n. part m (Memᴰ.append_left (e ∷ es) n)) (omega arith))
      (λ f m.
      let start : block_end end_of B ≤ e.ready = leb-true (block_end end_of B) e.ready h in
      by-mem m (λ p. rw p start) (λ n. omega (arith, c.0 f n)))
      (B.members ++ (e ∷ es))
      (λ f m. Memᴰ.append_left (e ∷ es) m)
      (λ f m. Memᴰ.append_right B.members m)
      (λ f m. Memᴰ.append_cases B.members m)))
      (λ h.
      rw (h, when)
      (subst (λ (l : List Entry). ObeysFor opens l (cut_works (gather end_of (gathered B e) es)))
      (append_assoc B.members (e ∷ []) es)
      (gather_obeys es (gathered B e)
      (sound_more opens end_of H B e S (leb-false (block_end end_of B) e.ready h) (late e (here refl))
      (λ m n. new m e n (here refl)))
      c.1 d.1
      (λ m n. part m (subst (λ (l : List Entry). m ∈ l) (append_assoc B.members (e ∷ []) es) n))
      (λ m f n k q.
      ⊎_elim
      (λ i. new m f i (there k) q)
      (λ i. d.0 f k (sym q ∙ ap number (Memᴰ.eq_of_singleton i)))
      (Memᴰ.append_cases B.members n))
      (λ f n. late f (there n))
      (omega (arith, length-append B.members (e ∷ []))))))

  -- a set that is cut
  ordered_obeys : (es : List Entry) → Climbs ready_at es → Distinct number es → ((e : Entry) → e ∈ es → e ∈ all)
      → length es ≤ length all → ObeysFor opens es (cut_works (cut_in_order end_of es))
  unfolding cut_in_order in_blocks
  ordered_obeys [] c d part short = λ t. rest refl (λ f m k. elim m [ ])
  ordered_obeys (e ∷ es) c d part short =
      gather_obeys es (block_of e) (sound_one opens e) c.1 d.1 part
      (λ m f n k q. d.0 f k (sym q ∙ ap number (Memᴰ.eq_of_singleton n)))
      c.0 (omega arith)

  cut_obeys : Distinct number all → ObeysFor opens all (cut_works (cut end_of all))
  unfolding cut
  cut_obeys d =
      rw (in_order_lem all)
      (obeys_members number ready_at lasting opens urgent (sorted waits all) all
      (mem_sorted waits all) (sorted_mem waits all)
      (cut_works (cut_in_order end_of (sorted waits all)))
      (ordered_obeys (sorted waits all) (sorted_climbs waits ready_at ready_front ready_behind all)
      (sorted_distinct waits number all d) (mem_sorted waits all)
      (omega (arith, sorted_length waits all))))

-- THE BLOCK METHOD OBEYS THE RULE, with enough cuttings
module _ (follows : ℕ → ℕ → Bool) (opens : ℕ → Bool) (end_of : ℕ → ℕ → ℕ) (H : Hours opens end_of) where
  pub set_obeys : (n : ℕ) (es : List Entry) → length es ≤ n → Distinct number es → LinksAhead follows es
      → ObeysFor opens es (set_worked follows opens end_of n es)
  unfolding set_worked
  set_obeys zero [] short d links = λ t. rest refl (λ f m k. elim m [ ])
  set_obeys zero (e ∷ es) short d links = absurd (omega arith)
  set_obeys (suc n) es short d links =
      cut_obeys follows opens end_of H (set_worked follows opens end_of n) es links
      (λ ks c less part. set_obeys n ks (omega arith) c (λ e f i j. links e f (part e i) (part f j)))
      d

  -- AGREEMENT with the plan by layers
  pub set_layers : (n : ℕ) (es : List Entry) → length es ≤ n → Distinct number es → LinksAhead follows es → (t : ℕ)
      → set_worked follows opens end_of n es t ≡ Layers.layers number ready_at lasting opens (sorted urgent es) t
  set_layers n es short d links t =
      obeys_layers number ready_at lasting opens urgent entry_urgency es d (set_worked follows opens end_of n es)
      (set_obeys n es short d links) t

  -- and with every plan that obeys the rule
  pub set_agrees : (n : ℕ) (es : List Entry) → length es ≤ n → Distinct number es → LinksAhead follows es → (w : Plan)
      → ObeysFor opens es w → (t : ℕ) → set_worked follows opens end_of n es t ≡ w t
  set_agrees n es short d links w rule t =
      obeys_unique number ready_at lasting opens urgent entry_urgency es d (set_worked follows opens end_of n es) w
      (set_obeys n es short d links) rule t
