-- The block method asks for links between pieces of the set alone: two relations that agree on them give the same board.
-- Assumes nothing.
use Prim.Native.Nat.{ℕ, zero, suc}
use mathlib.Core.Bool.{Bool, not}
use mathlib.Core.List.Memᴰ
use mathlib.Core.List.{List, [], ◌∷◌, ◌++◌, append_assoc}
use mathlib.Core.List.Memᴰ.{head as here}
use mathlib.Core.List.Memᴰ.{tail as there}
use mathlib.Core.Option.{Option, none, some}
use mathlib.Core.Path.{◌≡◌, refl, ap, ◌∙◌, subst}
use lib.Dec.{leb}
use Rattle.rules.specs.Words.{when, one_of}
use Rattle.rules.specs.Entries.{Entry}
use Rattle.rules.specs.Blocks.{Block, block_of, gathered, block_end, gather, cut_in_order, cheapest, without_follower}
use Rattle.rules.specs.Blocks.{set_aside, others}
use Rattle.laws.proofs.Words.{by_test, keep_same}
use Rattle.theory.proofs.Lists.{◌∈◌, by-mem}
use Rattle.theory.proofs.SetAside.{mem_others}
use Rattle.rules.specs.declared.Run.{Run as Stretch}
use Rattle.method.specs.Board.{give}
use Rattle.method.specs.Method.{around, solved}

one_same : (p q : Entry → Bool) (es : List Entry) → ((e : Entry) → e ∈ es → p e ≡ q e) → one_of p es ≡ one_of q es
unfolding one_of
one_same p q [] h = refl
one_same p q (e ∷ es) h = rw (h e (here refl), one_same p q es (λ f m. h f (there m)))

-- Blocks that are solved alike leave the same board.
around_same : (end_of : ℕ → ℕ → ℕ) (f g : Block → List Stretch → List Stretch) (who : Option ℕ) (t end : ℕ) (Bs : List Block)
    (b : List Stretch) → ((C : Block) → C ∈ Bs → (b : List Stretch) → f C b ≡ g C b)
    → around end_of f who t end Bs b ≡ around end_of g who t end Bs b
unfolding around
around_same end_of f g who t end [] b h = refl
around_same end_of f g who t end (B ∷ Bs) b h =
    ap (around end_of f who (block_end end_of B) end Bs) (h B (here refl) (give who t B.from b))
    ∙ around_same end_of f g who (block_end end_of B) end Bs (g B (give who t B.from b)) (λ C m. h C (there m))

module _ (end_of : ℕ → ℕ → ℕ) where
  -- The members of the blocks are of the set.
  gather_part : (B : Block) (es : List Entry) (C : Block) → C ∈ gather end_of B es → (e : Entry) → e ∈ C.members
      → e ∈ B.members ++ es
  unfolding gather
  gather_part B [] C =
      λ m e k. Memᴰ.append_left [] (by-mem m (λ p. subst (λ (D : Block). e ∈ D.members) p k) (λ n. elim n [ ]))
  gather_part B (x ∷ es) C =
      by_test (leb (block_end end_of B) x.ready)
      (λ h. rw (h, when) (λ m e k. by-mem m
      (λ p. Memᴰ.append_left (x ∷ es) (subst (λ (D : Block). e ∈ D.members) p k))
      (λ n. Memᴰ.append_right B.members (gather_part (block_of x) es C n e k))))
      (λ h. rw (h, when) (λ m e k.
      subst (λ (l : List Entry). e ∈ l) (append_assoc B.members (x ∷ []) es) (gather_part (gathered B x) es C m e k)))

  cut_part : (es : List Entry) (C : Block) → C ∈ cut_in_order end_of es → (e : Entry) → e ∈ C.members → e ∈ es
  unfolding cut_in_order
  cut_part [] C m e k = elim m [ ]
  cut_part (x ∷ es) C m e k = gather_part (block_of x) es C m e k

module _ (f g : ℕ → ℕ → Bool) where
  -- They agree on the entries.
  abbrev pub Agree : List Entry → Type 0
  Agree es = (d e : Entry) → d ∈ es → e ∈ es → f d.number e.number ≡ g d.number e.number

  aside_same : (B : Block) → Agree B.members → set_aside f B ≡ set_aside g B
  unfolding set_aside without_follower
  aside_same B h =
      ap cheapest (keep_same
      (λ d. not (one_of (λ e. f d.number e.number) B.members))
      (λ d. not (one_of (λ e. g d.number e.number) B.members)) B.members
      (λ d m. ap not (one_same (λ e. f d.number e.number) (λ e. g d.number e.number) B.members (λ e n. h d e m n))))

  pub solved_same : (end_of : ℕ → ℕ → ℕ) (n : ℕ) (B : Block) (b : List Stretch) → Agree B.members
      → solved f end_of n B b ≡ solved g end_of n B b
  unfolding solved
  solved_same end_of zero B b h = refl
  solved_same end_of (suc n) B b h = go (λ C b. solved_same end_of n C b) (set_aside g B) (aside_same B h) refl
    where
      go : ((C : Block) (b : List Stretch) → Agree C.members → solved f end_of n C b ≡ solved g end_of n C b)
          → (o : Option Entry) → set_aside f B ≡ o → set_aside g B ≡ o → solved f end_of (suc n) B b ≡ solved g end_of (suc n) B b
      go ih none p q = rw (p, q, solved) refl
      go ih (some m) p q =
          rw (p, q, solved)
          (around_same end_of (solved f end_of n) (solved g end_of n) (some m.number) B.from (block_end end_of B)
          (cut_in_order end_of (others B m)) b
          (λ C c b. ih C b (λ d e k l.
          h d e (mem_others B m d (cut_part end_of (others B m) C c d k)).0 (mem_others B m e (cut_part end_of (others B m) C c e l)).0)))

  -- And so the whole set.
  pub set_same : (end_of : ℕ → ℕ → ℕ) (n : ℕ) (who : Option ℕ) (t end : ℕ) (es : List Entry) (b : List Stretch) → Agree es
      → around end_of (solved f end_of n) who t end (cut_in_order end_of es) b
      ≡ around end_of (solved g end_of n) who t end (cut_in_order end_of es) b
  set_same end_of n who t end es b h =
      around_same end_of (solved f end_of n) (solved g end_of n) who t end (cut_in_order end_of es) b
      (λ C c b. solved_same end_of n C b (λ d e k l. h d e (cut_part end_of es C c d k) (cut_part end_of es C c e l)))
