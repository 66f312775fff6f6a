-- The entry of a block that is set aside is the least urgent of the block: it has no direct follower there, since a
-- follower is less urgent. So the clause on direct links never changes who is set aside. The others are a shorter
-- list. Assumes nothing.
use mathlib.Core.Path.{◌≡◌, refl, sym, ap, ◌∙◌}
use mathlib.Core.Bool.{Bool, true, false, not}
use mathlib.Core.Option.{some}
use mathlib.Core.List.{List, ◌∷◌, []}
use mathlib.Core.List.Memᴰ.{head as here}
use mathlib.Core.List.Memᴰ.{tail as there}
use Prim.Native.Nat.{ℕ, ◌<◌}
use native.Mathlib.Omega.{arith}
use lib.Dec.{eqb}
use lib.ListN.{length}
use borrow.Author.Tests.{eqb-false, eq-eqb, ne_eqb, not-true}
use Rattle.rules.specs.Words.{when, keep, one_of}
use Rattle.rules.specs.Entries.{Entry}
use Rattle.rules.specs.Blocks.{Block, costs_less, cheaper, cheapest, without_follower, set_aside, others}
use Rattle.laws.proofs.Words.{by_test, when_true, when_false, keep_mem, mem_keep, keep-length, one_of_found}
use Rattle.theory.proofs.Cases.{by_eq}
use Rattle.theory.proofs.Lists.{◌∈◌, by-mem, Distinct, same_number}
use Rattle.laws.proofs.Order.{number, urgent}
use Rattle.theory.proofs.EntryOrder.{entry_urgency}

-- a piece is sooner than each that follows it by a direct link
abbrev pub LinksAhead : (ℕ → ℕ → Bool) → List Entry → Type 0
LinksAhead follows es =
    (e f : Entry) → e ∈ es → f ∈ es → follows e.number f.number ≡ true → urgent e f ≡ true

-- z is the least urgent of the list
pub record Last (es : List Entry) (z : Entry) : Type 0 where
  pub member : z ∈ es
  pub behind : (f : Entry) → f ∈ es → (f.number ≡ z.number → ⊥) → urgent f z ≡ true

cheapest_last : (e : Entry) (es : List Entry) → Distinct number (e ∷ es)
    → (z : Entry) × (cheapest (e ∷ es) ≡ some z) × Last (e ∷ es) z
unfolding cheapest cheaper
cheapest_last e [] d = (
  e,
  refl,
  record {
    member = here refl;
    behind = λ f m apart. by-mem m (λ p. absurd (apart (ap number p))) (λ n. elim n [ ]);
  },
)
cheapest_last e (y ∷ es) d =
    let r = cheapest_last y es d.1 in
    let z : Entry = r.0 in
    by_test (costs_less z e)
    (λ h. (
      z,
      ap some (ap (cheaper e) r.1 ∙ when_true (costs_less z e) z e h),
      record {
        member = there r.2.member;
        behind = λ f m apart. by-mem m (λ p. rw p h) (λ n. r.2.behind f n apart);
      },
    ))
    (λ h.
    let ahead : urgent z e ≡ true =
    entry_urgency.total e z (λ q. d.0 z r.2.member (sym q)) h in (
      e,
      ap some (ap (cheaper e) r.1 ∙ when_false (costs_less z e) z e h),
      record {
        member = here refl;
        behind = λ f m apart.
            by-mem m
            (λ p. absurd (apart (ap number p)))
            (λ n.
            by_eq f.number z.number
            (λ q. rw (same_number number (y ∷ es) d.1 f z n r.2.member q) ahead)
            (λ q. entry_urgency.trans f z e (r.2.behind f n q) ahead));
      },
    ))

some_last : (es : List Entry) → Distinct number es → (e : Entry) → e ∈ es
    → (z : Entry) × (cheapest es ≡ some z) × Last es z
some_last [] d e m = elim m [ ]
some_last (x ∷ es) d e m = cheapest_last x es d

by_list : {P : Type 0} (es : List Entry) → (es ≡ [] → P) → ((e : Entry) → e ∈ es → P) → P
by_list [] empty member = empty refl
by_list (e ∷ es) empty member = member e (here refl)

keep_shorter : (p : Entry → Bool) (es : List Entry) (z : Entry) → z ∈ es → p z ≡ false
    → length (keep p es) < length es
unfolding keep
keep_shorter p [] z m h = elim m [ ]
keep_shorter p (e ∷ es) z m h =
    by-mem m
    (λ q. rw (ap p (sym q) ∙ h, when) (omega (arith, keep-length p es)))
    (λ n.
    let ih : length (keep p es) < length es = keep_shorter p es z n h in
    by_test (p e) (λ k. rw (k, when) (omega arith)) (λ k. rw (k, when) (omega arith)))

-- the least urgent of a list is one entry, also if some others are left out
last_same : (es ks : List Entry) → Distinct number es → ((f : Entry) → f ∈ ks → f ∈ es) → (y z : Entry)
    → Last es y → Last ks z → y ∈ ks → z ≡ y
last_same es ks d part y z a b m =
    by_eq z.number y.number
    (λ q. same_number number es d z y (part z b.member) a.member q)
    (λ q.
    absurd
    (entry_urgency.asym y z (b.behind y m (λ p. q (sym p))) (a.behind z (part z b.member) q)))

-- numbers stay different in what is kept
pub keep_distinct : (p : Entry → Bool) (es : List Entry) → Distinct number es → Distinct number (keep p es)
unfolding keep
keep_distinct p [] d = tt
keep_distinct p (e ∷ es) d =
    by_test (p e)
    (λ h. rw (h, when) (λ f m. d.0 f (mem_keep p es f m).0, keep_distinct p es d.1))
    (λ h. rw (h, when) (keep_distinct p es d.1))

module _ (follows : ℕ → ℕ → Bool) (es : List Entry) (d : Distinct number es) (links : LinksAhead follows es) where
  abbrev free : Entry → Bool
  free e = not (one_of (λ f. follows e.number f.number) es)

  -- the least urgent has no direct follower
  last_free : (z : Entry) → Last es z → free z ≡ true
  last_free z l =
      by_test (one_of (λ f. follows z.number f.number) es)
      (λ h.
      let r = one_of_found (λ f. follows z.number f.number) es h in
      let after : urgent z r.0 ≡ true = links z r.0 l.member r.1 r.2 in
      by_eq r.0.number z.number
      (λ q.
      let same : r.0 ≡ z = same_number number es d r.0 z r.1 l.member q in
      absurd (entry_urgency.asym z z (rw same at after) (rw same at after)))
      (λ q. absurd (entry_urgency.asym z r.0 after (l.behind r.0 r.1 q))))
      (λ h. rw h)

  -- THE CLAUSE ON DIRECT LINKS NEVER CHANGES WHO IS SET ASIDE
  pub clause_idle : cheapest (without_follower follows es) ≡ cheapest es
  unfolding without_follower keep
  clause_idle = by_list es (λ q. rw q) go
    where
      go : (e : Entry) → e ∈ es → cheapest (keep free es) ≡ cheapest es
      go e m =
          let y = some_last es d e m in
          let kept : y.0 ∈ keep free es = keep_mem free es y.0 y.2.member (last_free y.0 y.2) in
          let z = some_last (keep free es) (keep_distinct free es d) y.0 kept in
          z.1
          ∙ ap some
          (last_same es (keep free es) d (λ f n. (mem_keep free es f n).0) y.0 z.0 y.2 z.2 kept)
          ∙ sym y.1

-- who is set aside of a block, and the others
module _ (follows : ℕ → ℕ → Bool) (B : Block) (d : Distinct number B.members)
    (links : LinksAhead follows B.members) where
  pub set_aside_lem : (e : Entry) → e ∈ B.members → (z : Entry) × (set_aside follows B ≡ some z) × Last B.members z
  unfolding set_aside
  set_aside_lem e m =
      let z = some_last B.members d e m in
      (z.0, clause_idle follows B.members d links ∙ z.1, z.2)

module _ (B : Block) (z : Entry) where
  abbrev other : Entry → Bool
  other e = not (eqb e.number z.number)

  pub others_mem : (e : Entry) → e ∈ B.members → (e.number ≡ z.number → ⊥) → e ∈ others B z
  unfolding others
  others_mem e m apart = keep_mem other B.members e m (rw (ne_eqb e.number z.number apart))

  pub mem_others : (e : Entry) → e ∈ others B z → (e ∈ B.members) × (e.number ≡ z.number → ⊥)
  unfolding others
  mem_others e m =
      let k = mem_keep other B.members e m in
      (k.0, eqb-false e.number z.number (not-true (eqb e.number z.number) k.1))

  pub others_distinct : Distinct number B.members → Distinct number (others B z)
  unfolding others
  others_distinct d = keep_distinct other B.members d

  pub others_shorter : z ∈ B.members → length (others B z) < length B.members
  unfolding others
  others_shorter m = keep_shorter other B.members z m (rw (eq-eqb z.number z.number refl))
