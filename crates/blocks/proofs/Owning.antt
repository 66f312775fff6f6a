-- The links of one desk, link by link: one more that both its pieces put there, or one that is no link of the desk.
-- Assumes nothing.
use Rattle.std.proofs.Common.{ℕ, ◌+◌, ◌≤◌, ◌<◌, Bool, false, ◌&&◌, ◌||◌, eqb, ◌≡◌, ◌∙◌, refl, sym, ap, arith}
use Rattle.std.proofs.Common.{List, [], ◌∷◌, ◌++◌, length, get_or, take}
use Rattle.std.proofs.lemmas.List.{length_push, get_or_push, get_or_append_left}
use borrow.Author.Tests.{ne_eqb}
use Rattle.rules.specs.Rings.{linked_by}
use Rattle.rules.specs.Tables.{no_link}
use Rattle.rules.specs.declared.Link.{Link}
use Rattle.laws.proofs.Words.{by_test}
use Rattle.theory.proofs.Cases.{by_eq}
use Rattle.blocksteps.proofs.Marked.{link_push, link_more}
use Rattle.blocks.specs.Own.{OwnLinks}

and_false : (a b : Bool) → b ≡ false → (a && b) ≡ false
and_false a b e = rw e (by_test a (λ k. rw k refl) (λ k. rw k refl))

module _ (d : ℕ) (desks : List ℕ) (ls : List Link) where
  -- The first n looked at.
  pub record Picked (n : ℕ) (own : List Link) : Type 0 where
    pub few : length own ≤ n
    pub are : OwnLinks d desks (take n ls) own

  module _ (n : ℕ) (own : List Link) (g : Picked n own) (some : n < length ls) where
    abbrev link : Link
    link = get_or ls n no_link

    -- A link of the desk.
    pub picked_more : (after : List Link) → after ≡ own ++ (link ∷ []) → link.before < 256 → link.after < 256
        → Picked (n + 1) after
    picked_more after put b a = rw put (record {
      few = omega (arith, g.few, length_push own link);
      are = record {
        links = record {
          before_known = λ k h. by_eq k (length own)
              (λ e. rw (e, get_or_push own link no_link (length own) refl) b)
              (λ e. rw (get_or_append_left own (link ∷ []) no_link k (omega (arith, length_push own link)))
              (g.are.links.before_known k (omega (arith, length_push own link))));
          after_known = λ k h. by_eq k (length own)
              (λ e. rw (e, get_or_push own link no_link (length own) refl) a)
              (λ e. rw (get_or_append_left own (link ∷ []) no_link k (omega (arith, length_push own link)))
              (g.are.links.after_known k (omega (arith, length_push own link))));
        };
        same = λ i j p q.
            link_push own link i j
            ∙ ap (λ (c : Bool). (eqb link.before i && eqb link.after j) || c) (g.are.same i j p q)
            ∙ sym (link_more ls n i j some);
      };
    })

    -- A link that leaves the desk or comes from elsewhere.
    picked_not : ((i j : ℕ) → get_or desks i 0 ≡ d → get_or desks j 0 ≡ d
        → (eqb link.before i && eqb link.after j) ≡ false) → Picked (n + 1) own
    picked_not unlike = record {
      few = omega (arith, g.few);
      are = record {
        links = g.are.links;
        same = λ i j p q.
            g.are.same i j p q
            ∙ ap (λ (c : Bool). c || linked_by (take n ls) i j) (sym (unlike i j p q))
            ∙ sym (link_more ls n i j some);
      };
    }

    pub picked_from : (get_or desks link.before 0 ≡ d → ⊥) → Picked (n + 1) own
    picked_from out = picked_not (λ i j p q. rw (ne_eqb link.before i (λ e. out (rw e p))) refl)

    pub picked_to : (get_or desks link.after 0 ≡ d → ⊥) → Picked (n + 1) own
    picked_to out = picked_not (λ i j p q. and_false (eqb link.before i) _ (ne_eqb link.after j (λ e. out (rw e q))))
