-- Tables filled from the front, one place more at a time.
use Prim.Native.Nat.{ℕ, ◌+◌, ◌<◌}
use mathlib.Core.List.{List, map}
use mathlib.Core.Path.{◌≡◌, ◌∙◌}
use native.Mathlib.Omega.{arith}
use borrow.Author.Tests.{eqb-true, eqb-false}
use lib.Dec.{eqb}
use lib.IntN.{ℤ, pos}
use lib.ListN.{length, get_or, set, length-set}
use Rattle.std.proofs.lemmas.List.{map-set}
use lib.Seq.{get_or-set_same, get_or-set_other}
use Rattle.laws.proofs.Words.{by_test}
use Rattle.rules.specs.Tables.{starts_of, finishes_of}
use Rattle.rules.specs.declared.Span.{Span}
use Rattle.steps.specs.Keys.{key_of, Keyed}
use Rattle.steps.specs.States.{left_of, ready_of}
use Rattle.steps.specs.declared.State.{State}
use Rattle.urgency.specs.Plan.{Begun}

pub filled : (T : List ℕ) (i x : ℕ) (f : ℕ → ℕ) → i < length T → ((j : ℕ) → j < i → get_or T j 0 ≡ f j) → x ≡ f i
    → (j : ℕ) → j < i + 1 → get_or (set T i x) j 0 ≡ f j
filled T i x f b h e j l = by_test (eqb j i)
    (λ q. let z : j ≡ i = eqb-true j i q in rw (z, get_or-set_same T i x 0 b) e)
    (λ q. let ne = eqb-false j i q in get_or-set_other T i j x 0 ne ∙ h j (omega arith))

-- The tables of the states and of the spans of the pieces.
module _ (durations releases : List ℕ) (latests : List ℤ) (xs : List State) (ws : List Span) where
  module _ (i : ℕ) (x : State) (w : Span) (small : i < 256) where
    stored : {A : Type 0} (f : A → ℕ) (l : List A) (y : A) (g : ℕ → ℕ) → length (map f l) ≡ 256
        → ((j : ℕ) → j < i → get_or (map f l) j 0 ≡ g j) → f y ≡ g i → (j : ℕ) → j < i + 1
        → get_or (map f (set l i y)) j 0 ≡ g j
    stored f l y g sized h e j b =
        rw (map-set f l i y) (filled (map f l) i (f y) g (omega (arith, sized)) h e j b)

    same_length : {A : Type 0} (f : A → ℕ) (l : List A) (y : A) → length (map f (set l i y)) ≡ length (map f l)
    same_length f l y = rw (map-set f l i y) (length-set (map f l) i (f y))

    pub begun_more : x.left ≡ get_or durations i 0 → x.ready ≡ get_or releases i 0 → w.start ≡ 0 → w.finish ≡ 0
        → Begun i durations releases (left_of xs) (ready_of xs) (starts_of ws) (finishes_of ws)
        → Begun (i + 1) durations releases (left_of (set xs i x)) (ready_of (set xs i x)) (starts_of (set ws i w))
        (finishes_of (set ws i w))
    begun_more a b c d h = record {
      left_sized = same_length (λ x. x.left) xs x ∙ h.left_sized;
      ready_sized = same_length (λ x. x.ready) xs x ∙ h.ready_sized;
      starts_sized = same_length (λ w. w.start) ws w ∙ h.starts_sized;
      finishes_sized = same_length (λ w. w.finish) ws w ∙ h.finishes_sized;
      left_is = stored (λ x. x.left) xs x (λ j. get_or durations j 0) h.left_sized h.left_is a;
      ready_is = stored (λ x. x.ready) xs x (λ j. get_or releases j 0) h.ready_sized h.ready_is b;
      start_is = stored (λ w. w.start) ws w (λ j. 0) h.starts_sized h.start_is c;
      finish_is = stored (λ w. w.finish) ws w (λ j. 0) h.finishes_sized h.finish_is d;
    }

-- The table of the keys.
pub keyed_more : (latests : List ℤ) (keys : List ℕ) (i key : ℕ) → i < 256 → key ≡ key_of (get_or latests i (pos 0)) i
    → Keyed i latests keys → Keyed (i + 1) latests (set keys i key)
keyed_more latests keys i key small e h = record {
  sized = length-set keys i key ∙ h.sized;
  each = filled keys i key (λ j. key_of (get_or latests j (pos 0)) j) (omega (arith, h.sized)) h.each e;
}
