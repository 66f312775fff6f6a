-- A gathered block: from its first ready moment, and each next entry ready before the ones gathered so far could be
-- done. The rule's plan of such entries works in every open slot of the block and in no other: were it idle in one,
-- then all that is ready is done; so one after the other every entry is ready and done, and the block is over.
-- Assumes nothing.
use mathlib.Core.Path.{◌≡◌, refl, sym, ap, ◌∙◌}
use mathlib.Core.Logic.{⊎_elim}
use mathlib.Core.Bool.{Bool, true, false, ◌&&◌}
use mathlib.Core.Option.{Option, some}
use mathlib.Core.List.Memᴰ
use mathlib.Core.List.{List, [], ◌∷◌, ◌++◌}
use Prim.Native.Nat.{ℕ, ◌+◌, ◌≤◌, ◌<◌}
use native.Mathlib.Omega.{arith}
use lib.Dec.{leb, ltb}
use borrow.Author.Tests.{leb-true, le-leb, ltb-true, lt-ltb}
use Rattle.rules.specs.Words.{is_it}
use Rattle.laws.proofs.Words.{by_test, and_true, and_intro, sum_le, sum_lt}
use Rattle.theory.proofs.Cases.{by_le, test_ext}
use Rattle.theory.proofs.Count.{cnt, cnt_gain, cnt_false, cnt_mono}
use Rattle.theory.proofs.Lists.{◌∈◌, Distinct, sum_of}
use Rattle.theory.proofs.Hours.{Hours}
use Rattle.theory.proofs.Plans as Plans
use Rattle.theory.proofs.Plans.{Plan, busy, did}
use Rattle.theory.proofs.Rule.{Obeys}
use Rattle.theory.proofs.Allowed.{Allowed}
use Rattle.theory.proofs.Obeyed.{obeys_candidate, obeys_allowed, obeys_idle}
use Rattle.theory.proofs.Work.{on, on_when, on_some, part, part_true, work-sum}

module _ {E : Type 0} (num ready dur : E → ℕ) (opens : ℕ → Bool) where
  -- w works on K in open slots since `from` alone
  abbrev Within : Plan → ℕ → List E → Type 0
  Within w from K = (m : E) → m ∈ K → (s : ℕ) → w s ≡ some (num m) → (opens s ≡ true) × (from ≤ s)

  -- once all that is ready of K is done, all of K is ready
  abbrev pub Chained : ℕ → List E → Type 0
  Chained from K = (w : Plan) (t : ℕ) → from ≤ t → Within w from K
      → ((m : E) → m ∈ K → ready m ≤ t → dur m ≤ did w (num m) t) → (m : E) → m ∈ K → ready m ≤ t

  pub chained_one : (e : E) → Chained (ready e) (e ∷ [])
  chained_one e w t h within done m n = let p : m ≡ e = Memᴰ.eq_of_singleton n in rw p h

  -- the work on K
  abbrev onto : List E → Option ℕ → Bool
  onto K = on num (λ m. true) K

  work_within : (K : List E) (w : Plan) (from t : ℕ) → from ≤ t → Within w from K
      → cnt (λ s. onto K (w s)) t + cnt opens from ≤ cnt opens t
  work_within K w from t h within =
      omega (
        arith,
        cnt_gain (λ s. onto K (w s)) opens from t h (λ s l k e. (at s e).0),
        cnt_false (λ s. onto K (w s)) from
            (λ s l. by_test (onto K (w s)) (λ e. absurd (omega (arith, (at s e).1))) (λ e. e)),
      )
    where
      at : (s : ℕ) → onto K (w s) ≡ true → (opens s ≡ true) × (from ≤ s)
      at s e =
          let r = on_some num (λ m. true) K (w s) e in
          within r.0 r.1 s (Plans.works-some (w s) (num r.0) r.3)

  module _ (open_end : ℕ → ℕ → ℕ) (H : Hours opens open_end) where
    -- when all of K is done, its end has come
    fulfilled : (K : List E) → Distinct num K → (w : Plan) (from t : ℕ) → from ≤ t → Within w from K
        → ((m : E) → m ∈ K → dur m ≤ did w (num m) t) → open_end from (sum_of dur K) ≤ t
    fulfilled K d w from t h within done =
        H.least from (sum_of dur K) t h
        (omega (
          arith,
          work_within K w from t h within,
          work-sum num (λ m. true) K d w t,
          sum_le dur (λ m. part true (did w (num m) t)) K
              (λ m n. omega (arith, done m n, part_true true (did w (num m) t) refl)),
        ))

    pub chained_more : (from : ℕ) (K : List E) (e : E) → Distinct num K → Chained from K
        → ready e < open_end from (sum_of dur K) → Chained from (K ++ (e ∷ []))
    chained_more from K e d chain soon w t h within done m n =
        ⊎_elim
        (λ k. all m k)
        (λ k.
        let p : m ≡ e = Memᴰ.eq_of_singleton k in
        rw p
        (omega (
          arith,
          fulfilled K d w from t h (λ f i. within f (Memᴰ.append_left (e ∷ []) i))
              (λ f i. done f (Memᴰ.append_left (e ∷ []) i) (all f i)),
        )))
        (Memᴰ.append_cases K n)
      where
        all : (f : E) → f ∈ K → ready f ≤ t
        all =
            chain w t h (λ f i. within f (Memᴰ.append_left (e ∷ []) i))
            (λ f i. done f (Memᴰ.append_left (e ∷ []) i))

    -- THE PLAN OF A GATHERED BLOCK
    module _ (sooner : E → E → Bool) (from : ℕ) (K : List E) (d : Distinct num K) (chain : Chained from K)
        (floor : (m : E) → m ∈ K → from ≤ ready m) (w : Plan) (rule : Obeys num ready dur opens sooner K w) where
      abbrev end : ℕ
      end = open_end from (sum_of dur K)

      allowed : Allowed num ready dur opens K w
      allowed = obeys_allowed num ready dur opens sooner K d w rule

      within : Within w from K
      within m n s p =
          let c = obeys_candidate num ready dur opens sooner K d w rule s m n p in
          (c.hour, omega (arith, floor m n, c.ripe))

      -- it is never idle in an open slot before the end
      never_idle : (t : ℕ) → from ≤ t → t < end → opens t ≡ true → busy (w t) ≡ true
      never_idle t h k o =
          by_test (busy (w t)) (λ e. e)
          (λ e. absurd (omega (arith, fulfilled K d w from t h within (λ m n. done e m n (all e m n)))))
        where
          done : busy (w t) ≡ false → (m : E) → m ∈ K → ready m ≤ t → dur m ≤ did w (num m) t
          done e = obeys_idle num ready dur opens sooner K w rule t o (Plans.busy_none (w t) e)

          all : busy (w t) ≡ false → (m : E) → m ∈ K → ready m ≤ t
          all e = chain w t h within (done e)

      busy_on : (t : ℕ) → busy (w t) ≡ true → onto K (w t) ≡ true
      busy_on t e =
          let b = Plans.busy_some (w t) e in
          let r = allowed.known t b.0 b.1 in
          on_when num (λ m. true) K (w t) r.0 r.1 refl
          (Plans.some-works (w t) (num r.0) (b.1 ∙ ap some (sym r.2)))

      -- so all is done at the end
      all_done : (m : E) → m ∈ K → dur m ≤ did w (num m) end
      all_done m n =
          by_le (dur m) (did w (num m) end) (λ z. z)
          (λ z.
          absurd
          (omega (
            arith,
            cnt_gain opens (λ s. onto K (w s)) from end (H.from from (sum_of dur K))
                (λ s h k o. busy_on s (never_idle s h k o)),
            H.count from (sum_of dur K),
            work-sum num (λ m. true) K d w end,
            sum_lt (λ f. part true (did w (num f) end)) dur K
                (λ f i. omega (arith, allowed.most f i end, part_true true (did w (num f) end) refl))
                m n (omega (arith, part_true true (did w (num m) end) refl)),
          )))

      pub block_busy : (t : ℕ) → busy (w t) ≡ (leb from t && ltb t end && opens t)
      block_busy t =
          test_ext (busy (w t)) (leb from t && ltb t end && opens t)
          (λ e.
          let b = Plans.busy_some (w t) e in
          let r = allowed.known t b.0 b.1 in
          let p : w t ≡ some (num r.0) = b.1 ∙ ap some (sym r.2) in
          and_intro (leb from t && ltb t end) (opens t)
          (and_intro (leb from t) (ltb t end)
          (le-leb from t (within r.0 r.1 t p).1)
          (lt-ltb t end (inside r.0 r.1 t p)))
          (within r.0 r.1 t p).0)
          (λ e.
          let a = and_true (leb from t && ltb t end) (opens t) e in
          let b = and_true (leb from t) (ltb t end) a.0 in
          never_idle t (leb-true from t b.0) (ltb-true t end b.1) a.1)
        where
          inside : (m : E) → m ∈ K → (t : ℕ) → w t ≡ some (num m) → t < end
          inside m n t p =
              by_le end t
              (λ z.
              absurd
              (omega (
                arith,
                (obeys_candidate num ready dur opens sooner K d w rule t m n p).left,
                all_done m n,
                cnt_mono (λ s. is_it (w s) (num m)) end t z,
              )))
              (λ z. z)
