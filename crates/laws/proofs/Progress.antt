-- How far a piece is, over time: what is left only falls, a finished piece stays as it is, and no finish lies ahead.
use Prim.Native.Nat.{ℕ, zero, suc, ◌+◌, ◌-◌, ◌≤◌, ◌<◌}
use mathlib.Core.Option.{some}
use mathlib.Core.Path.{◌≡◌, ap, ◌∙◌}
use native.Mathlib.Omega.{arith}
use Rattle.rules.specs.Job.{Job, piece_count, desk, duration}
use Rattle.rules.specs.Urgency.{progress, worked_on, work_at, worked}
use Rattle.laws.proofs.Slots.{work_start, work_on_lem, work_off, by_work, worked_chosen}

module _ (J : Job) where
  -- The slots that piece i still needs at moment t, and one past its last slot worked before t.
  abbrev pub left_at : ℕ → ℕ → ℕ
  left_at t i = (progress (work_at J t) i).left

  abbrev pub finish_at : ℕ → ℕ → ℕ
  finish_at t i = (progress (work_at J t) i).finish

  -- One slot worked takes one off what is left, and sets the finish.
  pub left_worked : (t i : ℕ) → i < piece_count J → worked J (desk J i) t ≡ some i → left_at (suc t) i + 1 ≡ left_at t i
  unfolding worked_on
  left_worked t i h e =
      let u : 0 < left_at t i = (worked_chosen J (desk J i) t i e).waits.unfinished in
      let q : left_at (suc t) i ≡ left_at t i - 1 = ap (λ p. p.left) (work_on_lem J t i h e) in
      omega arith

  pub finish-worked : (t i : ℕ) → i < piece_count J → worked J (desk J i) t ≡ some i → finish_at (suc t) i ≡ t + 1
  unfolding worked_on
  finish-worked t i h e = ap (λ p. p.finish) (work_on_lem J t i h e)

  pub left_falls : (t i : ℕ) → i < piece_count J → left_at (suc t) i ≤ left_at t i
  left_falls t i h = by_work J t i
      (λ e. omega (arith, left_worked t i h e))
      (λ e. let q : left_at (suc t) i ≡ left_at t i = ap (λ p. p.left) (work_off J t i h e) in omega arith)

  pub left_least : (k t i : ℕ) → i < piece_count J → left_at (t + k) i ≤ left_at t i
  left_least zero t i h = let z : t + 0 ≡ t = omega arith in rw z (omega arith)
  left_least (suc k) t i h =
      let z : t + suc k ≡ suc (t + k) = omega arith in
      let ih : left_at (t + k) i ≤ left_at t i = left_least k t i h in
      rw z (omega (arith, left_falls (t + k) i h))

  pub left_whole : (t i : ℕ) → i < piece_count J → left_at t i ≤ duration J i
  left_whole t i h =
      let z : 0 + t ≡ t = omega arith in
      let q : left_at 0 i ≡ duration J i = ap (λ p. p.left) (work_start J i) in
      let w : left_at (0 + t) i ≤ left_at 0 i = left_least t 0 i h in
      let w2 : left_at t i ≤ left_at 0 i = rw z at w in
      omega arith

  -- A finished piece is not worked on, and stays as it is.
  pub finished_stays : (t i : ℕ) → i < piece_count J → left_at t i ≡ 0 → progress (work_at J (suc t)) i ≡ progress (work_at J t) i
  finished_stays t i h z =
      work_off J t i h
      (λ e. let u : 0 < left_at t i = (worked_chosen J (desk J i) t i e).waits.unfinished in omega arith)

  pub finished_for_good : (k t i : ℕ) → i < piece_count J → left_at t i ≡ 0 → progress (work_at J (t + k)) i ≡ progress (work_at J t) i
  finished_for_good zero t i h z = let q : t + 0 ≡ t = omega arith in rw q
  finished_for_good (suc k) t i h z =
      let q : t + suc k ≡ suc (t + k) = omega arith in
      let l : left_at (t + k) i ≤ left_at t i = left_least k t i h in
      rw q (finished_stays (t + k) i h (omega arith) ∙ finished_for_good k t i h z)

  -- No finish lies ahead.
  pub finish_past : (t i : ℕ) → i < piece_count J → finish_at t i ≤ t
  finish_past zero i h = let q : finish_at 0 i ≡ 0 = ap (λ p. p.finish) (work_start J i) in omega arith
  finish_past (suc t) i h =
      let ih : finish_at t i ≤ t = finish_past t i h in
      by_work J t i
      (λ e. omega (arith, finish-worked t i h e))
      (λ e. let q : finish_at (suc t) i ≡ finish_at t i = ap (λ p. p.finish) (work_off J t i h e) in omega arith)
