-- Job files written and read: a record says what it was made of, and an accepted record is made of what it says.
use Prim.Native.Nat.{ℕ, zero, suc, ◌+◌, ◌*◌, ◌/◌, ◌%◌, ◌<◌}
use mathlib.Core.List.{List, [], ◌∷◌, ◌++◌}
use mathlib.Core.Path.{◌≡◌, refl, sym, ap, ◌∙◌}
use native.Mathlib.Omega.{arith}
use lib.ListN.{length, get_or}
use Rattle.rules.specs.File.{byte_at, half_at, word_at, as_piece, as_link}
use Rattle.rules.specs.Bytes.{half, word, plan_record}
use Rattle.rules.specs.Writing.{piece_record, link_record}
use Rattle.rules.specs.declared.Piece.{Piece}
use Rattle.rules.specs.declared.Link.{Link}

-- Numbers of two and of four bytes.
half_back : (n : ℕ) → n < 65536 → n % 256 + 256 * (n / 256 % 256) ≡ n
half_back n h = omega arith

word_back : (n : ℕ) → n < 4294967296
    → n % 256 + 256 * (n / 256 % 256) + 65536 * (n / 65536 % 256 + 256 * (n / 16777216 % 256)) ≡ n
word_back n h =
    let q : n / 65536 ≡ n / 256 / 256 = omega arith in
    let r : n / 16777216 ≡ n / 65536 / 256 = omega arith in
    let a : n ≡ n % 256 + 256 * (n / 256) = omega arith in
    let b : n / 256 ≡ n / 256 % 256 + 256 * (n / 65536) = omega (arith, q) in
    let c : n / 65536 ≡ n / 65536 % 256 + 256 * (n / 16777216) = omega (arith, r) in
    let d : n / 16777216 % 256 ≡ n / 16777216 = omega arith in
    omega (arith, a, b, c, d)

-- A record says what it was made of.
pub piece_back : (p : Piece) → p.duration < 65536 → p.release < 4294967296 → p.due < 4294967296 → as_piece (piece_record p) ≡ p
unfolding as_piece piece_record plan_record half word
piece_back p a b c = λ i. record {
  desk = p.desk;
  duration = half_back p.duration a i;
  release = word_back p.release b i;
  due = word_back p.due c i;
}

pub link_back : (l : Link) → l.before < 65536 → l.after < 65536 → l.handover < 65536 → as_link (link_record l) ≡ l
unfolding as_link link_record plan_record half word
link_back l a b c = λ i. record {
  before = half_back l.before a i;
  after = half_back l.after b i;
  handover = half_back l.handover c i;
}

-- Bytes put together to a number and taken apart again: the lowest, and the others.
lowest : (a m : ℕ) → a < 256 → (a + 256 * m) % 256 ≡ a
lowest a m h = omega arith

others : (a m : ℕ) → a < 256 → (a + 256 * m) / 256 ≡ m
others a m h = omega arith

half_made : (a b : ℕ) → a < 256 → b < 256 → half (a + 256 * b) ≡ a ∷ b ∷ []
unfolding half
half_made a b p q =
    let e : b % 256 ≡ b = omega arith in
    λ i. lowest a b p i ∷ (ap (λ m. m % 256) (others a b p) ∙ e) i ∷ []

word_made : (a b c d : ℕ) → a < 256 → b < 256 → c < 256 → d < 256
    → word (a + 256 * b + 65536 * (c + 256 * d)) ≡ a ∷ b ∷ c ∷ d ∷ []
unfolding word
word_made a b c d p q r s =
    let z : a + 256 * b + 65536 * (c + 256 * d) ≡ a + 256 * (b + 256 * (c + 256 * d)) = omega arith in
    rw z (made (a + 256 * (b + 256 * (c + 256 * d))) refl)
  where
    made : (n : ℕ) → n ≡ a + 256 * (b + 256 * (c + 256 * d))
        → n % 256 ∷ n / 256 % 256 ∷ n / 65536 % 256 ∷ n / 16777216 % 256 ∷ [] ≡ a ∷ b ∷ c ∷ d ∷ []
    made n e =
        let u : n / 65536 ≡ n / 256 / 256 = omega arith in
        let v : n / 16777216 ≡ n / 65536 / 256 = omega arith in
        let x : n / 256 ≡ b + 256 * (c + 256 * d) = ap (λ k. k / 256) e ∙ others a (b + 256 * (c + 256 * d)) p in
        let y : n / 65536 ≡ c + 256 * d = u ∙ ap (λ k. k / 256) x ∙ others b (c + 256 * d) q in
        let z : n / 16777216 ≡ d = v ∙ ap (λ k. k / 256) y ∙ others c d r in
        let f : d % 256 ≡ d = omega arith in
        λ i. (ap (λ k. k % 256) e ∙ lowest a (b + 256 * (c + 256 * d)) p) i ∷ (ap (λ k. k % 256) x ∙ lowest b (c + 256 * d) q) i
        ∷ (ap (λ k. k % 256) y ∙ lowest c d r) i ∷ (ap (λ k. k % 256) z ∙ f) i ∷ []

-- A list of 16 bytes is its bytes.
spread : ℕ → ℕ → List ℕ → List ℕ
spread zero at r = []
spread (suc n) at r = get_or r at 0 ∷ spread n (suc at) r

spread_later : (n at x : ℕ) (xs : List ℕ) → spread n (suc at) (x ∷ xs) ≡ spread n at xs
unfolding spread
spread_later zero at x xs = refl
spread_later (suc n) at x xs = ap (λ l. get_or xs at 0 ∷ l) (spread_later n (suc at) x xs)

spread_is : (r : List ℕ) → spread (length r) 0 r ≡ r
unfolding spread
spread_is [] = refl
spread_is (x ∷ xs) = ap (λ l. x ∷ l) (spread_later (length xs) 0 x xs ∙ spread_is xs)

sixteen : (r : List ℕ) → length r ≡ 16 → r ≡ spread 16 0 r
sixteen r h = sym (spread_is r) ∙ ap (λ n. spread n 0 r) h

-- All bytes of a list.
abbrev pub Bytes : List ℕ → Type 0
Bytes r = (i : ℕ) → get_or r i 0 < 256

module _ (r : List ℕ) (sized : length r ≡ 16) (small : Bytes r) where
  half_here : (i : ℕ) → half (half_at r i) ≡ byte_at r i ∷ byte_at r (i + 1) ∷ []
  half_here i = half_made (byte_at r i) (byte_at r (i + 1)) (small i) (small (i + 1))

  word_here : (i : ℕ) → word (word_at r i) ≡ byte_at r i ∷ byte_at r (i + 1) ∷ byte_at r (i + 2) ∷ byte_at r (i + 2 + 1) ∷ []
  word_here i =
      word_made (byte_at r i) (byte_at r (i + 1)) (byte_at r (i + 2)) (byte_at r (i + 2 + 1))
      (small i) (small (i + 1)) (small (i + 2)) (small (i + 2 + 1))

  -- A record that is a piece's, its last bytes zero, is made of what it says.
  pub piece_made : byte_at r 0 ≡ 1 → byte_at r 12 ≡ 0 → byte_at r 13 ≡ 0 → byte_at r 14 ≡ 0 → byte_at r 15 ≡ 0
      → piece_record (as_piece r) ≡ r
  unfolding piece_record as_piece plan_record spread word
  piece_made k a b c d =
      (λ i. 1 ∷ byte_at r 1 ∷ half_here 2 i ++ word_here 4 i ++ word_here 8 i ++ (0 ∷ 0 ∷ 0 ∷ 0 ∷ []))
      ∙ sym (sixteen r sized
      ∙ λ i. k i ∷ byte_at r 1 ∷ byte_at r 2 ∷ byte_at r 3 ∷ byte_at r 4 ∷ byte_at r 5 ∷ byte_at r 6 ∷ byte_at r 7 ∷ byte_at r 8
      ∷ byte_at r 9 ∷ byte_at r 10 ∷ byte_at r 11 ∷ a i ∷ b i ∷ c i ∷ d i ∷ [])

  -- And so a link's.
  pub link_made : byte_at r 0 ≡ 2 → byte_at r 1 ≡ 0 → byte_at r 8 ≡ 0 → byte_at r 9 ≡ 0 → byte_at r 10 ≡ 0 → byte_at r 11 ≡ 0
      → byte_at r 12 ≡ 0 → byte_at r 13 ≡ 0 → byte_at r 14 ≡ 0 → byte_at r 15 ≡ 0 → link_record (as_link r) ≡ r
  unfolding link_record as_link plan_record spread word
  link_made k z a b c d e f g h =
      (λ i. 2 ∷ 0 ∷ half_here 2 i ++ (half_here 4 i ++ half_here 6 i) ++ (0 ∷ 0 ∷ 0 ∷ 0 ∷ []) ++ (0 ∷ 0 ∷ 0 ∷ 0 ∷ []))
      ∙ sym (sixteen r sized
      ∙ λ i. k i ∷ z i ∷ byte_at r 2 ∷ byte_at r 3 ∷ byte_at r 4 ∷ byte_at r 5 ∷ byte_at r 6 ∷ byte_at r 7 ∷ a i ∷ b i ∷ c i ∷ d i
      ∷ e i ∷ f i ∷ g i ∷ h i ∷ [])
