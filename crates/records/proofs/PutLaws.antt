-- Puts one behind the other are one put, and what is left of the room.
use Rattle.std.specs.Prelude.{ℕ, ◌+◌, List, [], ◌++◌, ◌≡◌, length, ◌≤◌}
use Rattle.std.proofs.Common.{refl, sym, ap, ◌∙◌, arith, length-append, add-zero}
use Rattle.std.proofs.Math.Seq.{sets, length-sets}
use Rattle.records.specs.Puts.{Puts, Room}
use Rattle.records.specs.declared.lent.Lent.{Lent}
use Rattle.rules.specs.Plan.{at_front}
use Rattle.records.proofs.Stores.{sets_on}
use Rattle.records.proofs.Front.{stored_front}

pub nothing_put : (a : Lent) → Puts a [] a
nothing_put a = record { written = refl; past = sym (add-zero a.at); same = refl }

pub puts_on : {a b c : Lent} {xs ys : List ℕ} → Puts a xs b → Puts b ys c → Puts a (xs ++ ys) c
puts_on {a} {b} {c} {xs} {ys} p q = record {
  written = q.written ∙ rw (p.written, p.past) (sets_on a.bytes.now a.at xs ys);
  past = omega (arith, p.past, q.past, length-append xs ys);
  same = q.same ∙ p.same;
}

-- The same bytes by another name.
pub puts_as : {a b : Lent} {xs ys : List ℕ} → Puts a xs b → xs ≡ ys → Puts a ys b
puts_as {a} {b} p e = rw e at p

pub puts_sized : {a b : Lent} {xs : List ℕ} → Puts a xs b → length b.bytes.now ≡ length a.bytes.now
puts_sized {a} {b} {xs} p = ap (λ l. length l) p.written ∙ length-sets a.bytes.now a.at xs

pub room_left : {a b : Lent} {xs : List ℕ} (n : ℕ) → Puts a xs b → Room a (length xs + n) → Room b n
room_left {a} {b} {xs} n p h = omega (arith, p.past, h, puts_sized p)

-- What is put into a whole buffer stands at its front.
pub front_is : {a b : Lent} {xs : List ℕ} → a.at ≡ 0 → length xs ≤ length a.bytes.now → Puts a xs b
    → b.bytes.now ≡ at_front xs a.bytes.now
front_is {a} {b} {xs} z h p = p.written ∙ ap (λ k. sets a.bytes.now k xs) z ∙ stored_front a.bytes.now xs h
