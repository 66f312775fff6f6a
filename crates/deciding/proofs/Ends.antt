-- The ends of the pieces that are worked on, one desk more; and the whole decision out of its parts.
use Prim.Native.Nat.{ℕ, ◌+◌, min}
use mathlib.Core.List.{List}
use mathlib.Core.Path.{◌≡◌, sym, ◌∙◌}
use native.Mathlib.Numerals.{add-one}
use lib.ListN.{length, get_or}
use Rattle.steps.specs.Choice.{View, whom, end_next, Decided}
use Rattle.steps.specs.Opening.{Among, Lookable}
use Rattle.steps.proofs.Earliest.{end_same}
use Rattle.deciding.specs.Look.{Looked, piece_of, named}
use Rattle.deciding.proofs.Naming.{piece-named, looked_named}

pub end_more : (t : ℕ) (left : List ℕ) (f : ℕ → ℕ) (q next m r : ℕ) → m ≡ end_next t left f q next
    → r ≡ min m (t + get_or left (f q) 0) → r ≡ end_next t left f (q + 1) next
unfolding end_next
end_more t left f q next m r a b = rw (add-one q, ← a) b

-- The least keys found, the pieces named by them, and the ends of those pieces.
pub decided : (v : View) (n : ℕ) (opened : List ℕ) → Lookable n opened v.desks v.keys
    → (count : ℕ) (best busy chosen : List ℕ) (soon : ℕ) → Looked v (Among opened (length opened)) count best busy soon
    → length chosen ≡ 32 → (pieces : List ℕ) (next : ℕ)
    → pieces ≡ named best busy count chosen
    → next ≡ end_next v.moment v.left (λ q. piece_of (whom best busy q)) count soon
    → Decided v (Among opened (length opened)) count pieces busy next
decided v n opened o count best busy chosen soon l sized pieces next p e = rw p (record {
  soon = soon;
  looked_at = looked_named count best busy l.working chosen sized v (Among opened (length opened)) soon
      (λ x m. rw m.2 at (o.telling m.0 m.1))
      (λ x m. rw m.2 at (o.own_key m.0 m.1))
      l;
  next_is = e ∙ end_same v.moment v.left _ _ count soon
      (λ q h. sym (piece-named count best busy l.working chosen sized q h));
})
