-- `mark` goes over the open pieces. The loop's invariant: the places of the first k of them are noted. The table is lent to
-- the loop, so the fields of `self` stand side by side there: the table, the count, the places and the waits.
use Rattle.std.specs.Prelude.{ℕ, ◌<◌, ◌≡◌, length, get_or}
use Rattle.handing.proofs.open.Open.mark.Given as goal

abbrev pub invariant-loop-k : goal.invariant-loop-k
invariant-loop-k l =
    let table = l.initial.self.1.0 in
    let place = l.self.1.1.1.0 in
    (length place ≡ 256) × ((q : ℕ) → q < l.k → get_or place (get_or table q 0) 0 ≡ q)
