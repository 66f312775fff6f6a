-- `judge_rows` meets its contract: what is left to judge gives the whole answer.
use Rattle.std.proofs.Common.{◌≡◌, ◌+◌, ◌/◌, length, List}
use Rattle.rules.specs.Job.{Job, piece_count}
use Rattle.rules.specs.Answers.{Item}
use Rattle.forms.proofs.InTurn.{whole, rest, so_far}
use Rattle.forms.proofs.rows.judge_rows.Given as goal

abbrev pub invariant-loop-i : goal.invariant-loop-i
invariant-loop-i g l =
    let item = g.R.Entry.item in
    let said = g.R.Typed.row_of l.rows in
    let from = l.before.pieces + l.before.links in
    let n = length l.rows / g.row.N in
    (J : Job) (xs : List Item) → piece_count J ≡ l.before.pieces → length J.links ≡ l.before.links
    → whole item said J from n xs ≡ rest item said J from n xs l.i (so_far item said J from n xs g.met.R.Typed.adds l.i)
