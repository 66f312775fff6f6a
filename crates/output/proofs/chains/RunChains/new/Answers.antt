-- `new` meets its contract: each run is put at the front of its desk's chain, and the other chains stay.
use Rattle.std.proofs.Common.{◌≡◌, ℕ, ◌+◌, ◌-◌, ◌<◌, ◌∙◌, sym, ap, arith, length, get_or}
use Rattle.rules.specs.Job.{no_piece}
use Rattle.laws.proofs.Columns.{get_or-run_pieces, get_or-desks}
use Rattle.output.specs.Chained.{desk_at}
use Rattle.rules.specs.Tables.{desks_of, run_pieces}
use Rattle.output.proofs.ChainedLaws.{no_run_chained, one_run_chained}
use Rattle.output.proofs.chains.RunChains.new.Goals.{In-loop-k}
use Rattle.output.proofs.chains.RunChains.new.Goals as goal

pub loop-k-init : goal.loop-k-init
loop-k-init c = no_run_chained (desks_of c.args.pieces.now) (run_pieces c.args.runs.now) (length c.args.runs.now)

-- The run that has its turn, and the desk of its piece.
module _ (c : In-loop-k) where
  abbrev run : ℕ
  run = c.loop-k.k - 1

  inside : run < length c.args.runs.now
  inside = omega (arith, c.loop-k.auto.k, c.loop-k-test.true)

pub bounds-pieces-from : goal.bounds-pieces-from
bounds-pieces-from c =
    let turn = (goal.at.bounds-pieces-from c).In-loop-k in
    omega (
      arith,
      c.from.ensures,
      get_or-run_pieces c.args.runs.now (run turn),
      c.requires.known (run turn) (inside turn),
    )

pub loop-k-preserved : goal.loop-k-preserved
loop-k-preserved c =
    let turn = (goal.at.loop-k-preserved c).In-loop-k in
    let here : run turn + 1 ≡ c.loop-k.k = omega (arith, c.loop-k-test.true) in
    let ps = c.args.pieces.now in
    let rs = c.args.runs.now in
    let own : (get_or ps c.from.result no_piece).desk ≡ desk_at (desks_of ps) (run_pieces rs) (run turn) =
    ap (λ i. (get_or ps i no_piece).desk) (c.from.ensures ∙ sym (get_or-run_pieces rs (run turn)))
    ∙ sym (get_or-desks ps (get_or (run_pieces rs) (run turn) 0)) in
    rw (c.put_first.ensures.first, c.put_first.ensures.later, own)
    (one_run_chained (desks_of ps) (run_pieces rs) (length rs) (run turn) c.loop-k.chains.first c.loop-k.chains.later
    (inside turn) c.requires.few (omega (arith, own, c.put_first.ensures.byte)) (rw (← here) at c.loop-k.invariant))
