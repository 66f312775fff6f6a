-- `worst_lateness` meets its contract: with one piece more the worst is the greater of two.
use Rattle.std.proofs.Common.{◌≡◌, ℕ, List, ℤ, pos, ◌-ℤ◌, SFits, sym, ap₂, ◌∙◌, get_or, w32, to_z, of_z, arith}
use mir.ValLaws.{to_z-of_z}
use Rattle.rules.specs.Words.{greater_z, worst_of, below}
use Rattle.rules.specs.Tables.{finishes_of, no_span}
use Rattle.rules.specs.declared.Span.{Span}
use Rattle.laws.proofs.Columns.{get_or-finishes}
use Rattle.output.specs.Late.{Bounded, lateness_of, lateness_in}
use Rattle.output.proofs.FigureLaws.{int_max_is, late_fits, worst_one, worst_more}
use Rattle.output.proofs.figures.worst_lateness.Goals as goal

pub returns-then-pieces-eq0 : goal.returns-then-pieces-eq0
unfolding worst_of below
returns-then-pieces-eq0 c = rw c.if-pieces-eq0.true

-- A latest moment in the table, as 32 bits have it.
module _ (spans : List Span) (latests : List ℤ) (i : ℕ)
    (near : Bounded (get_or (finishes_of spans) i 0) (get_or latests i (pos 0))) where
  kept : to_z w32 (of_z w32 (get_or latests i (pos 0))) ≡ get_or latests i (pos 0)
  kept = to_z-of_z w32 (get_or latests i (pos 0)) (record { sfits = omega (arith, near.near) })

  -- The lateness of the piece, as the code works it out, fits and is the page's.
  fits : SFits w32 (pos (get_or spans i no_span).finish -ℤ to_z w32 (of_z w32 (get_or latests i (pos 0))))
  fits = rw (kept, ← (get_or-finishes spans i)) (late_fits (get_or (finishes_of spans) i 0) (get_or latests i (pos 0)) near)

  is_late : pos (get_or spans i no_span).finish -ℤ to_z w32 (of_z w32 (get_or latests i (pos 0)))
      ≡ lateness_in (finishes_of spans) latests i
  is_late = ap₂ lateness_of (sym (get_or-finishes spans i)) kept

pub lateness-worst-requires : goal.lateness-worst-requires
lateness-worst-requires c =
    fits c.args.spans.now c.args.latests.now 0 (c.requires.bounded 0 (omega (arith, c.if-pieces-eq0.false)))

pub lateness-requires : goal.lateness-requires
lateness-requires c =
    fits c.args.spans.now c.args.latests.now c.loop-i.i (c.requires.bounded c.loop-i.i c.loop-i-test.true)

pub loop-i-init : goal.loop-i-init
loop-i-init c =
    let spans = c.args.spans.now in
    let latests = c.args.latests.now in
    to_z-of_z w32 c.lateness-worst.result (record { sfits = c.lateness-worst.type_inv }) ∙ c.lateness-worst.ensures
    ∙ is_late spans latests 0 (c.requires.bounded 0 (omega (arith, c.if-pieces-eq0.false)))
    ∙ sym (worst_one (lateness_in (finishes_of spans) latests))

pub loop-i-preserved : goal.loop-i-preserved
loop-i-preserved c =
    let spans = c.args.spans.now in
    let latests = c.args.latests.now in
    let L = c.loop-i in
    to_z-of_z w32 c.max-worst.result (record { sfits = c.max-worst.type_inv }) ∙ c.max-worst.ensures.value
    ∙ int_max_is _ _
    ∙ ap₂ greater_z L.invariant
    (to_z-of_z w32 c.lateness.result (record { sfits = c.lateness.type_inv }) ∙ c.lateness.ensures
    ∙ is_late spans latests L.i (c.requires.bounded L.i c.loop-i-test.true))
    ∙ worst_more (lateness_in (finishes_of spans) latests) L.i (omega (arith, L.auto.i))
