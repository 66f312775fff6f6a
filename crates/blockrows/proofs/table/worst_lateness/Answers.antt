-- `worst_lateness` meets its contract: the worst of the first k runs and of the first one is known.
use Rattle.std.proofs.Common.{◌≡◌, ◌∙◌, ap, get_or, pos, ◌-ℤ◌, ℤ, SFits, w32, to_z, of_z, rules, arith}
use Rattle.std.specs.Int.{int_max}
use Rattle.std.proofs.lemmas.Int.{to_z-of_z}
use Rattle.rules.specs.Tables.{no_run}
use Rattle.rules.specs.declared.Run.{Run}
use Rattle.blockrows.specs.Rows.{late_in}
use Rattle.blockrows.proofs.Worst.{back, worst_none, worst_more, worst_all, worst_nothing}
use Rattle.blockrows.proofs.table.worst_lateness.Goals as goal

pub returns-in_default : goal.returns-in_default
returns-in_default c =
    let item = c.in_default.ensures.item in
    worst_nothing (late_in c.args.latests.now) c.args.runs.now (omega (arith, item.3))

pub loop-run-init : goal.loop-run-init
loop-run-init c =
    let a = c.args in
    let r : Run = get_or a.runs.now 0 no_run in
    let f : SFits w32 (get_or a.latests.now c.from.result (pos 0)) = record { sfits = search rules } in
    let e = c.lateness-worst.ensures ∙ ap (λ (z : ℤ). pos c.in-Some.first.now.until -ℤ z) (to_z-of_z w32 _ f) in
    back c.lateness-worst.result c.lateness-worst.type_inv
    ∙ (rw (c.from.ensures, c.in-Some.ensures.item.3.1 no_run) at e)
    ∙ worst_none (late_in a.latests.now) a.runs.now

pub loop-run-preserved : goal.loop-run-preserved
loop-run-preserved c =
    let a = c.args in
    let s = c.loop-run in
    let k = s.run-index in
    let r : Run = get_or a.runs.now k no_run in
    let f : SFits w32 (get_or a.latests.now c.from-in-loop-run.result (pos 0)) = record { sfits = search rules } in
    let e = c.lateness.ensures ∙ ap (λ (z : ℤ). pos r.until -ℤ z) (to_z-of_z w32 _ f) in
    let late : to_z w32 (of_z w32 c.lateness.result) ≡ late_in a.latests.now r =
    back c.lateness.result c.lateness.type_inv ∙ (rw c.from-in-loop-run.ensures at e) in
    back c.max-worst.result c.max-worst.type_inv ∙ c.max-worst.ensures.value
    ∙ ap (int_max (to_z w32 s.worst-bits)) late
    ∙ ap (λ (z : ℤ). int_max z (late_in a.latests.now r)) s.invariant
    ∙ worst_more (late_in a.latests.now) a.runs.now k c.loop-run-test.true

pub returns : goal.returns
returns c =
    let a = c.args in
    c.loop-run.invariant
    ∙ worst_all (late_in a.latests.now) a.runs.now c.loop-run.run-index c.in-Some.ensures.item.3.0 c.loop-run-test.false
