-- `sheet_fault` meets its contract: each answer is the one that its tests lead to.
use Prim.Native.Nat.{◌*◌}
use native.Mathlib.Omega.{arith}
use borrow.Author.Tests.{lt-ltb, le-ltb}
use Rattle.sheet_answer.specs.Refused.{sheet_fault}
use Rattle.rules.specs.Words.{when}
use Rattle.sheet_answer.proofs.sheet_fault.Goals as goal

pub returns-then-desk-gt31 : goal.returns-then-desk-gt31
unfolding sheet_fault when
returns-then-desk-gt31 c = let a = c.args in simp (lt-ltb 31 a.desk (omega arith))

pub returns-then-room-pieces : goal.returns-then-room-pieces
unfolding sheet_fault when
returns-then-room-pieces c =
    let a = c.args in
    simp (le-ltb 31 a.desk (omega arith), lt-ltb a.room (48 * a.pieces) (omega arith))

pub returns : goal.returns
unfolding sheet_fault when
returns c =
    let a = c.args in
    simp (le-ltb 31 a.desk (omega arith), le-ltb a.room (48 * a.pieces) (omega arith))
