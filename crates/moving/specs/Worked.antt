-- A piece worked on from moment t until moment `next`: its state, and when it is worked on. It starts at t if nothing was
-- worked off it before.
use Rattle.std.specs.Prelude.{ℕ, ◌-◌, eqb}
use Rattle.rules.specs.Words.{when}
use Rattle.rules.specs.declared.Piece.{Piece}
use Rattle.rules.specs.declared.Span.{Span}
use Rattle.steps.specs.declared.State.{State}

module _ (t next : ℕ) where
  abbrev pub worked_state : State → State
  worked_state x = record { left = x.left - (next - t); ready = x.ready }

  abbrev pub worked_span : Piece → State → Span → Span
  worked_span p x w = record { start = when (eqb x.left p.duration) t w.start; finish = next }
