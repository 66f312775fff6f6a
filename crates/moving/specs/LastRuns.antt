-- Whether a run goes on with the last one of its desk.
use Rattle.std.specs.Prelude.{ℕ, List, cond}
use Rattle.std.specs.declared.option.Option.{Option}
use Rattle.std.specs.declared.option.Option.TheVariants.{Some, None}
use Rattle.rules.specs.declared.Run.{Run}
use Rattle.steps.specs.Log.{stays}

-- The place of the last run, if the run goes on with it.
abbrev pub goes_on_from : List Run → Option ℕ → Run → Option ℕ
goes_on_from rs None r = None
goes_on_from rs (Some k) r = cond (stays rs k r.piece r.from) (Some k) None
