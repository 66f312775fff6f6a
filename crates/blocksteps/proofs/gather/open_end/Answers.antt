use mathlib.Core.Path.{refl}
use Rattle.method.specs.Hours.{desk_end}
use Rattle.blocksteps.proofs.gather.open_end.Goals as goal

pub returns : goal.returns
unfolding desk_end
returns c = refl
