-- `reach::processor_of` meets its contract.
use mathlib.Core.Path.{refl}
use Rattle.records.specs.Columns.{at}
use Rattle.reach.proofs.processor_of.Goals as goal

pub returns : goal.returns
unfolding at
returns c = refl
