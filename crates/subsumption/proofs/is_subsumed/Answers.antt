-- `subsumption::is_subsumed` meets its contract: both entries stand within the rows, and 32 bits hold their sum.
use mathlib.Core.Path.{refl}
use Rattle.records.specs.Columns.{at, edge_of}
use Rattle.subsumption.specs.Subsumption.{subsumes_by}
use Rattle.subsumption.proofs.is_subsumed.Goals as goal

pub returns : goal.returns
unfolding subsumes_by at edge_of
returns c = refl
