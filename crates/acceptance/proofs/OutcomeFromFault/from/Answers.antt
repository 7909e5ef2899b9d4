-- A fault is told by its refusal: field by field.
use mathlib.Core.Path.{ap}
use Rattle.acceptance.specs.Outcomes.{outcome}
use Rattle.acceptance.proofs.OutcomeFromFault.from.Goals as goal

pub returns : goal.returns
unfolding outcome
returns c = ap outcome c.from-refusal.ensures
