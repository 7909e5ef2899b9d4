-- What hands over nothing is told by its refusal: of success every field is 0.
use mathlib.Core.Path.{sym, ap}
use Rattle.std.proofs.Common.{Result}
use Rattle.files.specs.declared.Fault.{Fault}
use Rattle.files.specs.Refusals.{refusal_in}
use Rattle.acceptance.specs.Outcomes.{outcome}
use Rattle.acceptance.proofs.OutcomeFromResultUnitFault.from.Goals as goal

pub returns-in-Ok : goal.returns-in-Ok
unfolding outcome
returns-in-Ok c = ap (λ (answer : Result (Unit {0}) Fault). outcome (refusal_in answer)) (sym c.in-Ok.is)
