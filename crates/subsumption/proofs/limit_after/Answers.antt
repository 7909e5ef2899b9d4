-- `subsumption::limit_after` meets its contract, by what the test gives.
use mathlib.Core.Path.{sym, ap, ◌∙◌}
use mathlib.Core.Bool.{Bool, not}
use Prim.Native.Nat.{◌+◌}
use Rattle.model.specs.Lists.{counted}
use Rattle.subsumption.proofs.limit_after.Goals as goal

pub returns-then-is_subsumed : goal.returns-then-is_subsumed
unfolding counted
returns-then-is_subsumed c = ap (λ (b : Bool). counted (not b) (c.args.e.delay + 1)) (sym c.if-is_subsumed.true ∙ c.is_subsumed.ensures)

pub returns-else-is_subsumed : goal.returns-else-is_subsumed
unfolding counted
returns-else-is_subsumed c = ap (λ (b : Bool). counted (not b) (c.args.e.delay + 1)) (sym c.if-is_subsumed.false ∙ c.is_subsumed.ensures)
