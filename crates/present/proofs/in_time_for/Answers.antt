-- `present::in_time_for` meets its contract.
use mathlib.Core.Logic.{inl, inr}
use Rattle.present.proofs.in_time_for.Goals as goal

pub returns-then-other-ge-UNBOUNDED : goal.returns-then-other-ge-UNBOUNDED
returns-then-other-ge-UNBOUNDED c = λ q. inl c.if-other-ge-UNBOUNDED.true

pub returns : goal.returns
returns c = λ q. inr (c.ends_before.ensures q)
