-- `subsumption::shift_edges` meets its contract: after j steps the first j edges are counted by the delays as they fall, whatever lists hold them.
use mathlib.Core.Bool.{not}
use mathlib.Core.List.{List}
use Prim.Native.Nat.{ℕ}
use Rattle.updates.specs.Updates.{Lowers}
use Rattle.subsumption.specs.Subsumption.{subsumes_by}
use Rattle.subsumption.proofs.Totals.{Changed}
use Rattle.subsumption.proofs.shift_edges.Given as goal

abbrev pub invariant-loop-e : goal.invariant-loop-e
invariant-loop-e l =
    ((from' to' : List ℕ) → Lowers l.a l.b l.before.tasks l.before.from.now from' → Lowers l.b l.a l.before.tasks l.before.to.now to' →
    Changed l.edges l.before.tasks l.before.from.now l.before.to.now from' to' (λ e. not (subsumes_by l.before.from.now l.before.to.now l.a l.b e)) l.e-index l.counts)
