-- `delays::relax` meets its contract: after b steps b entries are lowered.
use Prim.Native.Nat.{◌+◌, min}
use lib.ListN.{get_or}
use Rattle.delays.proofs.Parts.{PartDone}
use Rattle.delays.proofs.relax.Given as goal

abbrev pub invariant-loop-b : goal.invariant-loop-b
invariant-loop-b l = PartDone 0 l.b (λ i. min (get_or l.initial.row i 0) (l.way + get_or l.known (l.start + i) 0)) l.initial.row l.row
