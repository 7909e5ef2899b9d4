-- `delays::keep_row` meets its contract: after b steps b entries are kept; the row is then known to be finished.
use Prim.Native.Nat.{◌*◌, min}
use lib.ListN.{get_or}
use Rattle.delays.proofs.Parts.{PartDone}
use Rattle.delays.proofs.keep_row.Given as goal

abbrev pub invariant-loop-b : goal.invariant-loop-b
invariant-loop-b l = PartDone (l.a * 64) l.b (λ i. min (get_or l.row i 0) 16383) l.initial.known l.known
