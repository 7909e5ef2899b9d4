-- `delays::hand_over` meets its contract: after b steps b entries are written.
use lib.ListN.{get_or}
use Rattle.delays.specs.Rows.{widened}
use Rattle.delays.proofs.Parts.{PartDone}
use Rattle.delays.proofs.hand_over.Given as goal

abbrev pub invariant-loop-place : goal.invariant-loop-place
invariant-loop-place l = PartDone 0 l.place (λ i. widened (get_or l.row i 0)) l.initial.out l.out
