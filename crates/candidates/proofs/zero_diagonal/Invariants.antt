-- `candidates::zero_diagonal` meets its contract: after v steps the entries from the first v tasks to themselves are 0, the others as at first.
use Rattle.candidates.proofs.Diagonal.{Zeroed}
use Rattle.candidates.proofs.zero_diagonal.Given as goal

abbrev pub invariant-loop-v : goal.invariant-loop-v
invariant-loop-v l = Zeroed l.tasks l.v l.initial.table l.table
