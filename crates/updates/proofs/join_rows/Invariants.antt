-- `updates::join_rows` meets its contract: after x steps the first x rows are lowered. A row without a way stays, since no number is above 16,383.
use Rattle.updates.proofs.Falls.{JoinedSoFar}
use Rattle.updates.proofs.join_rows.Given as goal

abbrev pub invariant-loop-x : goal.invariant-loop-x
invariant-loop-x l = JoinedSoFar l.near l.far l.x l.initial.rows l.rows
