-- `updates::lower_row` meets its contract: after y steps y numbers are lowered, and each of them that fell is at least the least so far.
use Prim.Native.Nat.{◌≤◌}
use Rattle.updates.specs.Updates.{RowFell}
use Rattle.updates.proofs.lower_row.Given as goal

abbrev pub invariant-loop-y : goal.invariant-loop-y
invariant-loop-y l = RowFell l.way l.onward l.start l.y l.initial.rows l.rows l.least × (l.least ≤ 32767)
