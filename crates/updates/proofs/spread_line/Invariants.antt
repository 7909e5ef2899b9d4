-- `updates::spread_line` meets its contract: after b steps b entries are copied, and the next stands b steps from the first.
use mathlib.Core.List.{List}
use Prim.Native.Nat.{ℕ, ◌+◌, ◌*◌, min}
use Rattle.records.specs.Columns.{at}
use Rattle.delays.proofs.Parts.{PartDone}
use Rattle.updates.proofs.spread_line.Given as goal

-- entry i of a line, cut
abbrev pub entry_of : List ℕ → ℕ → ℕ → ℕ → ℕ
entry_of table first step i = min (at table (first + i * step)) 16383

abbrev pub invariant-loop-b : goal.invariant-loop-b
invariant-loop-b l =
    PartDone l.start l.b (entry_of l.table l.first l.step) l.initial.lines l.lines
