-- `judgement::cyclic_edge` meets its contract: no edge looked at so far has a path back, by the words, so the first that has is the first of all.
use mathlib.Core.Path.{◌≡◌}
use mathlib.Core.Bool.{false}
use mathlib.Core.List.{List}
use Prim.Native.Nat.{ℕ, ◌<◌}
use lib.ListN.{length}
use Rattle.layout.specs.declared.EdgeRecord.{EdgeRecord}
use Rattle.model.specs.Tasks.{Edge}
use Rattle.model.specs.Compute.{on_cycle}
use Rattle.records.specs.Columns.{edges_in}
use Rattle.files.specs.Files.{edge_in}
use Rattle.reach.specs.Reach.{ReachesOn}
use Rattle.judgement.proofs.cyclic_edge.Given as goal

-- no path leads back from the sink of edge i to its source
abbrev pub NoneBack : List EdgeRecord → List ℕ → List ℕ → ℕ → Type 0
NoneBack edges processor words i =
    (rs : List Edge) → ReachesOn (length processor) rs processor words → on_cycle (length processor) rs (edge_in (edges_in edges) i) ≡ false

abbrev pub invariant-loop-j : goal.invariant-loop-j
invariant-loop-j l = ((i : ℕ) → i < l.j → NoneBack l.edges l.processor l.words i)
