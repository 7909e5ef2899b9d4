-- What the lists of a graph's working form give the checks: they are as long as they were made, so there is room for the parts that are lent, and
-- a part of them holds the file's tasks or edges.
use mathlib.Core.Path.{◌≡◌}
use mathlib.Core.List.{List}
use Prim.Native.Nat.{ℕ, ◌+◌, ◌-◌, ◌≤◌}
use native.Mathlib.Omega.{arith}
use lib.ListN.{length}
use borrow.Rule.Slice.PartMut.{mid_of}
use Rattle.model.specs.Tasks.{no_task, processor_of}
use Rattle.model.specs.Graph.{time_of}
use Rattle.layout.specs.Layout.{graph_header}
use Rattle.layout.specs.declared.GraphHeader.{GraphHeader}
use Rattle.layout.specs.declared.EdgeRecord.{EdgeRecord}
use Rattle.files.specs.Files.{graph_of}
use Rattle.records.specs.Columns.{ProcessorsOf, TimesOf, edges_in}
use Rattle.readings.specs.Working.{working_graph, GraphLists}
use Rattle.records.proofs.Parts.{within-list, column-of-front}
use Rattle.readings.proofs.Whole.{header-tasks, syncs-part}

module _ (s : List ℕ) {h : GraphHeader} (is : h ≡ graph_header s) (few : (h.tasks ≤ 64) × (h.edges ≤ 256))
    {processor time : List ℕ} {ordering : List EdgeRecord} (lists : GraphLists (graph_of s) processor time ordering) where
  pub processor-room : h.tasks ≤ length processor
  unfolding working_graph
  processor-room = within-list 64 _ lists.processors few.0

  pub time-room : h.tasks ≤ length time
  unfolding working_graph
  time-room = within-list 64 _ lists.times few.0

  pub edge-room : h.tasks + h.edges ≤ length ordering
  unfolding working_graph
  edge-room = within-list 320 _ lists.orders (omega (arith, few.0, few.1))

  pub processors-part : ProcessorsOf (graph_of s).tasks (mid_of 0 (h.tasks - 0) processor)
  unfolding working_graph processor_of
  processors-part =
      column-of-front no_task (λ t. t.processor) (graph_of s).tasks 64 h.tasks lists.processors few.0 (header-tasks s is)

  pub times-part : TimesOf (graph_of s).tasks (mid_of 0 (h.tasks - 0) time)
  unfolding working_graph time_of
  times-part = column-of-front no_task (λ t. t.time) (graph_of s).tasks 64 h.tasks lists.times few.0 (header-tasks s is)

  pub edges-part : edges_in (mid_of h.tasks (h.tasks + h.edges - h.tasks) ordering) ≡ (graph_of s).syncs
  unfolding working_graph
  edges-part = syncs-part s is few.0 few.1 lists.orders
