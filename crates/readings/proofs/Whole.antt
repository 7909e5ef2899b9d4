-- What stands at each place of the working lists: the numbers of the file's tasks, then 0; the processor edges and the file's edges, then records of zeros. A list
-- made place by place has at each place what it was made of, and past its end the task or edge of zeros.
use mathlib.Core.Path.{◌≡◌, refl, sym, ap, ◌∙◌, subst}
use mathlib.Core.List.{List}
use Prim.Native.Nat.{ℕ, ◌+◌, ◌-◌, ◌≤◌, ◌<◌}
use lib.ListN.{length, get_or, replicate, get_or-eq_default}
use native.Mathlib.Omega.{arith}
use Rattle.model.specs.Lists.{tabulate}
use Rattle.model.specs.Tasks.{Task, Edge, no_task, no_edge}
use Rattle.model.specs.Processors.{processor_edge}
use Rattle.model.specs.Graph.{Graph, edges}
use Rattle.layout.specs.Layout.{graph_header, proposal_header, graph_header_bits, proposal_header_bits, record_start, task_at, edge_at}
use Rattle.layout.specs.declared.GraphHeader.{GraphHeader}
use Rattle.layout.specs.declared.EdgeRecord.{EdgeRecord}
use Rattle.files.specs.Files.{task_count, edge_count, edges_from, graph_of, proposal_of, edge_in}
use borrow.Rule.Slice.PartMut.{mid_of}
use Rattle.records.specs.Columns.{zeros, with_part, record_of, edges_in, no_record}
use Rattle.records.proofs.Fill.{length-tabulate, get_d_tabulate}
use Rattle.records.proofs.Ordered.{edges-count, processor-edge-at, sync-place}
use Rattle.records.proofs.Parts.{one-part, two-parts}
use Rattle.records.proofs.EdgesIn.{edges-of-part}

-- ── Edges of a file ──

pub edges-from-count : (s : List ℕ) (at n : ℕ) → length (edges_from s at n) ≡ n
unfolding edges_from
edges-from-count s at n = length-tabulate n (λ j. edge_at s (record_start at j))

pub edge-from : (s : List ℕ) (at n j : ℕ) → j < n → edge_at s (record_start at j) ≡ edge_in (edges_from s at n) j
unfolding edges_from edge_in
edge-from s at n j l = sym (get_d_tabulate n (λ i. edge_at s (record_start at i)) no_edge j l)

edge_in_lem : (es : List Edge) (j : ℕ) → edge_in es j ≡ get_or es j no_edge
unfolding edge_in
edge_in_lem es j = refl

pub edge-past : (es : List Edge) (i : ℕ) → length es ≤ i → edge_in es i ≡ no_edge
unfolding edge_in
edge-past es i l = get_or-eq_default es no_edge l

pub proposal-count : (s : List ℕ) → length (proposal_of s) ≡ (proposal_header s).edges
unfolding proposal_of
proposal-count s = edges-from-count s proposal_header_bits (proposal_header s).edges

-- ── Tasks of a graph file ──

module _ (s : List ℕ) where
  pub task-count : length (graph_of s).tasks ≡ task_count s
  unfolding graph_of
  task-count = length-tabulate (task_count s) (λ v. task_at s (record_start graph_header_bits v))

  pub sync-count : length (graph_of s).syncs ≡ edge_count s
  unfolding graph_of
  sync-count = edges-from-count s (record_start graph_header_bits (task_count s)) (edge_count s)

  pub task-is : (v : ℕ) → v < task_count s → task_at s (record_start graph_header_bits v) ≡ get_or (graph_of s).tasks v no_task
  unfolding graph_of
  task-is v l = sym (get_d_tabulate (task_count s) (λ u. task_at s (record_start graph_header_bits u)) no_task v l)

  pub task-past : (v : ℕ) → task_count s ≤ v → get_or (graph_of s).tasks v no_task ≡ no_task
  task-past v l = get_or-eq_default (graph_of s).tasks no_task (subst (λ (n : ℕ). n ≤ v) (sym task-count) l)

  pub sync-is : (j : ℕ) → j < edge_count s → edge_at s (record_start (record_start graph_header_bits (task_count s)) j) ≡ edge_in (graph_of s).syncs j
  unfolding graph_of
  sync-is j l = edge-from s (record_start graph_header_bits (task_count s)) (edge_count s) j l

-- ── The edges that order a graph ──

pub ordered-first : (g : Graph) (v : ℕ) → v < length g.tasks → processor_edge g.tasks v ≡ edge_in (edges g) v
unfolding edge_in
ordered-first g v l = sym (processor-edge-at g v l)

pub ordered-then : (g : Graph) (j : ℕ) → edge_in g.syncs j ≡ edge_in (edges g) (length g.tasks + j)
unfolding edge_in
ordered-then g j = sym (sync-place g j)

-- ── The lists as wholes ──

-- past the edges stands the record of zeros
past : (es : List Edge) (i : ℕ) → length es ≤ i → record_of (edge_in es i) ≡ no_record
unfolding record_of
past es i l = ap record_of (edge-past es i l)

pub proposal-list :
    (s : List ℕ) {m : ℕ} {before after : List EdgeRecord} → m ≡ (proposal_header s).edges → m ≤ 256 → before ≡ replicate 256 no_record
    → after ≡ with_part 0 m (λ j. record_of (edge_at s (record_start proposal_header_bits j))) before
    → after ≡ tabulate 256 (λ i. record_of (edge_in (proposal_of s) i))
unfolding proposal_of
proposal-list s {m} {before} {after} as_many few blank filled =
    let count : ℕ = (proposal_header s).edges in
    let f : ℕ → EdgeRecord = λ j. record_of (edge_at s (record_start proposal_header_bits j)) in
    filled ∙
    (ap (with_part 0 m f) blank ∙
    one-part no_record 256 m f (λ i. record_of (edge_in (edges_from s proposal_header_bits count) i)) few
    (λ v l. ap record_of (edge-from s proposal_header_bits count v (subst (λ (n : ℕ). v < n) as_many l)))
    (λ i l.
    past (edges_from s proposal_header_bits count) i
    (subst (λ (n : ℕ). n ≤ i) (sym (edges-from-count s proposal_header_bits count ∙ sym as_many)) l)))

module _ (s : List ℕ) {h : GraphHeader} (is : h ≡ graph_header s) where
  tasks-are : h.tasks ≡ task_count s
  tasks-are = ap (λ (x : GraphHeader). x.tasks) is

  edges_are : h.edges ≡ edge_count s
  edges_are = ap (λ (x : GraphHeader). x.edges) is

  pub header-tasks : h.tasks ≡ length (graph_of s).tasks
  header-tasks = tasks-are ∙ sym (task-count s)

  pub header-edges : h.edges ≡ length (graph_of s).syncs
  header-edges = edges_are ∙ sym (sync-count s)

  -- one number of each task of a graph file
  pub task-list :
      (part : Task → ℕ) → part no_task ≡ 0 → {before after : List ℕ} → h.tasks ≤ 64 → before ≡ zeros 64
      → after ≡ with_part 0 h.tasks (λ v. part (task_at s (record_start graph_header_bits v))) before
      → after ≡ tabulate 64 (λ v. part (get_or (graph_of s).tasks v no_task))
  unfolding zeros
  task-list part nothing few blank filled =
      filled ∙
      (ap (with_part 0 h.tasks (λ v. part (task_at s (record_start graph_header_bits v)))) blank ∙
      one-part 0 64 h.tasks (λ v. part (task_at s (record_start graph_header_bits v))) (λ v. part (get_or (graph_of s).tasks v no_task)) few
      (λ v l. ap part (task-is s v (subst (λ (n : ℕ). v < n) tasks-are l)))
      (λ v l. ap part (task-past s v (subst (λ (n : ℕ). n ≤ v) tasks-are l)) ∙ nothing))

  -- the edges that order the graph of a file
  pub edge-list :
      {before middle after : List EdgeRecord} → h.tasks ≤ 64 → h.edges ≤ 256 → before ≡ replicate 320 no_record
      → middle ≡ with_part 0 h.tasks (λ v. record_of (processor_edge (graph_of s).tasks v)) before
      → after ≡ with_part h.tasks (h.tasks + h.edges) (λ j. record_of (edge_at s (record_start (record_start graph_header_bits h.tasks) j))) middle
      → after ≡ tabulate 320 (λ i. record_of (edge_in (edges (graph_of s)) i))
  edge-list few-tasks few-edges blank first second =
      let g : Graph = graph_of s in
      let n : ℕ = h.tasks in
      let m : ℕ = h.edges in
      let f : ℕ → EdgeRecord = λ v. record_of (processor_edge (graph_of s).tasks v) in
      let f' : ℕ → EdgeRecord = λ j. record_of (edge_at s (record_start (record_start graph_header_bits n) j)) in
      second ∙
      (ap (with_part n (n + m) f') (first ∙ ap (with_part 0 n f) blank) ∙
      two-parts no_record 320 n f (λ i. record_of (edge_in (edges g) i)) (omega arith)
      (λ v l. ap record_of (ordered-first g v (subst (λ (k : ℕ). v < k) header-tasks l)))
      m f' (omega arith)
      (λ j l. ap record_of (file-edge j l))
      (λ i l. past (edges g) i (subst (λ (k : ℕ). k ≤ i) (sym (edges-count g ∙ total)) l)))
    where
      total : length (graph_of s).tasks + length (graph_of s).syncs ≡ h.tasks + h.edges
      total = ap (λ (k : ℕ). k + length (graph_of s).syncs) (sym header-tasks) ∙ ap (λ (k : ℕ). h.tasks + k) (sym header-edges)

      file-edge : (j : ℕ) → j < h.edges → edge_at s (record_start (record_start graph_header_bits h.tasks) j) ≡ edge_in (edges (graph_of s)) (h.tasks + j)
      file-edge j l =
          ap (λ (k : ℕ). edge_at s (record_start (record_start graph_header_bits k) j)) tasks-are ∙
          (sync-is s j (subst (λ (k : ℕ). j < k) edges_are l) ∙
          (ordered-then (graph_of s) j ∙ ap (λ (k : ℕ). edge_in (edges (graph_of s)) (k + j)) (sym header-tasks)))

  -- the part of the working list that holds the file's edges
  pub syncs-part :
      {xs : List EdgeRecord} → h.tasks ≤ 64 → h.edges ≤ 256 → xs ≡ tabulate 320 (λ i. record_of (edge_in (edges (graph_of s)) i))
      → edges_in (mid_of h.tasks (h.tasks + h.edges - h.tasks) xs) ≡ (graph_of s).syncs
  syncs-part few-tasks few-edges list =
      let size : h.tasks + h.edges - h.tasks ≡ length (graph_of s).syncs = omega (arith, header-edges) in
      edges-of-part (graph_of s).syncs 320 h.tasks (h.tasks + h.edges) (edge_in (edges (graph_of s))) list (omega arith) (omega arith) size (λ j l. there j)
    where
      there : (j : ℕ) → edge_in (edges (graph_of s)) (h.tasks + j) ≡ get_or (graph_of s).syncs j no_edge
      there j = ap (λ (k : ℕ). edge_in (edges (graph_of s)) (k + j)) header-tasks ∙ (sym (ordered-then (graph_of s) j) ∙ edge_in_lem (graph_of s).syncs j)
