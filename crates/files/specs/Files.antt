-- Document 01, "The two files" and "Who caused a refusal": which graph or which edges a file holds, and which refusal it gets. The checks stand
-- in 01's sequence: "header 1, 2, 3; length 1 or 4; filling 4; header 6; tasks 5; each edge 6 then 7; then 8", and of a proposal "header 1, 2, 3;
-- length 1 or 4; its two zero bits and filling 4; each edge 6; then 8".
use Rattle.std.specs.Prelude.{Bool, not, ◌||◌, List, [], ◌∷◌, ℕ, suc, ◌+◌, eqb, ltb, length, get_or}
use Rattle.model.specs.Lists.{tabulate, any_below}
use Rattle.model.specs.Tasks.{Task, Edge, no_edge, processor_of}
use Rattle.model.specs.Graph.{Graph, time_of}
use Rattle.model.specs.Compute.{same_edge}
use Rattle.layout.specs.Layout.{graph_header, proposal_header, graph_header_bits, proposal_header_bits, record_start, task_at, edge_at, bytes_for, filling}
use Rattle.files.specs.declared.Refusal.{Refusal}
use Rattle.files.specs.Refusals.{refuse, first}

-- the counts of a graph file's header
abbrev pub task_count : List ℕ → ℕ
task_count s = (graph_header s).tasks

abbrev pub edge_count : List ℕ → ℕ
edge_count s = (graph_header s).edges

-- the edges that stand from a bit position on
unfoldable pub edges_from : List ℕ → ℕ → ℕ → List Edge
edges_from s at n = tabulate n (λ j. edge_at s (record_start at j))

-- The graph of a graph file: "Then each task [..]. Then each edge".
unfoldable pub graph_of : List ℕ → Graph
graph_of s = record {
  tasks = tabulate (task_count s) (λ v. task_at s (record_start graph_header_bits v));
  syncs = edges_from s (record_start graph_header_bits (task_count s)) (edge_count s);
  input = (graph_header s).input;
  output = (graph_header s).output;
  bound = (graph_header s).bound;
}

-- The edges of a proposal file: "then edges as above".
unfoldable pub proposal_of : List ℕ → List Edge
proposal_of s = edges_from s proposal_header_bits (proposal_header s).edges

-- the edge at a place, counted here from 0; past the end the edge of zeros
unfoldable pub edge_in : List Edge → ℕ → Edge
edge_in es j = get_or es j no_edge

-- "6: a task number not below the count"
unfoldable pub end_outside : ℕ → Edge → Bool
end_outside n e = not (ltb e.source n) || not (ltb e.sink n)

-- "7: a graph edge within one processor"
unfoldable pub within_processor : List Task → Edge → Bool
within_processor ts e = eqb (processor_of ts e.source) (processor_of ts e.sink)

-- "8: same source, sink and delay as an earlier edge"
unfoldable pub repeats_earlier : List Edge → ℕ → Bool
repeats_earlier es j = any_below j (λ i. same_edge (edge_in es i) (edge_in es j))

-- "5: a task time of 0; place is the task number."
unfoldable pub time_refusal : Graph → ℕ → Refusal
time_refusal g v = refuse (eqb (time_of g v) 0) 5 v

-- "place is the edge": edges' "places count from 1"
unfoldable pub ends_refusal : ℕ → List Edge → ℕ → Refusal
ends_refusal n es j = refuse (end_outside n (edge_in es j)) 6 (suc j)

-- "each edge 6 then 7"
unfoldable pub edge_refusal : List Task → List Edge → ℕ → Refusal
edge_refusal ts es j = first (ends_refusal (length ts) es j ∷ refuse (within_processor ts (edge_in es j)) 7 (suc j) ∷ [])

-- "place is the first such later edge"
unfoldable pub repeat_refusal : List Edge → ℕ → Refusal
repeat_refusal es j = refuse (repeats_earlier es j) 8 (suc j)

-- the first refusal over the places below n
unfoldable pub first_of : ℕ → (ℕ → Refusal) → Refusal
first_of n f = first (tabulate n f)

-- how many bits a graph file's counts ask for, and a proposal's
unfoldable pub graph_bits : List ℕ → ℕ
graph_bits s = record_start graph_header_bits (task_count s + edge_count s)

unfoldable pub proposal_bits : List ℕ → ℕ
proposal_bits s = record_start proposal_header_bits (proposal_header s).edges

-- "header 1, 2, 3" of a graph
unfoldable pub graph_header_refusal : List ℕ → Refusal
graph_header_refusal s =
    first
    (refuse (ltb (length s) (bytes_for graph_header_bits)) 1 0
    ∷ refuse (not (eqb (graph_header s).version 1)) 2 0
    ∷ refuse (ltb (task_count s) 2 || ltb 64 (task_count s) || ltb 256 (edge_count s)) 3 0
    ∷ [])

-- "header 1, 2, 3" of a proposal
unfoldable pub proposal_header_refusal : List ℕ → Refusal
proposal_header_refusal s =
    first
    (refuse (ltb (length s) (bytes_for proposal_header_bits)) 1 0
    ∷ refuse (not (eqb (proposal_header s).version 1)) 2 0
    ∷ refuse (ltb 256 (proposal_header s).edges) 3 0
    ∷ [])

-- "length 1 or 4", for so many bits
unfoldable pub length_refusal : List ℕ → ℕ → Refusal
length_refusal s used =
    first (refuse (ltb (length s) (bytes_for used)) 1 0 ∷ refuse (ltb (bytes_for used) (length s)) 4 0 ∷ [])

-- "filling 4": "a nonzero filling bit"
unfoldable pub filling_refusal : List ℕ → ℕ → Refusal
filling_refusal s used = refuse (not (eqb (filling s used) 0)) 4 0

-- "two zero bits (filling bits, for refusal 4)"
unfoldable pub zeros_refusal : List ℕ → Refusal
zeros_refusal s = refuse (not (eqb (proposal_header s).zeros 0)) 4 0

-- "header 6": "0 for the header"
unfoldable pub header_ends_refusal : List ℕ → Refusal
header_ends_refusal s =
    refuse (not (ltb (graph_header s).input (task_count s)) || not (ltb (graph_header s).output (task_count s))) 6 0

-- "header 1, 2, 3; length 1 or 4; filling 4; header 6" of a graph file
unfoldable pub graph_frame_refusal : List ℕ → Refusal
graph_frame_refusal s =
    first
    (graph_header_refusal s
    ∷ length_refusal s (graph_bits s)
    ∷ filling_refusal s (graph_bits s)
    ∷ header_ends_refusal s
    ∷ [])

-- "tasks 5; each edge 6 then 7; then 8" of a graph
unfoldable pub graph_records_refusal : Graph → Refusal
graph_records_refusal g =
    first
    (first_of (length g.tasks) (time_refusal g)
    ∷ first_of (length g.syncs) (edge_refusal g.tasks g.syncs)
    ∷ first_of (length g.syncs) (repeat_refusal g.syncs)
    ∷ [])

-- Which refusal of 1 to 8 a graph file gets.
unfoldable pub graph_refusal : List ℕ → Refusal
graph_refusal s = first (graph_frame_refusal s ∷ graph_records_refusal (graph_of s) ∷ [])

-- "the proposal's header 1, 2, 3; length 1 or 4; its two zero bits and filling 4"
unfoldable pub proposal_frame_refusal : List ℕ → Refusal
proposal_frame_refusal s =
    first
    (proposal_header_refusal s
    ∷ length_refusal s (proposal_bits s)
    ∷ zeros_refusal s
    ∷ filling_refusal s (proposal_bits s)
    ∷ [])

-- "each edge 6; then 8" of proposed edges between n tasks
unfoldable pub proposed_edges_refusal : ℕ → List Edge → Refusal
proposed_edges_refusal n es = first (first_of (length es) (ends_refusal n es) ∷ first_of (length es) (repeat_refusal es) ∷ [])

-- Which refusal of 1 to 8 a proposal file gets beside a graph of n tasks.
unfoldable pub proposal_refusal : ℕ → List ℕ → Refusal
proposal_refusal n s = first (proposal_frame_refusal s ∷ proposed_edges_refusal n (proposal_of s) ∷ [])
