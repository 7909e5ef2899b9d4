-- Document 01, "The two files": which field stands where. Positions count bits from the start of the file; fields follow each other without gaps.
use Rattle.std.specs.Prelude.{List, ℕ, ◌+◌, ◌*◌, ◌/◌, ◌-◌, length}
use Rattle.bits.specs.Bits.{field}
use Rattle.model.specs.Tasks.{Task, Edge}
use Rattle.layout.specs.declared.GraphHeader.{GraphHeader}
use Rattle.layout.specs.declared.ProposalHeader.{ProposalHeader}

-- "Graph: version 5 bits (value 1), tasks 7, edges 9, latency input 6, latency output 6, bound 23."
unfoldable pub graph_header : List ℕ → GraphHeader
graph_header s = record { version = field s 0 5; tasks = field s 5 7; edges = field s 12 9; input = field s 21 6; output = field s 27 6; bound = field s 33 23 }

-- "Proposal: version 5 bits (value 1), edges 9, two zero bits"
unfoldable pub proposal_header : List ℕ → ProposalHeader
proposal_header s = record { version = field s 0 5; edges = field s 5 9; zeros = field s 14 2 }

-- The header's bits: 56 of a graph, 16 of a proposal. An edge has 20 bits, and so has a task (4 + 16).
abbrev pub graph_header_bits : ℕ
graph_header_bits = 5 + 7 + 9 + 6 + 6 + 23

abbrev pub proposal_header_bits : ℕ
proposal_header_bits = 5 + 9 + 2

abbrev pub record_bits : ℕ
record_bits = 6 + 6 + 8

-- where record number i begins, counted from 0, of those that follow a header of so many bits
abbrev pub record_start : ℕ → ℕ → ℕ
record_start header i = header + record_bits * i

-- "each task: processor 4, time 16"
unfoldable pub task_at : List ℕ → ℕ → Task
task_at s at = record { processor = field s at 4; time = field s (at + 4) 16 }

-- "each edge: source 6, sink 6, delay 8"
unfoldable pub edge_at : List ℕ → ℕ → Edge
edge_at s at = record { source = field s at 6; sink = field s (at + 6) 6; delay = field s (at + 12) 8 }

-- "Zero bits fill the last byte": how many bytes so many bits need
abbrev pub bytes_for : ℕ → ℕ
bytes_for bits = (bits + 7) / 8

-- the number that the bits from the end of the last field to the end of the file make; 0 exactly if each of them is 0
unfoldable pub filling : List ℕ → ℕ → ℕ
filling s used = field s used (8 * length s - used)
