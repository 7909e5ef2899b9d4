-- The working form of what a file holds: lists of a fixed length, 0 past the end, edges as records. Of a graph, the edges that order it stand in one list, processor
-- edges first (entry v is the one out of task v), then those of the file.
use Rattle.std.specs.Prelude.{◌≡◌, List, ℕ, ◌+◌, length, get_or, Result}
use Rattle.model.specs.Lists.{tabulate}
use Rattle.model.specs.Tasks.{Edge, processor_of}
use Rattle.model.specs.Graph.{Graph, time_of, edges}
use Rattle.layout.specs.declared.EdgeRecord.{EdgeRecord}
use Rattle.records.specs.Columns.{at, edge_of, record_of, no_record}
use Rattle.files.specs.declared.Fault.{Fault}
use Rattle.files.specs.Files.{edge_in, graph_of, graph_refusal, proposal_of, proposal_refusal}
use Rattle.files.specs.Refusals.{Gives}
use Rattle.readings.specs.declared.GraphReading.{GraphReading}
use Rattle.readings.specs.declared.ProposalReading.{ProposalReading}

-- a graph in its working form
unfoldable pub working_graph : Graph → GraphReading
working_graph g = record {
  tasks = length g.tasks;
  edges = length g.syncs;
  input = g.input;
  output = g.output;
  bound = g.bound;
  processor = tabulate 64 (processor_of g.tasks);
  time = tabulate 64 (time_of g);
  ordering = tabulate 320 (λ i. record_of (edge_in (edges g) i));
}

-- what reading a graph file gives: the refusal that the file gets, and the graph if there is none
abbrev pub GraphRead : List ℕ → Result GraphReading Fault → Type 0
GraphRead s answer = Gives answer (graph_refusal s) (working_graph (graph_of s))

-- proposed edges in their working form
unfoldable pub working_proposal : List Edge → ProposalReading
working_proposal es = record {
  edges = length es;
  proposed = tabulate 256 (λ i. record_of (edge_in es i));
}

-- what reading a proposal file gives, beside a graph of n tasks
abbrev pub ProposalRead : ℕ → List ℕ → Result ProposalReading Fault → Type 0
ProposalRead n s answer = Gives answer (proposal_refusal n s) (working_proposal (proposal_of s))

-- the graph that a working form holds
unfoldable pub graph_in : GraphReading → Graph
graph_in r = record {
  tasks = tabulate r.tasks (λ v. record { processor = at r.processor v; time = at r.time v });
  syncs = tabulate r.edges (λ j. edge_of (get_or r.ordering (r.tasks + j) no_record));
  input = r.input;
  output = r.output;
  bound = r.bound;
}

-- the edges that a proposal's working form holds
unfoldable pub proposed_in : ProposalReading → List Edge
proposed_in p = tabulate p.edges (λ j. edge_of (get_or p.proposed j no_record))

-- Only for contracts inside: three lists are those of a graph's working form.
pub record GraphLists (g : Graph) (processor time : List ℕ) (ordering : List EdgeRecord) : Type 0 where
  pub processors : processor ≡ (working_graph g).processor
  pub times : time ≡ (working_graph g).time
  pub orders : ordering ≡ (working_graph g).ordering
