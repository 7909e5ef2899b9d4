-- The theorems about readings, as statements. proofs/Accepted.antt proves the first two, proofs/Answered.antt those about answers, proofs/Held.antt the others.
use Rattle.std.specs.Prelude.{◌≡◌, List, ℕ, ◌+◌, ◌≤◌, length, take, Result, Ok}
use Rattle.model.specs.Tasks.{Edge}
use Rattle.model.specs.Graph.{Graph, WellFormed, WellFormedEdges, count, edges}
use Rattle.records.specs.Columns.{ProcessorsOf, TimesOf, edges_in}
use Rattle.files.specs.Files.{graph_of, proposal_of, graph_refusal, proposal_refusal}
use Rattle.files.specs.declared.Fault.{Fault}
use Rattle.files.specs.Refusals.{refusal_in}
use Rattle.readings.specs.declared.GraphReading.{GraphReading}
use Rattle.readings.specs.declared.ProposalReading.{ProposalReading}
use Rattle.readings.specs.Working.{working_graph, working_proposal, GraphRead, ProposalRead, graph_in, proposed_in}

-- A graph file of which nothing is refused holds a graph of 2 to 64 tasks on processors 0 to 15, times from 1 to 65,535, at most 256 edges between
-- tasks of different processors, of delay 0 to 255, no two equal, and its latency input and output are tasks.
abbrev pub GraphFormed : Type 0
GraphFormed = (s : List ℕ) → (graph_refusal s).number ≡ 0 → WellFormed (graph_of s)

-- A proposal file of which nothing is refused beside a graph of n tasks holds at most 256 edges between them, of delay 0 to 255, no two equal.
abbrev pub ProposalFormed : Type 0
ProposalFormed = (n : ℕ) (s : List ℕ) → (proposal_refusal n s).number ≡ 0 → WellFormedEdges n (proposal_of s)

-- What reading gives carries the refusal, and the graph or the edges if there is none.
abbrev pub GraphRefusalGiven : Type 0
GraphRefusalGiven = (s : List ℕ) (r : Result GraphReading Fault) → GraphRead s r → refusal_in r ≡ graph_refusal s

abbrev pub GraphGiven : Type 0
GraphGiven = (s : List ℕ) (r : Result GraphReading Fault) → GraphRead s r → (graph_refusal s).number ≡ 0 → r ≡ Ok (working_graph (graph_of s))

abbrev pub ProposalRefusalGiven : Type 0
ProposalRefusalGiven = (n : ℕ) (s : List ℕ) (r : Result ProposalReading Fault) → ProposalRead n s r → refusal_in r ≡ proposal_refusal n s

abbrev pub ProposalGiven : Type 0
ProposalGiven = (n : ℕ) (s : List ℕ) (r : Result ProposalReading Fault) → ProposalRead n s r → (proposal_refusal n s).number ≡ 0 → r ≡ Ok (working_proposal (proposal_of s))

-- the front of the working lists holds the tasks, and the edges that order the graph
pub record Held (g : Graph) : Type 0 where
  pub processors : ProcessorsOf g.tasks (take (count g) (working_graph g).processor)
  pub times : TimesOf g.tasks (take (count g) (working_graph g).time)
  pub ordering : edges_in (take (count g + length g.syncs) (working_graph g).ordering) ≡ edges g

abbrev pub WorkingHolds : Type 0
WorkingHolds = (g : Graph) → count g ≤ 64 → length g.syncs ≤ 256 → Held g

-- the same of proposed edges
pub record HeldEdges (es : List Edge) : Type 0 where
  pub proposed : edges_in (take (length es) (working_proposal es).proposed) ≡ es

abbrev pub WorkingEdgesHold : Type 0
WorkingEdgesHold = (es : List Edge) → length es ≤ 256 → HeldEdges es

-- A working form holds the graph, or the edges, that it was made of.
abbrev pub GraphInWorking : Type 0
GraphInWorking = (g : Graph) → count g ≤ 64 → length g.syncs ≤ 256 → graph_in (working_graph g) ≡ g

abbrev pub ProposedInWorking : Type 0
ProposedInWorking = (es : List Edge) → length es ≤ 256 → proposed_in (working_proposal es) ≡ es

-- Every graph file gets an answer.
abbrev pub GraphAnswered : Type 0
GraphAnswered = (s : List ℕ) → (r : Result GraphReading Fault) × GraphRead s r

-- Every proposal file gets an answer, beside a graph of any number of tasks.
abbrev pub ProposalAnswered : Type 0
ProposalAnswered = (n : ℕ) (s : List ℕ) → (r : Result ProposalReading Fault) × ProposalRead n s r
