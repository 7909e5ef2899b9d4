-- Document 01, "Tasks, turns and edges": graphs.
use Rattle.std.specs.Prelude.{◌≢◌, List, ◌++◌, ℕ, ◌≤◌, ◌<◌, ◌^◌, length, get_or}
use Rattle.model.specs.Tasks.{Task, Edge, ◌∈◌, Ends, Distinct, no_task, processor_of}
use Rattle.model.specs.Processors.{processor_edges}

-- A graph: its tasks, numbered from 0, its synchronization edges in the file's sequence, latency input and output, and bound.
pub record Graph : Type 0 where
  pub tasks : List Task
  pub syncs : List Edge
  pub input : ℕ
  pub output : ℕ
  pub bound : ℕ

-- how many tasks
abbrev pub count : Graph → ℕ
count g = length g.tasks

-- estimated time of a task
unfoldable pub time_of : Graph → ℕ → ℕ
time_of g v = (get_or g.tasks v no_task).time

-- the edges that order the graph's runs: processor edges, then synchronization edges
unfoldable pub edges : Graph → List Edge
edges g = processor_edges g.tasks ++ g.syncs

-- The edges of a graph's file, or of a proposal that "passes these up to 8": "0 to 256 synchronization edges", ends that are tasks (6), "each of
-- delay 0 to 255", no two equal (8). That a graph's lead "between tasks of different processors" (7) is said in WellFormed.
pub record WellFormedEdges (n : ℕ) (es : List Edge) : Type 0 where
  pub few : length es ≤ 256
  pub ends : Ends n es
  pub delays : (e : Edge) → e ∈ es → e.delay ≤ 255
  pub distinct : Distinct es

-- "A graph has 2 to 64 tasks, numbered from 0, each on a processor 0 to 15, with an estimated time of 1 to 65,535 units."
pub record WellFormed (g : Graph) : Type 0 where
  pub two_tasks : 2 ≤ count g
  pub at_most_64 : count g ≤ 64
  pub processors : (v : ℕ) → v < count g → processor_of g.tasks v < 16
  pub times : (v : ℕ) → v < count g → (1 ≤ time_of g v) × (time_of g v ≤ 65535)
  pub syncs_formed : WellFormedEdges (count g) g.syncs
  pub between_processors : (e : Edge) → e ∈ g.syncs → processor_of g.tasks e.source ≢ processor_of g.tasks e.sink
  pub input_below : g.input < count g
  pub output_below : g.output < count g
  pub bound_fits : g.bound < 2 ^ 23
