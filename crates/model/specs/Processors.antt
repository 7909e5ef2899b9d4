-- The processor edges as a list: one out of each task, in the tasks' sequence. Nothing here has to be believed: `processor-edges-are` proves
-- that they are the edges of Tasks.
use Rattle.std.specs.Prelude.{List, Bool, ℕ, suc, ◌-◌, eqb, length}
use Rattle.std.proofs.Math.Option.{Option, none, some}
use Rattle.model.specs.Lists.{first_from, tabulate}
use Rattle.model.specs.Tasks.{Task, Edge, processor_of}

-- u is on the processor of v
unfoldable pub on_processor_of : List Task → ℕ → ℕ → Bool
on_processor_of ts v u = eqb (processor_of ts u) (processor_of ts v)

-- from the last task to the first
unfoldable pub around_to : ℕ → Option ℕ → Edge
around_to v (some w) = record { source = v; sink = w; delay = 1 }
around_to v none = record { source = v; sink = v; delay = 1 }

-- from a task to the next, or around
unfoldable pub onward_to : List Task → ℕ → Option ℕ → Edge
unfolding around_to
onward_to ts v (some w) = record { source = v; sink = w; delay = 0 }
onward_to ts v none = around_to v (first_from (on_processor_of ts v) 0 (length ts))

-- the processor edge out of task v
unfoldable pub processor_edge : List Task → ℕ → Edge
unfolding onward_to on_processor_of processor_of first_from
processor_edge ts v = onward_to ts v (first_from (on_processor_of ts v) (suc v) (length ts - suc v))

unfoldable pub processor_edges : List Task → List Edge
unfolding tabulate processor_edge
processor_edges ts = tabulate (length ts) (processor_edge ts)
