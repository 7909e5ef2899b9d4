-- Only for contracts inside: the first stage of the plan, of edges in a list.
use Rattle.std.specs.Prelude.{Bool, not, ◌&&◌, List, ℕ, ◌+◌, get_or, drop}
use Rattle.model.specs.Lists.{keep_places}
use Rattle.model.specs.Tasks.{Edge, no_edge}
use Rattle.model.specs.Compute.{on_cycle}
use Rattle.redundancy.specs.Redundancy.{redundant_in}

-- the edge at a place of a list, counted from 0, is not marked and does not lie on a cycle of es
unfoldable pub is_needed : ℕ → List Edge → (ℕ → Bool) → List Edge → ℕ → Bool
is_needed n es marked list i = not (marked i) && not (on_cycle n es (get_or list i no_edge))

-- the edges of which this holds
unfoldable pub needed : ℕ → List Edge → (ℕ → Bool) → List Edge → List Edge
needed n es marked list = keep_places (is_needed n es marked list) 0 list

-- the first stage of the plan of edges in a list, those of processors the first n: the others that are neither redundant nor on a cycle
unfoldable pub first_stage_in : ℕ → List Edge → List Edge
first_stage_in n es = keep_places (λ i. not (redundant_in n es i) && not (on_cycle n es (get_or es (n + i) no_edge))) 0 (drop n es)
