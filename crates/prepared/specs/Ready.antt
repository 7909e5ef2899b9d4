-- Only for contracts inside: the numbers of a stage that its best pair is found by.
use Rattle.std.specs.Prelude.{◌≡◌, List, ℕ, ◌+◌, ◌*◌, ◌≤◌, ◌<◌, min, length}
use Rattle.std.proofs.Math.Option.{Option, none, some}
use Rattle.model.specs.Tasks.{Edge}
use Rattle.model.specs.Graph.{Graph, count}
use Rattle.model.specs.Plan.{present_edges, counting}
use Rattle.records.specs.Columns.{at}
use Rattle.subsumption.specs.Subsumption.{CountsOf}
use Rattle.updates.specs.Updates.{Small}

-- a delay cut at 16,383, which stands for none too
unfoldable pub cut : Option ℕ → ℕ
cut (some d) = min d 16383
cut none = 16383

-- The lists hold the least delays of the present graph, 0 from a task to itself, in rows by their source and in rows by their sink, and how many edges of the
-- stage each pair subsumes.
pub record Ready (g : Graph) (list : List Edge) (from to counts : List ℕ) : Type 0 where
  pub from_size : count g * 64 ≤ length from
  pub to_size : count g * 64 ≤ length to
  pub from_small : Small from
  pub to_small : Small to
  pub from_is : (x y : ℕ) → x < count g → y < count g → at from (x * 64 + y) ≡ cut (counting (count g) (present_edges g list) x y)
  pub to_is : (x y : ℕ) → x < count g → y < count g → at to (y * 64 + x) ≡ cut (counting (count g) (present_edges g list) x y)
  pub counts_are : CountsOf (count g) from to list counts
