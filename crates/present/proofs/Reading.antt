-- What the lists of an accepted graph give to the times of its first stage.
use mathlib.Core.Path.{sym, subst}
use mathlib.Core.List.{List}
use Prim.Native.Nat.{ℕ}
use native.Mathlib.Nat.{sub-zero}
use lib.ListN.{take}
use Rattle.model.specs.Tasks.{Edge}
use Rattle.model.specs.Graph.{Graph}
use Rattle.readings.specs.declared.GraphReading.{GraphReading}
use Rattle.readings.specs.Working.{graph_in}
use Rattle.acceptance.specs.Acceptance.{AcceptedReading}
use Rattle.acceptance.proofs.Fronts.{front}
use Rattle.acceptance.proofs.Readings.{graph-fronts, times-filed}
use Rattle.present.specs.declared.Precedence.{Precedence}
use Rattle.present.specs.Present.{Clocked, Ordered}

pub reading-clocked : {graph : GraphReading} → AcceptedReading graph → Clocked (graph_in graph) (front graph.tasks graph.time) graph.output graph.bound
reading-clocked given =
    let lists = graph-fronts given in
    record {
      as_many = lists.as-many-times;
      times_are = lists.times_are;
      filed = times-filed given;
      output_is = lists.output_is;
      bound_is = lists.bound_is;
    }

-- of the times as they are lent, and of the first of them
module _ {g : Graph} {list : List Edge} {o : Precedence} (n : ℕ) (times : List ℕ) where
  pub ordered-first : Ordered g list (front n times) o → Ordered g list (take n times) o
  ordered-first = subst (λ (k : ℕ). Ordered g list (take k times) o) (sub-zero n)

  pub ordered-lent : Ordered g list (take n times) o → Ordered g list (front n times) o
  ordered-lent = subst (λ (k : ℕ). Ordered g list (take k times) o) (sym (sub-zero n))
