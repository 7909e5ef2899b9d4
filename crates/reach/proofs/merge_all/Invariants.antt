-- `reach::merge_all` meets its contract: after k rounds the paths whose inner processors are below k count.
use mathlib.Core.Path.{◌≡◌}
use mathlib.Core.List.{List}
use lib.ListN.{length}
use Rattle.model.specs.Tasks.{Edge}
use Rattle.reach.specs.Reach.{ReachesThrough}
use Rattle.reach.proofs.merge_all.Given as goal

abbrev pub invariant-loop-k : goal.invariant-loop-k
invariant-loop-k l =
    (length l.words ≡ 16) × ((es : List Edge) → ReachesThrough 0 l.count es l.initial.words → ReachesThrough l.k l.count es l.words)
