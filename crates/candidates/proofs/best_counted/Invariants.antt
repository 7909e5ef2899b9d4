-- `candidates::best_counted` meets its contract: after b steps the pair is the best of those before it and of the first b out of the task.
use mathlib.Core.Path.{◌≡◌}
use Prim.Native.Nat.{ℕ, ◌<◌}
use lib.ListN.{length}
use Rattle.candidates.specs.Searches.{worth_counted, BestSoFar}
use Rattle.candidates.proofs.best_counted.Given as goal

abbrev pub invariant-loop-b : goal.invariant-loop-b
invariant-loop-b l =
    (worth : ℕ → ℕ → ℕ) → ((d : ℕ) → d < length l.back → worth l.a d ≡ worth_counted l.back l.end l.latest l.counts d)
    → BestSoFar (length l.back) worth l.a 0 l.initial.best → BestSoFar (length l.back) worth l.a l.b l.best
