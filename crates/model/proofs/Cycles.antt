-- Two edge lists that share every edge on a cycle of either have the same cycles: each edge of a cycle lies on a cycle, so the cycle is
-- carried over edge by edge.
use mathlib.Core.List.{List}
use Rattle.model.specs.Tasks.{Edge, ◌∈◌}
use Rattle.model.specs.Paths.{Cycle, cycle, OnCycle, NoZeroCycle, SameCycles}
use Rattle.model.proofs.Walks.{walk-re-base}

cycle-over : {es rs : List Edge} → ((e : Edge) → OnCycle es e → e ∈ rs) → (p : List Edge) → Cycle es p → Cycle rs p
cycle-over {es} {rs} shared p c = go c (λ e k. shared e (p, c, k))
  where
    go : {q : List Edge} → Cycle es q → ((e : Edge) → e ∈ q → e ∈ rs) → Cycle rs q
    go (cycle w) h = cycle (walk-re-base (λ e k m. h e k) w)

pub same-cycles : {es rs : List Edge} → ((e : Edge) → OnCycle es e → e ∈ rs) → ((e : Edge) → OnCycle rs e → e ∈ es) → SameCycles es rs
same-cycles there back p = (cycle-over there p, cycle-over back p)

-- a graph with the same cycles has no zero-delay cycle either
pub same-acyclic : {es rs : List Edge} → SameCycles es rs → NoZeroCycle es → NoZeroCycle rs
same-acyclic same acyclic c = acyclic (c.0, (same c.0).1 c.1, c.2)
