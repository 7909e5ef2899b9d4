-- Two hypotheses that the theorems cannot do without, each shown by a counterexample: no two equal edges, for dropping redundant edges
-- together; and the tasks' own cycles, for the orders.
use mathlib.Core.Path.{refl, sym, subst}
use mathlib.Core.List.Memᴰ.{head as here, tail as there}
use mathlib.Core.List.{List, [], ◌∷◌}
use Prim.Native.Nat.{zero, suc, ◌+◌, ◌≤◌}
use native.Mathlib.Omega.{arith}
use lib.Dec.{lit<, lit≤}
use Rattle.model.specs.Lists.{every, always, keep_places}
use Rattle.model.specs.Tasks.{Edge, ◌∈◌, Ends, edge}
use Rattle.model.specs.Processors.{processor_edges}
use Rattle.model.specs.Graph.{edges}
use Rattle.model.specs.Paths.{AllHeld, NoZeroCycle}
use Rattle.model.specs.Runs.{Times, Keeps, Allows}
use Rattle.model.specs.Compute.{is_redundant, order_holds, zero_cycle}
use Rattle.model.specs.Proposals.{dropping}
use Rattle.model.specs.Example.{twins, EqualEdgesNeedRefusal, SerialIsNeeded}
use Rattle.model.proofs.Basics.{every-out}
use Rattle.model.proofs.Graphs.{graph-ends}
use Rattle.model.proofs.Together.{dropping-in}
use Rattle.model.proofs.Theorems.{redundant-is, order-holds-is, zero-cycle-is}
use Rattle.model.proofs.Example.{ends_of}

twins-ends : Ends 2 twins.syncs
unfolding every
twins-ends = ends_of 2 twins.syncs tt

pub equal-edges-need-refusal : EqualEdgesNeedRefusal
unfolding is_redundant edges processor_edges order_holds dropping keep_places always
equal-edges-need-refusal = (
  (redundant-is twins twins-ends 0).if_true tt,
  (redundant-is twins twins-ends 1).if_true tt,
  (order-holds-is 2 (edges (dropping twins always)) (λ e m. graph-ends twins twins-ends e (dropping-in twins always m)) (edge 0 1 0)).if_false tt,
)

-- turn 1 starts late, and turn 2 overtakes it
overtaking : Times
overtaking v zero = 0
overtaking v (suc zero) = 10 + v
overtaking v (suc (suc k)) = v

together : List Edge
together = edge 0 1 0 ∷ []

later : List Edge
later = edge 0 1 1 ∷ []

pub serial-is-needed : SerialIsNeeded
unfolding overtaking together later every order_holds zero_cycle
serial-is-needed claim = absurd (broken ((claim 2 later together bounds acyclic held 2 overtaking (λ v k. 1) run).keeps (edge 0 1 1) (here refl) 2 (lit< tt) (lit≤ tt)))
  where
    bounds : Ends 2 together
    bounds = ends_of 2 together tt

    acyclic : NoZeroCycle together
    acyclic = (zero-cycle-is 2 together bounds).if_false tt

    held : AllHeld together later
    held e m = (order-holds-is 2 together bounds e).if_true (every-out (order_holds 2 together) {xs = later} tt m)

    kept : (e : Edge) → e ∈ together → Keeps 2 overtaking (λ v k. 1) e
    kept e (here q) = subst (λ (x : Edge). Keeps 2 overtaking (λ v k. 1) x) (sym q) turns
      where
        turns : Keeps 2 overtaking (λ v k. 1) (edge 0 1 0)
        turns zero l h = absurd (omega arith)
        turns (suc zero) l h = lit≤ tt
        turns (suc (suc zero)) l h = lit≤ tt
        turns (suc (suc (suc k))) l h = absurd (omega arith)
    kept e (there x4) = elim x4 [ ]

    run : Allows 2 together 2 overtaking (λ v k. 1)
    run = record { positive = λ v k l h h'. lit≤ tt; keeps = kept }

    broken : 11 ≤ 1 → ⊥
    broken h = omega arith
