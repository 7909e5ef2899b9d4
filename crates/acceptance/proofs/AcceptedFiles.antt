-- What every call knows of an accepted file: nothing is refused, and the fronts of the lists that were read hold the graph.
use mathlib.Core.Path.{◌≡◌, sym, ◌∙◌, ap, subst}
use Rattle.std.proofs.Common.{Ok}
use mathlib.Core.Bool.{false}
use mathlib.Core.List.{List}
use Prim.Native.Nat.{ℕ, ◌≤◌}
use Rattle.model.specs.Tasks.{Ends}
use Rattle.model.specs.Graph.{WellFormed, count, edges}
use Rattle.model.specs.Compute.{latency_of, zero_cycle}
use Rattle.model.specs.Proposals.{AcceptedGraph}
use Rattle.model.proofs.Theorems.{zero-cycle-is}
use Rattle.model.proofs.Tests.{decides-no}
use Rattle.model.proofs.Graphs.{graph-ends}
use Rattle.files.specs.Files.{graph_of, graph_refusal}
use Rattle.files.specs.declared.Fault.{Fault}
use Rattle.files.specs.Refusals.{refusal_of, if_passed}
use Rattle.files.proofs.First.{number_same, fault-number, if-refused, if-passed}
use Rattle.readings.specs.Working.{working_graph, graph_in}
use Rattle.readings.proofs.Held.{graph-in-working}
use Rattle.delays.specs.Delays.{Fit}
use Rattle.acceptance.specs.declared.Acceptance.{Acceptance}
use Rattle.acceptance.specs.Acceptance.{acceptance_refusal, acceptance, Accepts, AcceptedReading}
use Rattle.acceptance.specs.Outcomes.{tasks_of}
use Rattle.acceptance.specs.Theorems.{AcceptedFile}
use Rattle.acceptance.proofs.Fronts.{Fronts, fronts, front_edges, Within, fronts-within, working-few, working-fit}
use Rattle.acceptance.proofs.Judged.{accepted-iff-passed}

-- What was accepted.
module _ (s : List ℕ) {r : Acceptance} (given : Accepts s (Ok r)) where
  pub accepted-number : (acceptance_refusal s).number ≡ 0
  accepted-number = number_same (sym given.refusal)

  pub accepted : ((graph_refusal s).number ≡ 0) × AcceptedGraph (graph_of s)
  accepted = (accepted-iff-passed s).0 accepted-number

  pub well-formed : WellFormed (graph_of s)
  well-formed = accepted.1.formed

  pub acyclic : zero_cycle (count (graph_of s)) (edges (graph_of s)) ≡ false
  acyclic =
      decides-no (zero-cycle-is (count (graph_of s)) (edges (graph_of s)) (graph-ends (graph_of s) well-formed.syncs_formed.ends))
      accepted.1.no_zero_cycle

  pub latency-given : r.latency ≡ latency_of (graph_of s)
  unfolding acceptance
  latency-given = ap (λ (x : Acceptance). x.latency) given.value

  -- the reading is the graph's working form, and holds it
  working-form : r.reading ≡ working_graph (graph_of s)
  unfolding acceptance
  working-form = ap (λ (x : Acceptance). x.reading) given.value

  pub read-fronts : Fronts (graph_of s) r.reading
  read-fronts = fronts s working-form accepted.0

  pub few-tasks : r.reading.tasks ≤ 64
  few-tasks = working-few well-formed working-form

  pub read-fit : Fit r.reading.tasks (front_edges r.reading)
  read-fit = working-fit well-formed working-form

  pub lists-within : Within r.reading
  lists-within = fronts-within read-fronts well-formed

  pub graph-held : graph_in r.reading ≡ graph_of s
  graph-held = ap graph_in working-form ∙ graph-in-working (graph_of s) well-formed.at_most_64 well-formed.syncs_formed.few

  pub accepted-reading : AcceptedReading r.reading
  accepted-reading = record {
    accepted = subst AcceptedGraph (sym graph-held) accepted.1;
    working = working-form ∙ ap working_graph (sym graph-held);
  }

  pub whole : {A : Type 0} (read other : A) → read ≡ if_passed (acceptance_refusal s).number read other
  whole read other = sym (if-passed (acceptance_refusal s).number read other accepted-number)

-- What a call hands over of a file with a fault.
pub nothing : (s : List ℕ) (fault : Fault) → refusal_of fault ≡ acceptance_refusal s → {A : Type 0} (read none : A) → none ≡ if_passed (acceptance_refusal s).number read none
nothing s fault is read none = sym (if-refused (acceptance_refusal s).number read none (λ z. fault-number fault (number_same is ∙ z)))

-- the edges of an accepted file lead between its tasks
pub between-tasks : (s : List ℕ) → AcceptedFile s → Ends (tasks_of s) (edges (graph_of s))
unfolding tasks_of
between-tasks s accepted = graph-ends (graph_of s) accepted.1.formed.syncs_formed.ends
