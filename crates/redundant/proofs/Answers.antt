-- What the call hands over is the definition's answer: of a file with a fault its refusal and no marks, of an accepted one the marks that the code of
-- redundancy finds, since the lists hold the graph.
use mathlib.Core.Path.{◌≡◌, sym, ap, ◌∙◌}
use mathlib.Core.List.{List}
use Prim.Native.Nat.{ℕ}
use Rattle.std.proofs.Common.{Ok}
use Rattle.model.specs.Graph.{Graph}
use Rattle.model.specs.Compute.{is_redundant}
use Rattle.files.specs.declared.Fault.{Fault}
use Rattle.files.specs.Files.{graph_of}
use Rattle.files.specs.Refusals.{not_refused, refusal_of}
use Rattle.readings.specs.declared.GraphReading.{GraphReading}
use Rattle.readings.specs.Working.{graph_in}
use Rattle.marks.specs.declared.Marks.{Marks}
use Rattle.marks.specs.Marks.{marks_of, set_below, mark_at}
use Rattle.marks.proofs.Laws.{count_of}
use Rattle.redundancy.specs.Redundancy.{redundant_in}
use Rattle.redundancy.proofs.Graphs.{redundant-in}
use Rattle.acceptance.specs.declared.Acceptance.{Acceptance}
use Rattle.acceptance.specs.declared.Outcome.{Outcome}
use Rattle.acceptance.specs.Acceptance.{acceptance_refusal, Accepts, AcceptedReading}
use Rattle.acceptance.specs.Outcomes.{outcome}
use Rattle.acceptance.proofs.AcceptedFiles.{graph-held, nothing, whole}
use Rattle.acceptance.proofs.Fronts.{front_edges}
use Rattle.acceptance.proofs.Readings.{graph-fronts}
use Rattle.redundant.specs.declared.RedundantSet.{RedundantSet}
use Rattle.redundant.specs.Redundant.{no_marks, redundant_of}

module _ (s : List ℕ) where
  pub answer-refused :
      (fault : Fault) → refusal_of fault ≡ acceptance_refusal s →
      {o : Outcome} → o ≡ outcome (refusal_of fault) → ◌≡◌ {A = RedundantSet} (record { outcome = o; marks = no_marks; count = 0 }) (redundant_of s)
  unfolding redundant_of
  answer-refused fault is told = λ i. record {
    outcome = (told ∙ ap outcome is) i;
    marks = nothing s fault is (marks_of (is_redundant (graph_of s))) no_marks i;
    count = nothing s fault is (set_below 256 (is_redundant (graph_of s))) 0 i;
  }

  pub answer-read :
      {r : Acceptance} → Accepts s (Ok r) →
      {m : Marks} {n : ℕ} → m ≡ marks_of (is_redundant (graph_in r.reading)) → n ≡ set_below 256 (mark_at m) →
      ◌≡◌ {A = RedundantSet} (record { outcome = outcome not_refused; marks = m; count = n }) (redundant_of s)
  unfolding redundant_of
  answer-read given marked counted =
      let are = marked ∙ ap (λ (g : Graph). marks_of (is_redundant g)) (graph-held s given) in
      let set = counted ∙ (ap (λ (m : Marks). set_below 256 (mark_at m)) are ∙ count_of (is_redundant (graph_of s))) in
      λ i. record {
        outcome = ap outcome given.refusal i;
        marks = (are ∙ whole s given (marks_of (is_redundant (graph_of s))) no_marks) i;
        count = (set ∙ whole s given (set_below 256 (is_redundant (graph_of s))) 0) i;
      }

-- ── The lists of an accepted graph ──

module _ {graph : GraphReading} (given : AcceptedReading graph) where
  pub lists-marked : marks_of (redundant_in graph.tasks (front_edges graph)) ≡ marks_of (is_redundant (graph_in graph))
  lists-marked =
      let f = graph-fronts given in
      (λ i. marks_of (redundant_in (f.tasks-are i) (f.held i))) ∙ (λ i. marks_of (λ j. sym (redundant-in (graph_in graph) j) i))
