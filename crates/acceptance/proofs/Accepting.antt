-- What `accept` gives is `acceptance` of the bytes, or their refusal and what was read: where reading fails, the first part of the chain ends it; else the
-- checks on the fronts of the lists are those of the graph that they hold.
use mathlib.Core.Path.{◌≡◌, sym, ap, ◌∙◌}
use mathlib.Core.Logic.{◌≢◌}
use Rattle.std.proofs.Common.{None, Some, Ok, Err}
use mathlib.Core.List.{List, [], ◌∷◌}
use Prim.Native.Nat.{ℕ}
use lib.ListN.{length}
use Rattle.records.specs.Columns.{at}
use Rattle.model.specs.Graph.{WellFormed}
use Rattle.model.specs.Compute.{latency, latency_of}
use Rattle.files.specs.declared.Refusal.{Refusal}
use Rattle.files.specs.declared.Fault.{Fault}
use Rattle.files.specs.Refusals.{refusal_of, Gives}
use Rattle.files.specs.Files.{graph_of, graph_refusal}
use Rattle.files.proofs.First.{passes, stops, last-answer, number_same, fault-number, if-passed, if-refused}
use Rattle.readings.specs.declared.GraphReading.{GraphReading}
use Rattle.readings.specs.Working.{working_graph}
use Rattle.acceptance.specs.Acceptance.{schedule_checks, schedule_refusal, acceptance_refusal, acceptance, refused_reading, Accepts}
use Rattle.acceptance.specs.Theorems.{RefusedBefore, JudgedAfter}
use Rattle.acceptance.proofs.Fronts.{front, front_edges, Fronts, fronts, formed, Within, fronts-within}

pub refused-before : RefusedBefore
unfolding acceptance_refusal
refused-before s some = stops (graph_refusal s) (schedule_refusal (graph_of s) ∷ []) some

-- a file that passes up to 8 is judged by 9 to 12
pub judged-after : JudgedAfter
unfolding acceptance_refusal schedule_refusal schedule_checks
judged-after s none = passes (graph_refusal s) (schedule_refusal (graph_of s) ∷ []) none ∙ last-answer _

-- where reading fails, its fault is the chain's, and nothing is handed over
pub unread : (s : List ℕ) (fault : Fault) → refusal_of fault ≡ graph_refusal s → Accepts s (Err (record { fault = fault; reading = None }))
unfolding refused_reading
unread s fault is =
    let some : (graph_refusal s).number ≢ 0 = λ none. fault-number fault (number_same is ∙ none) in
    record { refusal = is ∙ sym (refused-before s some); value = tt; reading = sym (if-refused (graph_refusal s).number (Some (working_graph (graph_of s))) None some) }

-- What was read of a file that passes up to 8.
module _ (s : List ℕ) {r : GraphReading} (read : Gives (Ok r) (graph_refusal s) (working_graph (graph_of s))) where
  passed : (graph_refusal s).number ≡ 0
  passed = number_same (sym read.refusal)

  pub read-well : WellFormed (graph_of s)
  read-well = formed s read.value passed

  pub read-held : Fronts (graph_of s) r
  read-held = fronts s read.value passed

  pub lists-within : Within r
  lists-within = fronts-within read-held read-well

  -- the checks on the fronts of the lists are those of the graph
  pub judged :
      {q : Refusal} → q ≡ schedule_checks (length (front r.tasks r.time)) (front_edges r) (at (front r.tasks r.time)) r.input r.output r.bound →
      q ≡ acceptance_refusal s
  unfolding schedule_refusal
  judged checks =
      let f = read-held in
      checks ∙
      ((λ i. schedule_checks (f.as-many-times i) (f.held i) (f.times_are i) (f.input-is i) (f.output_is i) (f.bound_is i)) ∙
      sym (judged-after s passed))

  pub accepts :
      {l : ℕ} → Gives (Ok l) (schedule_checks (length (front r.tasks r.time)) (front_edges r) (at (front r.tasks r.time)) r.input r.output r.bound)
      (latency (length (front r.tasks r.time)) (front_edges r) (at (front r.tasks r.time)) r.output) →
      Accepts s (Ok (record { latency = l; reading = r }))
  unfolding acceptance latency_of
  accepts checked =
      let f = read-held in
      let end = checked.value ∙ (λ i. latency (f.as-many-times i) (f.held i) (f.times_are i) (f.output_is i)) in
      record { refusal = judged checked.refusal; value = λ i. record { latency = end i; reading = read.value i }; reading = tt }

  -- where a check refuses, its fault is the chain's, and what was read is handed over
  pub refuses :
      {fault : Fault} → refusal_of fault ≡ schedule_checks (length (front r.tasks r.time)) (front_edges r) (at (front r.tasks r.time)) r.input r.output r.bound →
      Accepts s (Err (record { fault = fault; reading = Some r }))
  unfolding refused_reading
  refuses checked = record {
    refusal = judged checked;
    value = tt;
    reading = ap Some read.value ∙ sym (if-passed (graph_refusal s).number (Some (working_graph (graph_of s))) None passed);
  }
