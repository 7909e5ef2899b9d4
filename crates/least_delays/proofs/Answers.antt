-- What the call hands over is the definition's answer: the list as it was where something is refused, else the table of the graph that the lists hold.
use mathlib.Core.Path.{◌≡◌, sym, ◌∙◌, ap}
use mathlib.Core.List.{List, [], ◌∷◌, ◌++◌}
use Prim.Native.Nat.{ℕ, ◌*◌}
use lib.ListN.{length, drop}
use Rattle.std.proofs.Common.{Ok, Err}
use Rattle.files.specs.declared.Fault.{Fault}
use Rattle.files.specs.declared.Refusal.{Refusal}
use Rattle.files.specs.Refusals.{refusal_of, not_refused}
use Rattle.files.proofs.First.{number_same, fault-number, ends_with, if-refused, if-passed}
use Rattle.delays.specs.Delays.{delay_table}
use Rattle.acceptance.specs.declared.Acceptance.{Acceptance}
use Rattle.acceptance.specs.declared.RefusedGraph.{RefusedGraph}
use Rattle.acceptance.specs.Acceptance.{Accepts}
use Rattle.acceptance.specs.Outcomes.{room_refusal, tasks_of}
use Rattle.acceptance.proofs.AcceptedFiles.{read-fronts}
use Rattle.acceptance.proofs.Fronts.{front_edges}
use Rattle.acceptance.proofs.Rooms.{room-checked}
use Rattle.least_delays.specs.LeastDelays.{table_of, delays_refusal, delays_after}

module _ (s table : List ℕ) where
  -- a fault of the file ends the chain
  pub file-fault : {refused : RefusedGraph} → Accepts s (Err refused) → refusal_of refused.fault ≡ delays_refusal s (length table)
  unfolding delays_refusal
  file-fault {refused} given = sym (ends_with (room_refusal (tasks_of s * tasks_of s) (length table) ∷ []) given.refusal (fault-number refused.fault))

  pub list-kept : (fault : Fault) → refusal_of fault ≡ delays_refusal s (length table) → table ≡ delays_after s table
  unfolding delays_after
  list-kept fault is =
      sym
      (if-refused (delays_refusal s (length table)).number (table_of s ++ drop (tasks_of s * tasks_of s) table) table
      (λ z. fault-number fault (number_same is ∙ z)))

  module _ {r : Acceptance} (given : Accepts s (Ok r)) where
    pub delays-checked : {q : Refusal} → q ≡ room_refusal (r.reading.tasks * r.reading.tasks) (length table) → q ≡ delays_refusal s (length table)
    unfolding delays_refusal tasks_of
    delays-checked is = room-checked _ (length table) s given is (ap (λ (n : ℕ). n * n) (read-fronts s given).tasks-are)

    pub list_written :
        not_refused ≡ delays_refusal s (length table) → {after : List ℕ} →
        after ≡ delay_table r.reading.tasks (front_edges r.reading) ++ drop (r.reading.tasks * r.reading.tasks) table → after ≡ delays_after s table
    unfolding delays_after table_of tasks_of
    list_written none written =
        let f = read-fronts s given in
        written ∙
        ((λ i. delay_table (f.tasks-are i) (f.held i) ++ drop (f.tasks-are i * f.tasks-are i) table) ∙
        sym (if-passed (delays_refusal s (length table)).number (table_of s ++ drop (tasks_of s * tasks_of s) table) table (number_same (sym none))))
