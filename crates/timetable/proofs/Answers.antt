-- What the call hands over is the definition's answer: the list as it was where something is refused, else the rows of the graph that the lists hold.
use mathlib.Core.Path.{◌≡◌, refl, sym, ◌∙◌, ap}
use mathlib.Core.List.{List, ◌++◌}
use Prim.Native.Nat.{ℕ, ◌*◌, ◌≤◌}
use lib.ListN.{length, drop}
use Rattle.std.proofs.Common.{rules, Ok, Err}
use Rattle.records.specs.Columns.{at}
use Rattle.files.specs.declared.Fault.{Fault}
use Rattle.files.specs.declared.Refusal.{Refusal}
use Rattle.files.specs.Refusals.{refusal_of, refuse, not_refused}
use Rattle.files.proofs.First.{number_same, fault-number, ends_with, goes_on, if-refused, if-passed}
use Rattle.starts.specs.Starts.{turn_rows}
use Rattle.acceptance.specs.declared.Acceptance.{Acceptance}
use Rattle.acceptance.specs.declared.RefusedGraph.{RefusedGraph}
use Rattle.acceptance.specs.Acceptance.{Accepts}
use Rattle.acceptance.specs.Outcomes.{room_refusal, tasks_of}
use Rattle.acceptance.proofs.AcceptedFiles.{read-fronts}
use Rattle.acceptance.proofs.Fronts.{front_edges, front}
use Rattle.acceptance.proofs.Rooms.{room-checked}
use Rattle.timetable.specs.Timetable.{turns_refusal, starts_of, timetable_refusal, timetable_after}

-- turns that are not refused
pub turns-known : (turns : ℕ) → not_refused ≡ turns_refusal turns → (1 ≤ turns) × (turns ≤ 64)
unfolding turns_refusal refuse
turns-known turns is = search rules

module _ (s : List ℕ) (turns : ℕ) (starts : List ℕ) where
  pub list-kept : (fault : Fault) → refusal_of fault ≡ timetable_refusal s turns (length starts) → starts ≡ timetable_after s turns starts
  unfolding timetable_after
  list-kept fault is =
      sym
      (if-refused (timetable_refusal s turns (length starts)).number (starts_of s turns ++ drop (tasks_of s * turns) starts) starts
      (λ z. fault-number fault (number_same is ∙ z)))

  -- 17, whatever the file
  pub turns-fault : (fault : Fault) → refusal_of fault ≡ turns_refusal turns → refusal_of fault ≡ timetable_refusal s turns (length starts)
  unfolding timetable_refusal
  turns-fault fault outside = sym (ends_with _ outside (fault-number fault))

  -- the rest, where the turns are not refused
  module _ (inside : not_refused ≡ turns_refusal turns) where
    pub file-fault : {refused : RefusedGraph} → Accepts s (Err refused) → refusal_of refused.fault ≡ timetable_refusal s turns (length starts)
    unfolding timetable_refusal
    file-fault {refused} given = sym (goes_on _ inside refl ∙ ends_with _ given.refusal (fault-number refused.fault))

    module _ {r : Acceptance} (given : Accepts s (Ok r)) where
      pub timetable-checked : {q : Refusal} → q ≡ room_refusal (r.reading.tasks * turns) (length starts) → q ≡ timetable_refusal s turns (length starts)
      unfolding timetable_refusal tasks_of
      timetable-checked is =
          room-checked _ (length starts) s given is (ap (λ (n : ℕ). n * turns) (read-fronts s given).tasks-are) ∙
          sym (goes_on _ inside refl)

      pub list_written :
          not_refused ≡ timetable_refusal s turns (length starts) → {after : List ℕ} →
          after
          ≡ turn_rows (length (front r.reading.tasks r.reading.time)) (front_edges r.reading) (at (front r.reading.tasks r.reading.time)) turns
          ++ drop (length (front r.reading.tasks r.reading.time) * turns) starts →
          after ≡ timetable_after s turns starts
      unfolding timetable_after starts_of tasks_of
      list_written none written =
          let f = read-fronts s given in
          written ∙
          ((λ i. turn_rows (f.as-many-times i) (f.held i) (f.times_are i) turns ++ drop (f.as-many-times i * turns) starts) ∙
          sym
          (if-passed (timetable_refusal s turns (length starts)).number (starts_of s turns ++ drop (tasks_of s * turns) starts) starts
          (number_same (sym none))))
