-- The lent list keeps its length and all that stands past the rows, a refused call changes nothing, and each start stands at its place in its turn's row.
use mathlib.Core.Path.{◌≡◌, refl, ◌∙◌, subst}
use mathlib.Core.List.{List}
use Prim.Native.Nat.{ℕ, ◌*◌, ◌<◌, suc, ◌+◌}
use native.Mathlib.Nat.{mul_comm}
use lib.ListN.{length, get_or}
use Rattle.model.specs.Graph.{edges, time_of}
use Rattle.model.specs.Runs.{estimates}
use Rattle.model.specs.Compute.{earliest}
use Rattle.records.proofs.Fill.{get_d_tabulate}
use Rattle.records.proofs.Rows.{rows-length, rows_at, place-within}
use Rattle.files.specs.Files.{graph_of}
use Rattle.files.proofs.First.{if-refused}
use Rattle.starts.specs.Starts.{turn_rows, turn_row}
use Rattle.starts.proofs.Turns.{row-length}
use Rattle.acceptance.specs.Outcomes.{tasks_of}
use Rattle.acceptance.proofs.Written.{kept-past, written_at}
use Rattle.timetable.specs.Theorems.{TimetableKept, TimetablePast}
use Rattle.timetable.specs.Timetable.{starts_of, timetable_refusal, timetable_after}
use Rattle.timetable.proofs.Given.{timetable_given}

turn-length : (s : List ℕ) (k : ℕ) → length (turn_row (tasks_of s) (edges (graph_of s)) (time_of (graph_of s)) k) ≡ tasks_of s
turn-length s k = row-length (tasks_of s) (edges (graph_of s)) (time_of (graph_of s)) k refl

starts-length : (s : List ℕ) (turns : ℕ) → length (starts_of s turns) ≡ tasks_of s * turns
unfolding starts_of turn_rows
starts-length s turns =
    rows-length (tasks_of s) (λ k. turn_row (tasks_of s) (edges (graph_of s)) (time_of (graph_of s)) (suc k)) (λ k. turn-length s (suc k)) turns ∙
    mul_comm turns (tasks_of s)

pub timetable_kept : TimetableKept
unfolding timetable_after
timetable_kept s turns starts some = if-refused (timetable_refusal s turns (length starts)).number _ starts some

pub timetable_past : TimetablePast
unfolding timetable_after
timetable_past s turns starts =
    kept-past 0 (timetable_refusal s turns (length starts)).number (tasks_of s * turns) (starts_of s turns) starts (starts-length s turns)
    (λ none. ((timetable_given s turns (length starts)).0 none).3)

-- the element of task v in turn k, counted here from 0
pub starts-at :
    (s : List ℕ) (turns : ℕ) (starts : List ℕ) → (timetable_refusal s turns (length starts)).number ≡ 0 → (v k : ℕ) → v < tasks_of s → k < turns →
    get_or (timetable_after s turns starts) (k * tasks_of s + v) 0 ≡ earliest (tasks_of s) (edges (graph_of s)) (estimates (time_of (graph_of s))) v (suc k)
unfolding timetable_after starts_of turn_rows turn_row
starts-at s turns starts none v k l h =
    let n = tasks_of s in
    let es = edges (graph_of s) in
    let time = time_of (graph_of s) in
    let inside : k * n + v < n * turns = subst (λ (m : ℕ). k * n + v < m) (mul_comm turns n) (place-within n turns k v h l) in
    written_at 0 (timetable_refusal s turns (length starts)).number (n * turns) (starts_of s turns) starts (starts-length s turns) none (k * n + v) inside ∙
    (rows_at n (λ j. turn_row n es time (suc j)) (λ j. turn-length s (suc j)) turns k v h l ∙
    get_d_tabulate n (λ x. earliest n es (estimates time) x (suc k)) 0 v l)
