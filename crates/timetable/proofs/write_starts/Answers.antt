-- `timetable::write_starts` meets its contract: 17 first, then as for every list; the rows of the fronts that were read are the graph's.
use mathlib.Core.Path.{◌≡◌, sym, ◌∙◌, subst}
use mathlib.Core.Bool.{false}
use mathlib.Core.List.{List}
use Prim.Native.Nat.{ℕ, ◌*◌, ◌≤◌}
use native.Mathlib.Omega.{arith}
use lib.ListN.{length}
use Rattle.model.specs.Tasks.{Edge, Ends}
use Rattle.model.specs.Graph.{count, edges}
use Rattle.model.specs.Compute.{zero_cycle}
use Rattle.files.specs.Files.{graph_of}
use Rattle.files.proofs.First.{handed_back}
use Rattle.records.proofs.Rows.{product_small}
use Rattle.acceptance.proofs.AcceptedFiles.{few-tasks, well-formed, read-fronts, acyclic, accepted-reading}
use Rattle.acceptance.proofs.Fronts.{front, front_edges, graph-fit}
use Rattle.acceptance.proofs.Readings.{few-edges, as-many-edges, few-times, times-filed}
use Rattle.acceptance.proofs.Rooms.{room-enough}
use Rattle.timetable.proofs.Answers.{turns-known, turns-fault, file-fault, timetable-checked, list-kept, list_written}
use Rattle.timetable.proofs.write_starts.Goals as goal

pub returns-in_err-check_turns : goal.returns-in_err-check_turns
returns-in_err-check_turns c =
    let is = turns-fault c.args.graph.now c.args.turns c.args.starts.now _ c.in_err-check_turns.ensures in
    record { refusal = handed_back _ _ c.from_residual.ensures.1 ∙ is; starts = list-kept c.args.graph.now c.args.turns c.args.starts.now _ is }

pub returns-in_err-accepted : goal.returns-in_err-accepted
returns-in_err-accepted c =
    let is = file-fault c.args.graph.now c.args.turns c.args.starts.now c.in_ok-check_turns.ensures c.in_err-accepted.ensures in
    record {
      refusal = handed_back _ _ c.from_residual-in_err-accepted.ensures.1 ∙ is;
      starts = list-kept c.args.graph.now c.args.turns c.args.starts.now _ is;
    }

pub overflow_mul-tasks : goal.overflow_mul-tasks
overflow_mul-tasks c =
    let few = few-tasks c.args.graph.now c.in_ok-accepted.ensures in
    let known = turns-known c.args.turns c.in_ok-check_turns.ensures in
    record { fits = omega (arith, product_small _ _ few known.1) }

pub returns-in_err-check_room : goal.returns-in_err-check_room
returns-in_err-check_room c =
    let is = timetable-checked c.args.graph.now c.args.turns c.args.starts.now c.in_ok-check_turns.ensures c.in_ok-accepted.ensures c.in_err-check_room.ensures in
    record {
      refusal = handed_back _ _ c.from_residual-in_err-check_room.ensures.1 ∙ is;
      starts = list-kept c.args.graph.now c.args.turns c.args.starts.now _ is;
    }

pub slice_bounds-turns_into-end : goal.slice_bounds-turns_into-end
slice_bounds-turns_into-end c = few-edges (accepted-reading c.args.graph.now c.in_ok-accepted.ensures)

pub slice_bounds-turns_into-end-2 : goal.slice_bounds-turns_into-end-2
slice_bounds-turns_into-end-2 c = few-tasks c.args.graph.now c.in_ok-accepted.ensures

pub turns_into-requires : goal.turns_into-requires
turns_into-requires c =
    let s = c.args.graph.now in
    let turns = c.args.turns in
    let starts = c.args.starts.now in
    let given = c.in_ok-accepted.ensures in
    let held = read-fronts s given in
    let well = well-formed s given in
    let read = accepted-reading s given in
    let reading = c.in_ok-accepted.accepted.reading in
    let g = graph_of s in
    let n = length (front reading.tasks reading.time) in
    let as_many : n ≡ count g = held.as-many-times in
    let long : n * turns ≤ length starts = subst (λ (k : ℕ). k * turns ≤ length starts) (held.tasks-are ∙ sym as_many) (room-enough _ _ c.in_ok-check_room.ensures) in
    let same : edges g ≡ front_edges reading = sym held.held in
    record {
      edges_len_bound = omega (arith, few-edges read, as-many-edges read);
      time_len_bound = (few-times read, omega (arith, (turns-known turns c.in_ok-check_turns.ensures).1), omega (arith, long), omega (arith, as_many, well.input_below));
      ends = subst (λ (es : List Edge). Ends n es) same (subst (λ (k : ℕ). Ends k (edges g)) (sym as_many) (graph-fit g well).ends);
      delay_value = subst (λ (es : List Edge). zero_cycle n es ≡ false) same (subst (λ (k : ℕ). zero_cycle k (edges g) ≡ false) (sym as_many) (acyclic s given));
      file_times = times-filed read;
    }

pub returns : goal.returns
returns c =
    let s = c.args.graph.now in
    let turns = c.args.turns in
    let starts = c.args.starts.now in
    let inside = c.in_ok-check_turns.ensures in
    let given = c.in_ok-accepted.ensures in
    let is = timetable-checked s turns starts inside given c.in_ok-check_room.ensures in
    record { refusal = is; starts = list_written s turns starts inside given is c.turns_into.ensures }
