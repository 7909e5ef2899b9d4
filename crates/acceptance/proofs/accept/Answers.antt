-- `acceptance::accept` meets its contract: the fault that reading finds, else that of the checks on the fronts of the lists.
use mathlib.Core.Path.{◌≡◌, sym, subst}
use mathlib.Core.List.{List}
use Prim.Native.Nat.{ℕ}
use native.Mathlib.Omega.{arith}
use lib.ListN.{length}
use Rattle.model.specs.Tasks.{Edge}
use Rattle.model.specs.Graph.{count, edges}
use Rattle.delays.specs.Delays.{Fit}
use Rattle.files.specs.Files.{graph_of}
use Rattle.acceptance.proofs.Fronts.{front, graph-fit, file-times}
use Rattle.acceptance.proofs.Accepting.{unread, read-well, read-held, lists-within, accepts, refuses}
use Rattle.acceptance.proofs.accept.Goals as goal

pub returns-in-Err : goal.returns-in-Err
returns-in-Err c = unread c.args.graph.now c.in-Err.fault c.in-Err.ensures.refusal

pub slice_bounds-check_schedule-end : goal.slice_bounds-check_schedule-end
slice_bounds-check_schedule-end c = (lists-within c.args.graph.now c.in-Ok.ensures).ordering

pub slice_bounds-check_schedule-end-2 : goal.slice_bounds-check_schedule-end-2
slice_bounds-check_schedule-end-2 c = (lists-within c.args.graph.now c.in-Ok.ensures).time

pub check_schedule-requires : goal.check_schedule-requires
check_schedule-requires c =
    let s = c.args.graph.now in
    let read = c.in-Ok.ensures in
    let f = read-held s read in
    let well = read-well s read in
    let r = c.in-Ok.reading in
    let g = graph_of s in
    let n = length (front r.tasks r.time) in
    let as_many : n ≡ count g = f.as-many-times in
    record {
      time_len_bound = (omega (arith, as_many, well.at_most_64), omega (arith, as_many, f.input-is, well.input_below), omega (arith, as_many, f.output_is, well.output_below));
      fit = subst (λ (es : List Edge). Fit n es) (sym f.held) (subst (λ (k : ℕ). Fit k (edges g)) (sym as_many) (graph-fit g well));
      file_times = file-times g (front r.tasks r.time) well as_many f.times_are;
    }

pub returns : goal.returns
returns c = accepts c.args.graph.now c.in-Ok.ensures c.in-Ok-check_schedule.ensures

pub returns-in-Err-check_schedule : goal.returns-in-Err-check_schedule
returns-in-Err-check_schedule c = refuses c.args.graph.now c.in-Ok.ensures c.in-Err-check_schedule.ensures.refusal
