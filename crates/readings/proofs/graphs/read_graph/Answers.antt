-- `readings::graphs::read_graph` meets its contract: the first of the two groups of checks that fails is the answer, else the lists are those of the graph.
use mathlib.Core.Path.{refl, sym, ap, ◌∙◌, subst}
use Prim.Native.Nat.{◌≤◌}
use Rattle.layout.specs.declared.GraphHeader.{GraphHeader}
use Rattle.records.specs.Columns.{zeros}
use Rattle.files.specs.Files.{graph_of, graph_refusal, graph_records_refusal}
use Rattle.files.proofs.First.{ends_with, fault-number, gives-fault, goes_on, last-answer, number_same}
use Rattle.readings.specs.Working.{working_graph}
use Rattle.readings.proofs.Whole.{header-tasks, header-edges}
use Rattle.readings.proofs.Passed.{graph-frame-passed}
use Rattle.readings.proofs.graphs.read_graph.Goals as goal

pub returns-in_err-check_graph_frame : goal.returns-in_err-check_graph_frame
unfolding graph_refusal
returns-in_err-check_graph_frame c =
    let back = c.from_residual.ensures in
    gives-fault _ _ back.0 back.1 (sym (ends_with _ c.in_err-check_graph_frame.ensures (fault-number _)))

pub graph_records-requires : goal.graph_records-requires
unfolding zeros
graph_records-requires c =
    let header = c.graph_header-header.ensures in
    let frame = graph-frame-passed c.args.bytes.now (number_same (sym c.in_ok-check_graph_frame.ensures)) in
    record {
      header_value = header;
      tasks_bound = (subst (λ (h : GraphHeader). h.tasks ≤ 64) (sym header) frame.at_most_64, subst (λ (h : GraphHeader). h.edges ≤ 256) (sym header) frame.at-most-256);
      processor_value = (refl, refl);
      ordering_value = refl;
    }

pub returns-in_err-graph_records : goal.returns-in_err-graph_records
unfolding graph_refusal
returns-in_err-graph_records c =
    let back = c.from_residual-in_err-graph_records.ensures in
    gives-fault _ _ back.0 back.1
    (sym (goes_on _ c.in_ok-check_graph_frame.ensures refl ∙ ends_with _ c.in_err-graph_records.ensures.refusal (fault-number _)))

pub returns : goal.returns
unfolding working_graph graph_of graph_refusal graph_records_refusal
returns c =
    let s = c.args.bytes.now in
    let header = c.graph_header-header.ensures in
    let lists = c.in_ok-graph_records.ensures.lists in
    record {
      refusal = sym (goes_on _ c.in_ok-check_graph_frame.ensures refl ∙ (last-answer _ ∙ sym c.in_ok-graph_records.ensures.refusal));
      value = λ i. record {
        tasks = header-tasks s header i;
        edges = header-edges s header i;
        input = ap (λ (h : GraphHeader). h.input) header i;
        output = ap (λ (h : GraphHeader). h.output) header i;
        bound = ap (λ (h : GraphHeader). h.bound) header i;
        processor = lists.processors i;
        time = lists.times i;
        ordering = lists.orders i;
      };
    }
