-- The front of the working lists holds the numbers of the tasks and edges, since the lists are made of them place by place, so the graph can be read
-- back from them; and what reading gives carries the refusal, or what was read.
use mathlib.Core.Path.{◌≡◌, refl, sym, ap, ◌∙◌, subst}
use mathlib.Core.List.{List}
use Prim.Native.Nat.{ℕ, ◌+◌, ◌≤◌, ◌<◌}
use native.Mathlib.Omega.{arith}
use lib.ListN.{length, get_or}
use lib.Seq.{ext_get_or}
use Rattle.model.specs.Lists.{tabulate}
use Rattle.model.specs.Tasks.{no_task, no_edge, processor_of}
use Rattle.model.specs.Graph.{count, edges, time_of}
use Rattle.records.specs.Columns.{at, edge_of, record_of, no_record}
use Rattle.records.proofs.Fill.{length-tabulate, get_d_tabulate}
use Rattle.records.proofs.Ordered.{edges-count, sync-place}
use Rattle.records.proofs.Parts.{column-of-take}
use Rattle.records.proofs.EdgesIn.{edges-of-take}
use Rattle.files.specs.Files.{edge_in}
use Rattle.files.proofs.First.{passed-gives}
use Rattle.readings.specs.Theorems.{GraphRefusalGiven, GraphGiven, ProposalRefusalGiven, ProposalGiven, WorkingHolds, WorkingEdgesHold, GraphInWorking, ProposedInWorking}
use Rattle.readings.specs.Working.{working_graph, working_proposal, graph_in, proposed_in}

pub working-holds : WorkingHolds
unfolding working_graph processor_of time_of edge_in
working-holds g tasks syncs =
    let room : count g + length g.syncs ≤ 320 = omega arith in
    let all : count g + length g.syncs ≡ length (edges g) = sym (edges-count g) in
    record {
      processors = column-of-take no_task (λ t. t.processor) g.tasks 64 (count g) refl tasks refl;
      times = column-of-take no_task (λ t. t.time) g.tasks 64 (count g) refl tasks refl;
      ordering = edges-of-take (edges g) 320 (count g + length g.syncs) refl room all;
    }

pub working-edges-hold : WorkingEdgesHold
unfolding working_proposal edge_in
working-edges-hold es few = record { proposed = edges-of-take es 256 (length es) refl few refl }

-- a list made of a list's own elements
same-list : {A : Type 0} (missing : A) (xs : List A) (f : ℕ → A) → ((i : ℕ) → i < length xs → f i ≡ get_or xs i missing) → tabulate (length xs) f ≡ xs
same-list missing xs f same =
    ext_get_or missing (tabulate (length xs) f) xs (length-tabulate (length xs) f)
    (λ i below.
    let inside : i < length xs = subst (λ (m : ℕ). i < m) (length-tabulate (length xs) f) below in
    get_d_tabulate (length xs) f missing i inside ∙ same i inside)

pub graph-in-working : GraphInWorking
unfolding graph_in working_graph at edge_of record_of edge_in processor_of time_of
graph-in-working g few-tasks few-syncs =
    let tasks-are =
    same-list no_task g.tasks (λ v. record { processor = at (working_graph g).processor v; time = at (working_graph g).time v })
    (λ v below.
    λ i.
    record {
      processor = get_d_tabulate 64 (processor_of g.tasks) 0 v (omega arith) i;
      time = get_d_tabulate 64 (time_of g) 0 v (omega arith) i;
    }) in
    let syncs-are =
    same-list no_edge g.syncs (λ j. edge_of (get_or (working_graph g).ordering (count g + j) no_record))
    (λ j below.
    ap edge_of (get_d_tabulate 320 (λ k. record_of (edge_in (edges g) k)) no_record (count g + j) (omega arith)) ∙ sync-place g j) in
    λ i. record { tasks = tasks-are i; syncs = syncs-are i; input = g.input; output = g.output; bound = g.bound }

pub proposed-in-working : ProposedInWorking
unfolding proposed_in working_proposal edge_of record_of edge_in
proposed-in-working es few =
    same-list no_edge es (λ j. edge_of (get_or (working_proposal es).proposed j no_record))
    (λ j below. ap edge_of (get_d_tabulate 256 (λ k. record_of (edge_in es k)) no_record j (omega arith)))

pub graph-refusal-given : GraphRefusalGiven
graph-refusal-given s r read = read.refusal

pub graph-given : GraphGiven
graph-given s r read none = passed-gives r read none

pub proposal-refusal-given : ProposalRefusalGiven
proposal-refusal-given n s r read = read.refusal

pub proposal-given : ProposalGiven
proposal-given n s r read none = passed-gives r read none
