-- `records::processor_edges` meets its contract: after v steps the first v records are those of the first v edges.
use mathlib.Core.Path.{◌≡◌, refl, sym, ap, ◌∙◌, subst}
use mathlib.Core.List.{List}
use Prim.Native.Nat.{ℕ, ◌+◌, ◌<◌}
use native.Mathlib.Omega.{arith}
use lib.ListN.{length, get_or, set, length-set}
use Rattle.layout.specs.declared.EdgeRecord.{EdgeRecord}
use Rattle.model.specs.Tasks.{Task}
use Rattle.model.specs.Processors.{processor_edge}
use Rattle.records.specs.Columns.{record_of, ProcessorsOf}
use Rattle.records.proofs.Fill.{filled_none, filled_more, filled-all}
use Rattle.records.proofs.Nexts.{next-edge, first-edge}
use Rattle.records.proofs.processor_edges.Invariants.{Holds}
use Rattle.records.proofs.processor_edges.Goals as goal
use Rattle.records.proofs.processor_edges.Goals.{then-next-v-lt-NO_TASK, else-next-v-lt-NO_TASK}

more : {processor : List ℕ} {xs : List EdgeRecord} {v : ℕ} {a : EdgeRecord} → Holds processor v xs → v < length processor
    → ((ts : List Task) → ProcessorsOf ts processor → a ≡ record_of (processor_edge ts v)) → Holds processor (v + 1) (set xs v a)
more {processor} {xs} {v} {a} done below is = record {
  room = length-set xs v a ∙ done.room;
  holds = λ ts of.
      let present : v < length ts = omega (arith, of.as_many) in
      filled_more a (done.holds ts of) present (is ts of);
}

pub find_next-requires : goal.find_next-requires
find_next-requires c = record { processor_len_bound = (c.requires.processor_len_bound, c.requires.processor_len_bound); first_value = refl }

pub loop-v-init : goal.loop-v-init
loop-v-init c = record { room = c.requires.edges_len; holds = λ ts of. filled_none _ _ (c.requires.edges_len ∙ of.as_many) }

pub loop-v-preserved : goal.loop-v-preserved
unfolding record_of
loop-v-preserved c =
    let loop = c.loop-v in
    let below = c.loop-v-test.true in
    let found = c.find_next.ensures in
    let few = c.requires.processor_len_bound in
    let own : get_or c.args.processor.now loop.v 0 < 256 = omega (arith, c.type_inv.processor loop.v) in
    elim c.if-next-v-lt-NO_TASK.branch [
      | then-next-v-lt-NO_TASK way ↦
          subst (Holds c.args.processor.now (loop.v + 1)) (sym way.edges-is)
          (more loop.invariant below (λ ts of. ap record_of (next-edge few found.next_tasks found.first_tasks loop.v below own ts of way.if-next-v-lt-NO_TASK.true)))
      | else-next-v-lt-NO_TASK way ↦
          subst (Holds c.args.processor.now (loop.v + 1)) (sym way.edges-is)
          (more loop.invariant below (λ ts of. ap record_of (first-edge few found.next_tasks found.first_tasks loop.v below own ts of (omega (arith, way.if-next-v-lt-NO_TASK.false)))))
    ]

pub returns : goal.returns
returns c = λ ts of.
    let whole : c.loop-v.v ≡ length c.args.processor.now = omega arith in
    filled-all (c.loop-v.invariant.holds ts of) (whole ∙ of.as_many)
