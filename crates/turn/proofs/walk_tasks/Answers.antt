-- `turn::walk_tasks` meets its contract: each step takes one task more, and keeps what `Taking` says.
use mathlib.Core.Path.{◌≡◌, refl, sym, subst}
use mathlib.Core.Bool.{not, ◌&&◌}
use Prim.Native.Nat.{ℕ, ◌<◌}
use native.Mathlib.Omega.{arith}
use lib.Bits.{bit_or}
use lib.Dec.{eqb}
use Rattle.records.specs.Columns.{at}
use Rattle.reach.specs.Reach.{bit}
use Rattle.reach.proofs.Bits.{bit-or}
use Rattle.turn.proofs.Taking.{taking-none, next-inside, some_left, taking-more, taking-all, taking-ends}
use Rattle.turn.proofs.walk_tasks.Goals as goal

pub loop-ready-init : goal.loop-ready-init
loop-ready-init c = taking-none c.args.sinks.now c.args.time.now c.args.input refl c.requires.by_index c.with_bit-reached.ensures c.free_tasks-ready.ensures c.requires.input_in_bounds.2

pub bounds-sequence-taken : goal.bounds-sequence-taken
bounds-sequence-taken c = omega (arith, c.loop-ready.invariant.listed.room, some_left c.loop-ready.invariant c.first_task-v.result c.first_task-v.ensures.2, c.requires.input_in_bounds.1)

pub overflow_add-end : goal.overflow_add-end
unfolding at
overflow_add-end c =
    let v = c.first_task-v.result in
    let low = c.loop-ready.invariant.walked.low v (next-inside c.loop-ready.invariant c.first_task-v.result c.first_task-v.ensures.2) in
    omega (arith, low, some_left c.loop-ready.invariant c.first_task-v.result c.first_task-v.ensures.2, c.requires.input_in_bounds.1, c.type_inv.time v)

pub raise-ready-requires : goal.raise-ready-requires
raise-ready-requires c =
    let v = c.first_task-v.result in
    let size = c.loop-ready.invariant.walked.size in
    record {
      sources_len = (c.requires.sinks_len.1, omega (arith, size, c.requires.input_in_bounds.1));
      by_index = λ t on. subst (λ (m : ℕ). t < m) (sym size) (c.requires.crossed.to v t (next-inside c.loop-ready.invariant c.first_task-v.result c.first_task-v.ensures.2) on).0;
    }

pub overflow_add-taken : goal.overflow_add-taken
overflow_add-taken c = omega (arith, some_left c.loop-ready.invariant c.first_task-v.result c.first_task-v.ensures.2, c.requires.input_in_bounds.1)

pub loop-ready-smaller : goal.loop-ready-smaller
loop-ready-smaller c = let less = some_left c.loop-ready.invariant c.first_task-v.result c.first_task-v.ensures.2 in omega (arith, less)

pub loop-ready-preserved : goal.loop-ready-preserved
unfolding at
loop-ready-preserved c =
    let v = c.first_task-v.result in
    let rest = c.without_first-ready.result in
    let out : (b : ℕ) → bit rest b ≡ bit c.loop-ready.ready b && not (eqb v b) = subst (λ (u : ℕ). (b : ℕ) → bit rest b ≡ bit c.loop-ready.ready b && not (eqb u b)) (sym c.first_task-v.ensures.0) c.without_first-ready.ensures.1 in
    taking-more c.loop-ready.invariant c.requires.crossed c.requires.input_in_bounds.1 v c.with_bit-done.result rest c.others.result c.raise-ready.result (bit_or rest c.raise-ready.result) c.merged-reached.result c.first_task-v.ensures.2 c.with_bit-done.ensures out c.others.ensures c.raise-ready.ensures.released (bit-or rest c.raise-ready.result) (omega (arith, c.type_inv.time v)) c.merged-reached.ensures c.raise-ready.ensures.lifted

pub returns : goal.returns
returns c =
    record {
      size = c.loop-ready.invariant.walked.size;
      walked = taking-all c.loop-ready.invariant;
      all = taking-ends c.loop-ready.invariant c.requires.crossed c.loop-ready-test.false;
    }
