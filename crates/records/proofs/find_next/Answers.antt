-- `records::find_next` meets its contract: what the lists say of the tasks from v on is carried to the task before (`firsts_more`, `nexts-more`).
use mathlib.Core.Path.{◌≡◌, subst}
use Prim.Native.Nat.{ℕ, ◌+◌, ◌-◌, ◌<◌}
use native.Mathlib.Omega.{arith}
use lib.ListN.{length, get_or}
use Rattle.records.specs.Nexts.{FirstTasks, NextTasks}
use Rattle.records.proofs.Nexts.{firsts-none, told_none, nexts-none, firsts_more, told_more, nexts-more}
use Rattle.records.proofs.find_next.Goals as goal

pub loop-v-init : goal.loop-v-init
loop-v-init c =
    let processor = c.args.processor.now in
    (nexts-none processor c.requires.processor_len_bound.1, firsts-none processor c.requires.processor_len_bound.0 c.requires.first_value, told_none processor c.requires.first_value)

pub loop-v-preserved : goal.loop-v-preserved
loop-v-preserved c =
    let inv = c.loop-v.invariant in
    let v = c.loop-v.v - 1 in
    let processor = c.args.processor.now in
    let number : c.loop-v.v ≡ v + 1 = omega arith in
    let below : v < length processor = omega arith in
    let small : get_or processor v 0 < 256 = omega (arith, c.type_inv.processor v) in (
      nexts-more number below small inv.1 inv.2 inv.0,
      firsts_more number below small inv.1,
      told_more number below small inv.1.room inv.2,
    )

pub returns : goal.returns
returns c =
    let processor = c.args.processor.now in
    let whole : c.loop-v.v ≡ 0 = omega arith in
    record { next_tasks = subst (λ (v : ℕ). NextTasks processor v c.loop-v.next) whole c.loop-v.invariant.0; first_tasks = subst (λ (v : ℕ). FirstTasks processor v c.loop-v.first) whole c.loop-v.invariant.1 }
