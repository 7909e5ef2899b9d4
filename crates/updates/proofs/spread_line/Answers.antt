-- `updates::spread_line` meets its contract: after b steps b entries are copied, and the next stands b steps from the first.
use mathlib.Core.Path.{◌≡◌, refl}
use mathlib.Core.Logic.{inl, inr, ⊎_elim}
use Prim.Native.Nat.{◌+◌, ◌*◌, ◌≤◌, ◌<◌}
use native.Mathlib.Omega.{arith}
use lib.ListN.{length}
use Rattle.records.specs.Columns.{at}
use Rattle.records.proofs.Rows.{product_small}
use Rattle.delays.proofs.Parts.{part_none, part-more}
use Rattle.updates.proofs.spread_line.Invariants.{entry_of}
use Rattle.updates.proofs.spread_line.Goals as goal
use Rattle.updates.proofs.spread_line.Goals.{In-loop-b}

-- the step to the entry read is a small number
small : (c : In-loop-b) → c.loop-b.b * c.args.step ≤ 4096
small c =
    let few : c.loop-b.b ≤ 64 = omega (arith, c.requires.tasks_bound.0) in
    product_small c.loop-b.b c.args.step few c.requires.first_bound.1

-- the number written stands within the lines
inside : (c : In-loop-b) → c.args.start + c.loop-b.b < length c.loop-b.lines
inside c = omega (arith, c.loop-b.invariant.size, c.requires.tasks_bound, c.loop-b-test.true)

pub loop-b-init : goal.loop-b-init
loop-b-init c =
    let args = c.args in
    part_none args.start (entry_of args.table.now args.first args.step) args.lines.now

pub loop-b-preserved : goal.loop-b-preserved
unfolding at
loop-b-preserved c = part-more c.loop-b.invariant (c.args.start + c.loop-b.b) c.min.result refl (inside (goal.at.loop-b-preserved c).In-loop-b) c.min.ensures

pub returns : goal.returns
unfolding at
returns c =
    let done = c.loop-b.invariant in
    let whole : c.loop-b.b ≡ c.args.tasks = omega arith in
    record {
      size = done.size;
      inside = λ b l. done.done b (omega arith);
      outside = λ i out. done.rest i (⊎_elim (λ l. inl l) (λ l. inr (omega arith)) out);
    }
