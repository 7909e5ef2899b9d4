-- `candidates::zero_diagonal` meets its contract: after v steps the entries from the first v tasks to themselves are 0, the others as at first.
use mathlib.Core.Path.{◌≡◌, subst}
use Prim.Native.Nat.{ℕ, ◌+◌, ◌*◌, ◌<◌}
use native.Mathlib.Omega.{arith}
use lib.ListN.{length}
use Rattle.records.proofs.Rows.{place-within, place-small}
use Rattle.candidates.proofs.Diagonal.{Zeroed, zeroed-more, zeroed-all}
use Rattle.candidates.proofs.zero_diagonal.Goals as goal
use Rattle.candidates.proofs.zero_diagonal.Goals.{In-loop-v}

small : (c : In-loop-v) → c.loop-v.v * c.args.tasks + c.loop-v.v < 4096
small c =
    let v = c.loop-v.v in
    place-small c.args.tasks v v c.requires.0 c.loop-v-test.true c.loop-v-test.true

inside : (c : In-loop-v) → c.loop-v.v * c.args.tasks + c.loop-v.v < length c.loop-v.table
inside c =
    let n = c.args.tasks in
    let v = c.loop-v.v in
    omega (arith, place-within n n v v c.loop-v-test.true c.loop-v-test.true, c.loop-v.invariant.size, c.requires.1)

pub loop-v-preserved : goal.loop-v-preserved
loop-v-preserved c = zeroed-more c.loop-v.invariant c.loop-v-test.true (inside (goal.at.loop-v-preserved c).In-loop-v)

pub returns : goal.returns
returns c = λ es least.
    let n = c.args.tasks in
    let loop = c.loop-v in
    let whole : loop.v ≡ n = omega arith in
    zeroed-all (subst (λ (v : ℕ). Zeroed n v c.args.table.now loop.table) whole loop.invariant) es least c.requires.1
