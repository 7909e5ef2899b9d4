-- `files::checks::check_times` meets its contract: no task that was looked at so far is refused.
use mathlib.Core.Path.{◌≡◌, sym, subst}
use Prim.Native.Nat.{ℕ, ◌≤◌, ◌<◌}
use native.Mathlib.Omega.{arith}
use lib.ListN.{length}
use borrow.Author.Count.{below_none, below_more}
use Rattle.files.specs.Refusals.{not_refused}
use Rattle.files.specs.Files.{time_refusal}
use Rattle.files.proofs.First.{stops_at, stops_nowhere}
use Rattle.files.proofs.Single.{time-passes, time-stops}
use Rattle.files.proofs.checks.check_times.Goals as goal

pub loop-v-init : goal.loop-v-init
loop-v-init c = λ g of. below_none (λ u. time_refusal g u ≡ not_refused)

pub offset_bounds-time-v : goal.offset_bounds-time-v
offset_bounds-time-v c = omega (arith, c.requires)

pub overflow_cast-result : goal.overflow_cast-result
overflow_cast-result c = omega (arith, c.requires)

pub returns-then-estimate-eq0 : goal.returns-then-estimate-eq0
returns-then-estimate-eq0 c = λ g of.
    let below = c.loop-v-test.true in
    sym (stops_at (length g.tasks) (time_refusal g) (subst (λ (n : ℕ). c.loop-v.v < n) of.as_many below)
    (c.loop-v.invariant g of) (time-stops g of c.loop-v.v below c.if-estimate-eq0.true) (λ z. omega arith))

pub loop-v-preserved : goal.loop-v-preserved
loop-v-preserved c =
    let v = c.loop-v.v in
    λ g of. below_more (λ u. time_refusal g u ≡ not_refused) v (c.loop-v.invariant g of)
    (time-passes g of v c.loop-v-test.true c.if-estimate-eq0.false)

pub returns : goal.returns
returns c = λ g of.
    sym (stops_nowhere (length g.tasks) (time_refusal g) (subst (λ (n : ℕ). n ≤ c.loop-v.v) of.as_many c.loop-v-test.false) (c.loop-v.invariant g of))
