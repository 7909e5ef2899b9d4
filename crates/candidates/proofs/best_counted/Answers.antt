-- `candidates::best_counted` meets its contract: after b steps the pair is the best of those before it and of the first b out of the task.
use mathlib.Core.Path.{◌≡◌, sym, ◌∙◌, subst}
use Prim.Native.Nat.{◌+◌, ◌≤◌}
use native.Mathlib.Omega.{arith}
use lib.ListN.{length}
use Rattle.records.specs.Columns.{at}
use Rattle.std.specs.Prelude.{Option}
use Rattle.candidates.specs.declared.Pair.{Pair}
use Rattle.candidates.specs.Searches.{BestSoFar, gain_of}
use Rattle.candidates.proofs.Worth.{worth-at-most, worth-with-path-back, worth-late, worth-in-time}
use Rattle.candidates.proofs.Best.{so-far-passed, so-far-taken}
use Rattle.candidates.proofs.best_counted.Goals as goal
use Rattle.candidates.proofs.best_counted.Goals.{then-least_gain-gain+then-back-b-eq-FAR+then-end-latest, else-least_gain-gain-via-then-least_gain-gain+then-back-b-eq-FAR+else-end-latest, else-least_gain-gain-via-then-least_gain-gain+else-back-b-eq-FAR, else-least_gain-gain, else-least_gain-gain-via-else-least_gain-gain}

pub loop-b-preserved : goal.loop-b-preserved
unfolding at
loop-b-preserved c = λ worth is before.
    let args = c.args in
    let back = args.back.now in
    let n = length back in
    let latest = args.latest.now in
    let counts = args.counts.now in
    let end = args.end in
    let a = args.a in
    let b = c.loop-b.b in
    let so_far = c.loop-b.invariant worth is before in
    let below = c.loop-b-test.true in
    let worth_is = is b below in
    let passed : worth a b ≤ gain_of c.loop-b.best → (p : Option Pair) → p ≡ c.loop-b.best → BestSoFar n worth a (b + 1) p
    = λ less p same. subst (λ (o : Option Pair). BestSoFar n worth a (b + 1) o) (sym same) (so-far-passed n worth a b c.loop-b.best so_far less) in
    elim c.if-least_gain-gain.branch [
      | then-least_gain-gain+then-back-b-eq-FAR+then-end-latest w ↦
          let value = worth_is ∙ (worth-in-time back end latest counts b w.if-back-b-eq-FAR.true w.if-end-latest.true ∙ sym c.from-gain.ensures) in
          subst (λ (o : Option Pair). BestSoFar n worth a (b + 1) o) (sym w.best-is)
          (so-far-taken n worth a b c.loop-b.best so_far c.requires.3 below value (omega (arith, w.if-least_gain-gain.true, c.least_gain.ensures)))
      | else-least_gain-gain w ↦
          elim w.else-least_gain-gain.branch [
            | else-least_gain-gain-via-then-least_gain-gain+then-back-b-eq-FAR+else-end-latest v ↦
                passed (omega (arith, worth_is, worth-late back end latest counts b v.if-back-b-eq-FAR.true v.if-end-latest.false)) _ w.best-is
            | else-least_gain-gain-via-then-least_gain-gain+else-back-b-eq-FAR v ↦
                passed (omega (arith, worth_is, worth-with-path-back back end latest counts b v.if-back-b-eq-FAR.false)) _ w.best-is
            | else-least_gain-gain-via-else-least_gain-gain v ↦
                passed (omega (arith, worth_is, worth-at-most back end latest counts b, v.if-least_gain-gain.false, c.least_gain.ensures, c.from-gain.ensures)) _ w.best-is
          ]
    ]
