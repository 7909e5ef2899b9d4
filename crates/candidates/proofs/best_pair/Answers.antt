-- `candidates::best_pair` meets its contract: after a steps the pair is the best of those out of the first a tasks. A task whose counts do not exceed
-- what the best pair subsumes, as far as they are in time, has no better one.
use mathlib.Core.Path.{◌≡◌, refl, sym, subst}
use Rattle.std.specs.Prelude.{Option}
use mathlib.Core.Logic.{⊎_elim}
use Prim.Native.Nat.{ℕ, ◌+◌, ◌*◌, ◌≤◌}
use native.Mathlib.Omega.{arith}
use lib.ListN.{length}
use borrow.Rule.Slice.PartMut.{mid_len}
use Rattle.records.specs.Columns.{at}
use Rattle.candidates.specs.Candidates.{worth_in}
use Rattle.candidates.specs.declared.Pair.{Pair}
use Rattle.candidates.specs.Searches.{BestSoFar, gain_of}
use Rattle.candidates.proofs.Times.{zeros-small}
use Rattle.candidates.proofs.Worth.{row_front, worth-by-row, worth-few}
use Rattle.candidates.proofs.Best.{so-far-row, so-far-skipped}
use Rattle.candidates.proofs.best_pair.Goals as goal
use Rattle.candidates.proofs.best_pair.Goals.{then-may_exceed, else-may_exceed, In-loop-a}

-- the front of the row of the task, lent as a part
front-wide :
    (c : In-loop-a) → length (row_front c.args.tasks c.loop-a.a c.args.to.now) ≡ c.args.tasks
front-wide c =
    let place = c.loop-a.a * 64 in
    let n = c.args.tasks in
    let long = mid_len place (place + n) c.args.to.now (omega (arith, c.requires.0, c.requires.2, c.loop-a-test.true)) in
    omega (arith, long)

pub unit_row-requires : goal.unit_row-requires
unit_row-requires c =
    let asked = c.requires in
    (omega arith, omega (arith, asked.0, asked.4), refl, zeros-small)

pub unit_row-requires-2 : goal.unit_row-requires-2
unit_row-requires-2 c =
    let asked = c.requires in
    (omega arith, omega (arith, asked.0, asked.4), refl, zeros-small)

pub may_exceed-requires : goal.may_exceed-requires
may_exceed-requires c =
    let asked = c.requires in
    let inside = c.loop-a-test.true in
    record {
      start_bound = (
        omega (arith, asked.0, inside),
        omega (arith, asked.1, inside),
        omega (arith, asked.2, inside),
        c.unit_row.ensures.size,
        c.unit_row-2.ensures.size,
      );
      small_row = (c.unit_row.ensures.small, c.unit_row-2.ensures.small);
    }

pub loop-a-preserved : goal.loop-a-preserved
unfolding at
loop-a-preserved c =
    let args = c.args in
    let n = args.tasks in
    let few = c.requires.0 in
    let counts = args.counts.now in
    let to = args.to.now in
    let end = args.end.now in
    let latest = args.latest.now in
    let worth = worth_in counts to end latest in
    let a = c.loop-a.a in
    let best = c.loop-a.best in
    let wide = front-wide (goal.at.loop-a-preserved c).In-loop-a in
    elim c.if-may_exceed.branch [
      | then-may_exceed w ↦
          let first = subst (λ (k : ℕ). BestSoFar k worth a 0 best) (sym wide) c.loop-a.invariant in
          let found = w.best_counted-best.ensures worth (λ b l. worth-by-row few counts to end latest a b (omega (arith, l, wide))) first in
          subst (λ (p : Option Pair). BestSoFar n worth (a + 1) 0 p) (sym w.best-is)
          (so-far-row n worth a _ (subst (λ (k : ℕ). BestSoFar k worth a k w.best_counted-best.result) wide found))
      | else-may_exceed w ↦
          subst (λ (p : Option Pair). BestSoFar n worth (a + 1) 0 p) (sym w.best-is)
          (so-far-skipped n worth a best c.loop-a.invariant
          (λ d l.
          let least : c.capped-least.result ≤ gain_of best = omega (arith, c.capped-least.ensures, c.least_gain.ensures) in
          let worth-least : worth a d ≤ c.capped-least.result
          = ⊎_elim (λ none. worth-few few counts to end latest a d l c.requires.4 c.unit_row.ensures none)
          (λ none. worth-few few counts to end latest a d l c.requires.4 c.unit_row-2.ensures none) (c.may_exceed.ensures w.if-may_exceed.false) in
          omega arith))
    ]
