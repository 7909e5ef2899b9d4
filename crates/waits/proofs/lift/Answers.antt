-- `waits::lift` meets its contract: a start that is not below the end is the later of the two, and stored again changes nothing.
use mathlib.Core.Path.{◌≡◌, sym, ap, ◌∙◌}
use Prim.Native.Nat.{ℕ, max}
use native.Mathlib.Omega.{arith}
use lib.ListN.{get_or, set}
use lib.Seq.{set-get_or}
use Rattle.records.specs.Columns.{at}
use Rattle.waits.proofs.lift.Goals as goal

pub returns-then-row-t : goal.returns-then-row-t
unfolding at
returns-then-row-t c =
    let args = c.args in
    let raised : args.end ≡ max (get_or args.row.now args.t 0) args.end = omega (arith, c.if-row-t.true) in
    ap (λ (x : ℕ). set args.row.now args.t x) raised

pub returns-else-row-t : goal.returns-else-row-t
unfolding at
returns-else-row-t c =
    let args = c.args in
    let kept : get_or args.row.now args.t 0 ≡ max (get_or args.row.now args.t 0) args.end = omega (arith, c.if-row-t.false) in
    sym (set-get_or args.row.now args.t 0) ∙ ap (λ (x : ℕ). set args.row.now args.t x) kept
