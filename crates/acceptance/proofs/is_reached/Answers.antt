-- `acceptance::is_reached` meets its contract, by the two cases of its test.
use mathlib.Core.Path.{sym, ap, ◌∙◌}
use mathlib.Core.Bool.{Bool, not, ◌&&◌}
use native.Mathlib.Omega.{arith}
use borrow.Author.Tests.{eq-eqb, ne_eqb}
use Rattle.reach.specs.Reach.{bit}
use Rattle.acceptance.proofs.is_reached.Goals as goal

pub returns-then-output-input : goal.returns-then-output-input
returns-then-output-input c =
    let args = c.args in
    sym (ap (λ (b : Bool). not b && bit args.reached args.output) (eq-eqb args.input args.output (omega arith)))

pub returns : goal.returns
returns c =
    let args = c.args in
    c.has_bit.ensures ∙ sym (ap (λ (b : Bool). not b && bit args.reached args.output) (ne_eqb args.input args.output (λ q. c.if-output-input.false (sym q))))
