-- `delays::finish_row` meets its contract: a row that is not finished is made in a list of its own.
use mathlib.Core.Path.{refl, sym, ap, ◌∙◌, subst}
use mathlib.Core.Bool.{Bool, ◌||◌}
use Prim.Native.Nat.{ℕ, ◌<◌}
use borrow.Author.Tests.{eq-eqb}
use Rattle.reach.specs.Reach.{bit}
use Rattle.reach.proofs.Bits.{or-true}
use Rattle.delays.specs.Rows.{Known}
use Rattle.delays.proofs.Making.{front-size}
use Rattle.delays.proofs.finish_row.Goals as goal

pub returns-then-has_bit : goal.returns-then-has_bit
returns-then-has_bit c = record { done = sym c.has_bit.ensures ∙ c.if-has_bit.true; known = λ es square. square }

pub make_row-requires : goal.make_row-requires
make_row-requires c = (subst (λ (k : ℕ). c.args.a < k) (sym (front-size c.requires.1.1.few)) c.requires.0, (c.requires.1.0, subst (λ (k : ℕ). Known k c.requires.1.0 c.args.done c.args.known.now) (sym (front-size c.requires.1.1.few)) c.requires.1.1))

pub returns : goal.returns
returns c = record {
  done = c.make_row.ensures.done c.args.a ∙ (ap (λ (b : Bool). bit c.args.done c.args.a || b) (eq-eqb c.args.a c.args.a refl) ∙ or-true (bit c.args.done c.args.a));
  known = λ es square.
      subst (λ (k : ℕ). Known k es c.make_row.result c.make_row.new.known) (front-size c.requires.1.1.few)
      (c.make_row.ensures.known es (subst (λ (k : ℕ). Known k es c.args.done c.args.known.now) (sym (front-size c.requires.1.1.few)) square));
}
