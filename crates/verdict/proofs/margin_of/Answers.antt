-- `verdict::margin_of` meets its contract: both numbers and their difference fit 32 signed bits, so each cast keeps its number.
use mathlib.Core.Path.{sym, ◌∙◌, subst}
use lib.IntN.{ℤ, ◌-ℤ◌, pos}
use mir.Syntax.{w32}
use mir.Val.{SFits, to_z}
use mir.ValLaws.{to_z_pos, to_z-of_z}
use Rattle.verdict.specs.Verdict.{margin}
use Rattle.verdict.proofs.Margins.{half-word, difference-fits}
use Rattle.verdict.proofs.margin_of.Goals as goal

pub overflow_sub-result : goal.overflow_sub-result
overflow_sub-result c =
    subst (λ (z : ℤ). SFits w32 (z -ℤ to_z w32 c.args.latency)) (sym (to_z_pos w32 c.args.bound (half-word c.requires.0)))
    (subst (λ (z : ℤ). SFits w32 (pos c.args.bound -ℤ z)) (sym (to_z_pos w32 c.args.latency (half-word c.requires.1)))
    (difference-fits c.args.bound c.args.latency c.requires.0 c.requires.1))

pub returns : goal.returns
unfolding margin
returns c =
    to_z-of_z w32 _ (overflow_sub-result c) ∙
    (λ i. to_z_pos w32 c.args.bound (half-word c.requires.0) i -ℤ to_z_pos w32 c.args.latency (half-word c.requires.1) i)
