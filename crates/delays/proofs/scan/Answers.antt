-- `delays::scan` meets its contract: the row is relaxed from the task on, and what was seen too where the task's row is finished.
use mathlib.Core.Path.{sym, ◌∙◌}
use Rattle.delays.proofs.Rows.{set-low, scanned-once, scanned-finished}
use Rattle.delays.proofs.scan.Goals as goal

pub relax-requires : goal.relax-requires
relax-requires c = record { start_in_bounds = (c.requires.u_bound.1, c.requires.low.0.each c.args.u c.requires.u_bound.0, c.requires.low.0); by_index = c.requires.u_bound.2 }

pub relax-requires-then-has_bit : goal.relax-requires-then-has_bit
relax-requires-then-has_bit c = record { start_in_bounds = (c.requires.u_bound.1, c.requires.low.0.each c.args.u c.requires.u_bound.0, set-low c.requires.u_bound.0 c.requires.low.0 c.requires.low.1 c.requires.low.2); by_index = c.requires.u_bound.2 }

pub returns-then-has_bit : goal.returns-then-has_bit
returns-then-has_bit c = scanned-finished c.requires.u_bound.0 c.requires.low.0 c.requires.low.1 c.requires.low.2 c.relax.ensures (sym c.has_bit.ensures ∙ c.if-has_bit.true) c.relax-then-has_bit.ensures

pub returns-else-has_bit : goal.returns-else-has_bit
returns-else-has_bit c = scanned-once c.requires.u_bound.0 c.requires.low.0 c.requires.low.1 c.requires.low.2 c.relax.ensures
