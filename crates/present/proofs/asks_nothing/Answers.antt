-- `present::asks_nothing` meets its contract: each test answers true only where its sum is small enough.
use mathlib.Core.Path.{sym}
use mathlib.Core.Bool.{true≢false}
use Rattle.records.specs.Columns.{at}
use Rattle.present.proofs.asks_nothing.Goals as goal

pub returns-then-not-ends_before : goal.returns-then-not-ends_before
returns-then-not-ends_before c = λ q. absurd (true≢false (sym q))

pub returns : goal.returns
unfolding at
returns c = λ q. (c.ends_before.ensures c.if-not-ends_before.false, c.in_time_for.ensures q)
