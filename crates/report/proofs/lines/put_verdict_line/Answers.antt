-- `report::lines::put_verdict_line` meets its contract: by the two cases of the outcome's number.
use mathlib.Core.Path.{ap}
use native.Mathlib.Omega.{arith}
use lib.ListN.{length}
use Rattle.text.proofs.Appending as appending
use Rattle.report.proofs.Whole.{verdict-accepted, verdict_refused}
use Rattle.report.proofs.lines.put_verdict_line.Goals as goal

pub put_refused_line-requires : goal.put_refused_line-requires
put_refused_line-requires c =
    omega (arith, c.requires, ap length (verdict_refused c.args.verdict c.if-outcome-ne0.true))

pub returns-then-outcome-ne0 : goal.returns-then-outcome-ne0
returns-then-outcome-ne0 c = appending.renamed (verdict_refused c.args.verdict c.if-outcome-ne0.true) c.put_refused_line.ensures

pub put_accepted_line-requires : goal.put_accepted_line-requires
put_accepted_line-requires c =
    omega (arith, c.requires, ap length (verdict-accepted c.args.verdict c.if-outcome-ne0.false))

pub returns : goal.returns
returns c = appending.renamed (verdict-accepted c.args.verdict c.if-outcome-ne0.false) c.put_accepted_line.ensures
