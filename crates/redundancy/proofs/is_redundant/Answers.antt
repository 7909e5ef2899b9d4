-- `redundancy::is_redundant` meets its contract: the entry between the edge's ends and the least sum tell whether it is redundant.
use mathlib.Core.Path.{sym, ◌∙◌}
use Prim.Native.Nat.{◌+◌, ◌*◌, ◌≤◌, ◌<◌}
use lib.ListN.{length, get_or}
use Rattle.model.proofs.Tests.{decides-yes, ltb-decides}
use Rattle.records.specs.Columns.{no_record}
use Rattle.redundancy.proofs.Rule.{places, small, marked-by-path, marked-by-sum}
use Rattle.redundancy.proofs.is_redundant.Goals as goal
use Rattle.redundancy.proofs.is_redundant.Goals.{Start}

-- what is read for the edge stands in the lists
at : (c : Start) →
    ((get_or c.args.edges.now c.args.own no_record).source * c.args.tasks + (get_or c.args.edges.now c.args.own no_record).sink < length c.args.table.now)
    × ((get_or c.args.edges.now c.args.own no_record).source * c.args.tasks + c.args.tasks ≤ length c.args.table.now)
    × ((get_or c.args.edges.now c.args.own no_record).sink * 64 + c.args.tasks ≤ length c.args.last.now)
    × (length c.args.table.now ≤ 4096)
    × ((get_or c.args.edges.now c.args.own no_record).sink < 64)
at c = places c.requires.tabled c.args.own c.requires.own_in_bounds

pub least_sum-requires : goal.least_sum-requires
least_sum-requires c =
    ((at (goal.at.least_sum-requires c).Start).1, (at (goal.at.least_sum-requires c).Start).2, small c.requires.tabled c.args.own c.requires.own_in_bounds)

pub bounds-table-from : goal.bounds-table-from
bounds-table-from c = (at (goal.at.bounds-table-from c).Start).0

pub returns-then-table-from : goal.returns-then-table-from
returns-then-table-from c = λ i is.
    decides-yes (ltb-decides _ _) c.if-table-from.true ∙ sym (marked-by-path c.requires.tabled c.args.own c.requires.own_in_bounds i is c.if-table-from.true)

pub returns-else-table-from : goal.returns-else-table-from
returns-else-table-from c = λ i is. marked-by-sum c.requires.tabled c.args.own c.requires.own_in_bounds i is c.least_sum.result c.least_sum.ensures c.if-table-from.false
