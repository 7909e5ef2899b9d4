-- `candidates::unit_row` meets its contract: after b steps the first b numbers are times in units.
use Rattle.candidates.specs.Searches.{UnitRow}
use Rattle.candidates.proofs.unit_row.Given as goal

abbrev pub invariant-loop-b : goal.invariant-loop-b
invariant-loop-b l = UnitRow l.times l.power l.b l.row
