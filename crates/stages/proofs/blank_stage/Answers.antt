-- `stages::blank_stage` meets its contract: the first 0 records of a list are none.
use mathlib.Core.Path.{refl}
use native.Mathlib.Omega.{arith}
use lib.ListN.{length-replicate}
use Rattle.records.specs.Columns.{no_record}
use Rattle.stages.specs.Stages.{listed}
use Rattle.stages.proofs.blank_stage.Goals as goal

pub returns : goal.returns
unfolding listed
returns c = record { as_many = refl; few = omega arith; room = length-replicate 256 no_record; held = refl }
