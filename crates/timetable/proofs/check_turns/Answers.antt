-- `timetable::check_turns` meets its contract: the range holds what the definition's two tests let by.
use Rattle.std.proofs.Common.{rules}
use Rattle.files.specs.Refusals.{refuse}
use Rattle.timetable.specs.Timetable.{turns_refusal}
use Rattle.timetable.proofs.check_turns.Goals as goal

pub returns-then-not-contains : goal.returns-then-not-contains
unfolding turns_refusal refuse
returns-then-not-contains c = search rules

pub returns : goal.returns
unfolding turns_refusal refuse
returns c = search rules
