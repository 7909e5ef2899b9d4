-- `records::find_next` meets its contract: what the lists say of the tasks from v on is carried to the task before (`firsts_more`, `nexts-more`).
use Rattle.records.specs.Nexts.{FirstTasks, NextTasks}
use Rattle.records.proofs.Nexts.{Told}
use Rattle.records.proofs.find_next.Given as goal

abbrev pub invariant-loop-v : goal.invariant-loop-v
invariant-loop-v l =
    NextTasks l.processor l.v l.next ×
    FirstTasks l.processor l.v l.first ×
    Told l.processor l.first
