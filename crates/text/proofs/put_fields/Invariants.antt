-- `text::put_fields` meets its contract. The loop's invariant: the numbers so far are put as fields.
use lib.ListN.{take}
use Rattle.text.specs.Text.{Appended}
use Rattle.text.proofs.Fields.{fields}
use Rattle.text.proofs.put_fields.Given as goal

abbrev pub invariant-loop-n : goal.invariant-loop-n
invariant-loop-n l = Appended l.at (fields (take l.n-index l.list)) l.initial.out l.out l.next
