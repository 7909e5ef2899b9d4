-- `layout::task_at` meets its contract: the parts of the record's 20 bits are the task's fields.
use native.Mathlib.Omega.{arith}
use Rattle.layout.proofs.Records.{processor-part, time-part, processor-below}
use Rattle.layout.proofs.task_at.Goals as goal

pub overflow_cast-result : goal.overflow_cast-result
overflow_cast-result c = omega (arith, processor-part _ _ _ c.field_from-record.ensures, processor-below c.args.bytes.now c.args.position)

pub returns : goal.returns
returns c = record { processor = processor-part _ _ _ c.field_from-record.ensures; time = time-part _ _ _ c.field_from-record.ensures }
