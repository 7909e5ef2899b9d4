-- `layout::edge_at` meets its contract: the parts of the record's 20 bits are the edge's fields.
use native.Mathlib.Omega.{arith}
use Rattle.layout.proofs.Records.{source-part, sink-part, delay-part, source_below}
use Rattle.layout.proofs.edge_at.Goals as goal

pub overflow_cast-result : goal.overflow_cast-result
overflow_cast-result c = omega (arith, source-part _ _ _ c.field_from-record.ensures, source_below c.args.bytes.now c.args.position)

pub returns : goal.returns
returns c =
    record {
      source = source-part _ _ _ c.field_from-record.ensures;
      sink = sink-part _ _ _ c.field_from-record.ensures;
      delay = delay-part _ _ _ c.field_from-record.ensures;
    }
