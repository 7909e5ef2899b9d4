-- `bits::four_at` meets its contract: read as fields, each byte makes the field eight bits wider.
use mathlib.Core.Path.{refl}
use native.Mathlib.Omega.{arith}
use Rattle.bits.proofs.Laws.{field-byte, field_next}
use Rattle.bits.proofs.four_at.Goals as goal

pub returns : goal.returns
returns c =
    let bytes = c.args.bytes.now in
    let index = c.args.index in
    omega (
      arith,
      field-byte bytes index 8 0 (omega arith) refl,
      field_next bytes index 1 (omega arith),
      field_next bytes index 2 (omega arith),
      field_next bytes index 3 (omega arith),
    )
