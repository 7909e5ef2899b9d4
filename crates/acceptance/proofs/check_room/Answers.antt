-- `acceptance::check_room` meets its contract: by the test of the room.
use mathlib.Core.Path.{sym}
use native.Mathlib.Omega.{arith}
use borrow.Author.Tests.{lt-ltb, le-ltb}
use Rattle.files.proofs.First.{refused, not-refused}
use Rattle.acceptance.specs.Outcomes.{room_refusal}
use Rattle.acceptance.proofs.check_room.Goals as goal

pub returns-then-room-needed : goal.returns-then-room-needed
unfolding room_refusal
returns-then-room-needed c = sym (refused 16 0 (lt-ltb _ _ (omega (arith, c.if-room-needed.true))))

pub returns : goal.returns
unfolding room_refusal
returns c = sym (not-refused 16 0 (le-ltb _ _ (omega (arith, c.if-room-needed.false))))
