-- `files::headers::check_length` meets its contract: at each return the tests before it passed, and the one that led there decides.
use mathlib.Core.Path.{sym}
use native.Mathlib.Omega.{arith}
use Rattle.files.proofs.Frame.{too_short, too_long, length-passes}
use Rattle.files.proofs.headers.check_length.Goals as goal

pub returns-then-bytes-needed : goal.returns-then-bytes-needed
returns-then-bytes-needed c = sym (too_short _ _ (omega (arith, c.if-bytes-needed.true)))

pub returns-then-bytes-needed-2 : goal.returns-then-bytes-needed-2
returns-then-bytes-needed-2 c = sym (too_long _ _ (omega (arith, c.if-bytes-needed-2.true)))

pub returns : goal.returns
returns c = sym (length-passes _ _ (omega arith))
