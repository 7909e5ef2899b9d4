-- `files::headers::check_header_ends` meets its contract: at each return the tests before it passed, and the one that led there decides.
use mathlib.Core.Path.{sym}
use native.Mathlib.Omega.{arith}
use Rattle.files.proofs.Frame.{input-stops, output-stops, header-ends-pass}
use Rattle.files.proofs.headers.check_header_ends.Goals as goal

pub returns-then-header : goal.returns-then-header
returns-then-header c = λ s is. sym (input-stops s is (omega (arith, c.if-header.true)))

pub returns-then-header-2 : goal.returns-then-header-2
returns-then-header-2 c = λ s is. sym (output-stops s is (omega (arith, c.if-header-2.true)))

pub returns : goal.returns
returns c = λ s is. sym (header-ends-pass s is (omega (arith, c.if-header.false)) (omega (arith, c.if-header-2.false)))
