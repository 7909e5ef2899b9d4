-- `files::headers::check_zeros` meets its contract: at each return the tests before it passed, and the one that led there decides.
use mathlib.Core.Path.{sym}
use Rattle.files.proofs.Frame.{zeros-stop, zeros-pass}
use Rattle.files.proofs.headers.check_zeros.Goals as goal

pub returns-then-header-ne0 : goal.returns-then-header-ne0
returns-then-header-ne0 c = λ s is. sym (zeros-stop s is c.if-header-ne0.true)

pub returns : goal.returns
returns c = λ s is. sym (zeros-pass s is c.if-header-ne0.false)
