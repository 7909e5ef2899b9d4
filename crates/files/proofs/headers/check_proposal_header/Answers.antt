-- `files::headers::check_proposal_header` meets its contract: at each return the tests before it passed, and the one that led there decides.
use mathlib.Core.Path.{sym}
use native.Mathlib.Omega.{arith}
use Rattle.files.proofs.Frame.{proposal-short, proposal-version, proposal-edges, proposal_passes}
use Rattle.files.proofs.headers.check_proposal_header.Goals as goal

pub returns-then-bytes-lt2 : goal.returns-then-bytes-lt2
returns-then-bytes-lt2 c = sym (proposal-short _ c.requires c.if-bytes-lt2.true)

pub returns-then-header-ne1 : goal.returns-then-header-ne1
returns-then-header-ne1 c = sym (proposal-version _ c.requires c.if-bytes-lt2.false c.if-header-ne1.true)

pub returns-then-header-gt256 : goal.returns-then-header-gt256
returns-then-header-gt256 c =
    sym (proposal-edges _ c.requires c.if-bytes-lt2.false c.if-header-ne1.false (omega (arith, c.if-header-gt256.true)))

pub returns : goal.returns
returns c =
    sym (proposal_passes _ c.requires c.if-bytes-lt2.false c.if-header-ne1.false (omega (arith, c.if-header-gt256.false)))
