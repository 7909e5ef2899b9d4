-- `layout::proposal_header` meets its contract: each field is read where the reader stands, and the readers stand one behind another.
use Rattle.std.proofs.Common.{◌≡◌, arith}
use Rattle.layout.specs.Layout.{proposal_header}
use Rattle.layout.proofs.proposal_header.Goals as goal

pub returns : goal.returns
unfolding proposal_header
returns c =
    let at1 : c.advanced-r1.result.at ≡ 5 = omega arith in
    let at2 : c.advanced-r2.result.at ≡ 14 = omega arith in
    cc
