-- `layout::graph_header` meets its contract: each field is read where the reader stands, and the readers stand one behind another.
use Rattle.std.proofs.Common.{◌≡◌, arith}
use Rattle.layout.specs.Layout.{graph_header}
use Rattle.layout.proofs.graph_header.Goals as goal

pub returns : goal.returns
unfolding graph_header
returns c =
    let at1 : c.advanced-r1.result.at ≡ 5 = omega arith in
    let at2 : c.advanced-r2.result.at ≡ 12 = omega arith in
    let at3 : c.advanced-r3.result.at ≡ 21 = omega arith in
    let at4 : c.advanced-r4.result.at ≡ 27 = omega arith in
    let at5 : c.advanced-r5.result.at ≡ 33 = omega arith in
    cc
