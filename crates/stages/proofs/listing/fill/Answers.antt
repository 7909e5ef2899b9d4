-- `stages::listing::fill` meets its contract: the records copied are those of the stage's edges.
use mathlib.Core.Path.{◌≡◌, ap, ◌∙◌}
use mathlib.Core.List.{List, ◌++◌}
use native.Mathlib.Omega.{arith}
use lib.ListN.{length, drop}
use borrow.Author.Rules.{rules}
use Rattle.layout.specs.declared.EdgeRecord.{EdgeRecord}
use Rattle.stages.proofs.Listed.{listed-written}
use Rattle.stages.proofs.listing.fill.Goals as goal

pub returns : goal.returns
returns c =
    let stage = c.args.stage.now in
    let list = c.args.list.now in
    let room : length stage.edges ≡ 256 = search rules in
    ap (λ (rs : List EdgeRecord). rs ++ drop stage.count list) c.copy_from_slice.ensures.after
    ∙ listed-written stage.count stage.edges list (omega (arith, c.requires.1))
