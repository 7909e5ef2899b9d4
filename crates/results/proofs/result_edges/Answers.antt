-- `results::result_edges` meets its contract: the words hold between which processors paths lead, by which the edges on a cycle are stored, and behind
-- them the proposed ones.
use mathlib.Core.Path.{refl, ap, ◌∙◌}
use mathlib.Core.List.{List, ◌++◌}
use Prim.Native.Nat.{◌+◌}
use native.Mathlib.Omega.{arith}
use lib.ListN.{length}
use Rattle.model.specs.Tasks.{Edge}
use Rattle.records.specs.Columns.{edges_in}
use Rattle.results.specs.Results.{result_of}
use Rattle.results.proofs.Fronts.{held-result, behind, behind-room}
use Rattle.results.proofs.result_edges.Goals as goal

pub returns : goal.returns
unfolding result_of
returns c =
    let kept = c.keep_cyclic-kept.result in
    let list = c.keep_cyclic-kept.new.list in
    let proposed = c.args.proposed.now in
    let said = c.keep_cyclic-kept.ensures in
    let count = kept + length proposed in
    rw c.copy_from_slice.ensures.after
    (held-result (omega (arith, said.upper_bound.0, c.requires.edges_len_bound.1)) (behind-room kept count list proposed refl (omega (arith, said.upper_bound, c.requires.edges_len_bound.1)) ∙ said.upper_bound.1)
    (behind kept count list proposed refl (omega (arith, said.upper_bound)) ∙ ap (λ (es : List Edge). es ++ edges_in proposed) said.held))
