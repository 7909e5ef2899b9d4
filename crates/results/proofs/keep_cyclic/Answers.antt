-- `results::keep_cyclic` meets its contract: after j steps the list holds those of the first j edges that lie on a cycle, at most j. The edge of a step
-- is stored behind them, and counts if it does.
use mathlib.Core.Path.{refl, sym, ap, ◌∙◌}
use mathlib.Core.List.{List}
use native.Mathlib.Omega.{arith}
use lib.ListN.{length, get_or, take, length-set}
use Rattle.std.proofs.lemmas.List.{map_more, take_all}
use Rattle.layout.specs.declared.EdgeRecord.{EdgeRecord}
use Rattle.model.specs.Lists.{keep}
use Rattle.model.specs.Compute.{on_cycle}
use Rattle.records.specs.Columns.{edge_of, edges_in, no_record}
use Rattle.records.proofs.EdgesIn.{ends_at}
use Rattle.reach.specs.Reach.{bit}
use Rattle.results.specs.Results.{cyclic}
use Rattle.results.proofs.Fronts.{kept_more, counted-one}
use Rattle.results.proofs.keep_cyclic.Goals as goal

pub loop-e-init : goal.loop-e-init
unfolding keep
loop-e-init c = (omega arith, c.requires.room, refl)

pub processor_of-from-requires : goal.processor_of-from-requires
processor_of-from-requires c = (ends_at c.args.edges.now c.requires.fit.ends c.loop-e.e-index c.loop-e-test.true).1

pub processor_of-to-requires : goal.processor_of-to-requires
processor_of-to-requires c = (ends_at c.args.edges.now c.requires.fit.ends c.loop-e.e-index c.loop-e-test.true).0

pub leads_to-requires : goal.leads_to-requires
leads_to-requires c =
    let edges = c.args.edges.now in
    let j = c.loop-e.e-index in
    let ends = ends_at edges c.requires.fit.ends j c.loop-e-test.true in
    let from = c.requires.edges_len_bound.1 (get_or edges j no_record).sink ends.1 in
    let to = c.requires.edges_len_bound.1 (get_or edges j no_record).source ends.0 in
    (omega (arith, from, c.processor_of-from.ensures, to, c.processor_of-to.ensures, c.requires.reaches_on.room), omega (arith, from, c.processor_of-from.ensures, to, c.processor_of-to.ensures))

pub loop-e-preserved : goal.loop-e-preserved
unfolding on_cycle edge_of
loop-e-preserved c =
    let edges = c.args.edges.now in
    let list = c.loop-e.list in
    let kept = c.loop-e.kept in
    let j = c.loop-e.e-index in
    let r = get_or edges j no_record in
    let ends = ends_at edges c.requires.fit.ends j c.loop-e-test.true in
    let t = on_cycle (length c.args.processor.now) (edges_in edges) in
    let inv = c.loop-e.invariant in
    let said =
    c.leads_to.ensures ∙
    ((λ i. bit (get_or c.args.words.now (c.processor_of-from.ensures i) 0) (c.processor_of-to.ensures i)) ∙ c.requires.reaches_on.paths r.sink r.source ends.1 ends.0) in (
      omega (arith, inv.0, c.from-kept.ensures, counted-one c.leads_to.result),
      length-set list kept r ∙ inv.1,
      kept_more t (edges_in (take j edges)) list r c.leads_to.result (sym said) c.from-kept.ensures inv.2 (omega (arith, c.requires.edges_len_bound.0, inv.0, inv.1))
          ∙ ap (keep t) (sym (map_more edge_of edges j no_record c.loop-e-test.true)),
    )

pub returns-clause-held : goal.returns-clause-held
unfolding cyclic
returns-clause-held c =
    let edges = c.args.edges.now in
    let t = on_cycle (length c.args.processor.now) (edges_in edges) in
    c.loop-e.invariant.2 ∙ ap (λ (rs : List EdgeRecord). keep t (edges_in rs)) (take_all c.loop-e.e-index edges (omega arith))
