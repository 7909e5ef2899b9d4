-- `judgement::check_lateness` meets its contract: the fronts of the lists hold the result's edges and the times, so the latency is the result's.
use mathlib.Core.Path.{refl, subst}
use mathlib.Core.Bool.{true, false}
use native.Mathlib.Omega.{arith}
use borrow.Author.Tests.{lt-ltb, le-ltb}
use Rattle.files.specs.Refusals.{refuse}
use Rattle.acceptance.proofs.Readings.{graph-within, times-filed, output-there, few-times}
use Rattle.judgement.specs.Judgement.{Judges}
use Rattle.judgement.proofs.Judging.{result-within, result-ends, late-judged, result-acyclic}
use Rattle.judgement.proofs.check_lateness.Goals as goal

pub slice_bounds-latency-end : goal.slice_bounds-latency-end
slice_bounds-latency-end c = result-within c.requires.accepted_reading c.requires.made.1

pub slice_bounds-latency-end-2 : goal.slice_bounds-latency-end-2
slice_bounds-latency-end-2 c = (graph-within c.requires.accepted_reading).time

pub latency-latency-requires : goal.latency-latency-requires
latency-latency-requires c =
    let graph = c.requires.accepted_reading in
    let made = c.requires.made.1 in
    record {
      time_len_bound = (few-times graph, output-there graph);
      ends = result-ends graph made;
      delay_value = result-acyclic graph made c.requires.made_value;
      file_times = times-filed graph;
    }

pub returns-then-graph-latency : goal.returns-then-graph-latency
unfolding refuse
returns-then-graph-latency c =
    subst (Judges _) (late-judged c.requires.accepted_reading c.requires.made.1 _ c.latency-latency.ensures true (lt-ltb _ _ c.if-graph-latency.true))
    (record { refusal = refl; latency = refl })

pub returns : goal.returns
unfolding refuse
returns c =
    subst (Judges _) (late-judged c.requires.accepted_reading c.requires.made.1 _ c.latency-latency.ensures false (le-ltb c.args.graph.bound c.latency-latency.result (omega (arith, c.if-graph-latency.false))))
    (record { refusal = refl; latency = refl })
