-- `sets::take_edges` meets its contract: after j steps the words hold the first j edges, once by their sources and once by their sinks.
use Rattle.sets.specs.Sets.{ZeroWords}
use Rattle.sets.proofs.take_edges.Given as goal

abbrev pub invariant-loop-e : goal.invariant-loop-e
invariant-loop-e l =
    ZeroWords (λ e. e.source) (λ e. e.sink) l.edges l.e-index l.sinks × ZeroWords (λ e. e.sink) (λ e. e.source) l.edges l.e-index l.sources
