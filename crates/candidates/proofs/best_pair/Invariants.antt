-- `candidates::best_pair` meets its contract: after a steps the pair is the best of those out of the first a tasks. A task whose counts do not exceed
-- what the best pair subsumes, as far as they are in time, has no better one.
use Rattle.candidates.specs.Candidates.{worth_in}
use Rattle.candidates.specs.Searches.{BestSoFar}
use Rattle.candidates.proofs.best_pair.Given as goal

abbrev pub invariant-loop-a : goal.invariant-loop-a
invariant-loop-a l = BestSoFar l.tasks (worth_in l.counts l.to l.end l.latest) l.a 0 l.best
