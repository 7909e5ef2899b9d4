-- What computes the numbers whose meaning Paths and Runs give. Nothing here has to be believed: each has a theorem that it is that
-- meaning (docs/THEOREMS.md).
use Rattle.std.specs.Prelude.{Bool, true, false, not, ◌&&◌, List, [], ◌∷◌, ℕ, zero, suc, ◌+◌, ◌-◌, ◌*◌, min, leb, ltb, eqb, length}
use Rattle.std.proofs.Math.Option.{Option, none, some}
use Rattle.model.specs.Lists.{keep, every, biggest, any_below}
use Rattle.model.specs.Tasks.{Edge}
use Rattle.model.specs.Graph.{Graph, count, edges, time_of}
use Rattle.model.specs.Paths.{edges_without, sync_at}
use Rattle.model.specs.Runs.{Times, ends, estimates}

-- the smaller of two delays; none counts as larger than every number
unfoldable pub lesser : Option ℕ → Option ℕ → Option ℕ
lesser (some a) (some b) = some (min a b)
lesser (some a) none = some a
lesser none y = y

-- the delay of two paths, one after the other; none if either is
unfoldable pub plus : Option ℕ → Option ℕ → Option ℕ
plus (some a) (some b) = some (a + b)
plus (some a) none = none
plus none y = none

-- the smallest delay of a list of edges
unfoldable pub shortest : List Edge → Option ℕ
unfolding lesser
shortest [] = none
shortest (e ∷ es) = lesser (some e.delay) (shortest es)

-- e leads from a to b
unfoldable pub joins : ℕ → ℕ → Edge → Bool
joins a b e = eqb e.source a && eqb e.sink b

-- least delay from a to b over the paths whose inner tasks are below k
unfoldable pub through : List Edge → ℕ → ℕ → ℕ → Option ℕ
unfolding shortest keep joins lesser plus
through es zero a b = shortest (keep (joins a b) es)
through es (suc k) a b = lesser (through es k a b) (plus (through es k a k) (through es k k b))

-- least delay from a to b in a graph of n tasks
unfoldable pub least_delay : ℕ → List Edge → ℕ → ℕ → Option ℕ
unfolding through
least_delay n es a b = through es n a b

-- a delay is at most k
unfoldable pub at_most : Option ℕ → ℕ → Bool
at_most (some d) k = leb d k
at_most none k = false

-- there is a delay
unfoldable pub present : Option ℕ → Bool
present (some d) = true
present none = false

-- the order of e holds in es
unfoldable pub order_holds : ℕ → List Edge → Edge → Bool
unfolding at_most least_delay
order_holds n es e = at_most (least_delay n es e.source e.sink) e.delay

-- synchronization edge number i (from 0) is redundant
unfoldable pub is_redundant : Graph → ℕ → Bool
unfolding order_holds edges_without sync_at
is_redundant g i = ltb i (length g.syncs) && order_holds (count g) (edges_without g i) (sync_at g i)

-- an edge of es lies on a cycle
unfoldable pub on_cycle : ℕ → List Edge → Edge → Bool
unfolding present least_delay
on_cycle n es e = present (least_delay n es e.sink e.source)

-- an edge of g is feedback
unfoldable pub is_feedback : Graph → Edge → Bool
unfolding on_cycle
is_feedback g e = on_cycle (count g) (edges g) e

-- a path of delay 0 leads from a to b
unfoldable pub zero_path : ℕ → List Edge → ℕ → ℕ → Bool
unfolding at_most least_delay
zero_path n es a b = at_most (least_delay n es a b) 0

-- there is a cycle of delay 0
unfoldable pub zero_cycle : ℕ → List Edge → Bool
unfolding any_below zero_path
zero_cycle n es = any_below n (λ v. zero_path n es v v)

-- e leads to v with delay 0
unfoldable pub into_at_once : ℕ → Edge → Bool
into_at_once v e = eqb e.sink v && eqb e.delay 0

unfoldable pub non_empty : List Edge → Bool
non_empty [] = false
non_empty (e ∷ es) = true

-- no edge of delay 0 leads to the latency input
unfoldable pub input_free : List Edge → ℕ → Bool
unfolding keep into_at_once non_empty
input_free es input = not (non_empty (keep (into_at_once input) es))

-- input and output differ, and a path of delay 0 leads from one to the other
unfoldable pub joined : ℕ → List Edge → ℕ → ℕ → Bool
unfolding zero_path
joined n es input output = not (eqb input output) && zero_path n es input output

-- same source, sink and delay
unfoldable pub same_edge : Edge → Edge → Bool
same_edge e f = eqb e.source f.source && (eqb e.sink f.sink && eqb e.delay f.delay)

-- no edge equals an earlier one
unfoldable pub distinct : List Edge → Bool
unfolding every same_edge
distinct [] = true
distinct (e ∷ es) = every (λ f. not (same_edge e f)) es && distinct es

-- e says something about turn k of v
unfoldable pub binds : ℕ → ℕ → Edge → Bool
binds v k e = eqb e.sink v && ltb e.delay k

-- when e lets turn k of its sink start
abbrev pub due : Times → Times → ℕ → Edge → ℕ
due start dur k e = ends start dur e.source (k - e.delay)

-- earliest start of turn k of v, looking back over at most f edges
unfoldable pub begin : List Edge → Times → ℕ → ℕ → ℕ → ℕ
unfolding biggest keep binds
begin es dur zero v k = 0
begin es dur (suc f) v k = biggest (due (begin es dur f) dur k) (keep (binds v k) es)

-- earliest start of turn k of v in a graph of n tasks
unfoldable pub earliest : ℕ → List Edge → Times → Times
unfolding begin
earliest n es dur v k = begin es dur (suc n * suc k) v k

-- latency: when the output's first turn ends at the estimates
unfoldable pub latency : ℕ → List Edge → (ℕ → ℕ) → ℕ → ℕ
unfolding earliest
latency n es time output = ends (earliest n es (estimates time)) (estimates time) output 1

-- latency of a graph
unfoldable pub latency_of : Graph → ℕ
unfolding latency
latency_of g = latency (count g) (edges g) (time_of g) g.output
