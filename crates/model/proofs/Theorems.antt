-- Every sentence of specs/Theorems.antt, proved: the index of the theory, each from the file that has the argument.
use Rattle.model.specs.Theorems.{LeastDelayIs, LeastUnique, RowLeast, OrderHoldsIs, OnCycleIs, ZeroCycleIs, InputFreeIs, JoinedIs, DistinctIs, RedundantIs, FeedbackIs, WithinProcessor, ProcessorEdgesAre, GraphSerial, EarliestRun, EarliestUnique, EarliestReached, NeverStallsIff, OrdersIff, OrderLost, LostIff, LatencyIs, LatencyUnique, FirstOutput, FirstOutputExact, MissesBoundIff, ResultHas, ResultDrops, ResultCycles, ResultNeverStalls, ResultOrders, ResultLost, ResultMisses, AcceptedResult, AcceptedIff, DroppedTogether, LeastBound, ZeroSumBound, StartBound}
use Rattle.model.proofs.Least
use Rattle.model.proofs.Tests
use Rattle.model.proofs.Bounds
use Rattle.model.proofs.Processors
use Rattle.model.proofs.Earliest
use Rattle.model.proofs.Orders
use Rattle.model.proofs.Latency
use Rattle.model.proofs.Starts
use Rattle.model.proofs.Graphs
use Rattle.model.proofs.Together
use Rattle.model.proofs.Results
use Rattle.model.proofs.Accepted

-- ── 1. Least delays ──

pub least-delay-is : LeastDelayIs
least-delay-is = Least.least-delay

pub least-unique : LeastUnique
least-unique es a b x y = Least.least-unique

pub row_least : RowLeast
row_least = Least.row_least

pub order-holds-is : OrderHoldsIs
order-holds-is n es bounds = Tests.order-holds bounds

pub on-cycle-is : OnCycleIs
on-cycle-is n es bounds = Tests.on-cycle bounds

pub zero-cycle-is : ZeroCycleIs
zero-cycle-is n es bounds = Tests.zero-cycle bounds

pub input-free-is : InputFreeIs
input-free-is = Tests.input-free

pub joined_is : JoinedIs
joined_is n es bounds = Tests.joined-by-path bounds

pub distinct-is : DistinctIs
distinct-is = Tests.distinct-decides

pub redundant-is : RedundantIs
redundant-is = Graphs.redundant-decides

pub feedback-is : FeedbackIs
feedback-is = Graphs.feedback-decides

pub processor-edges-are : ProcessorEdgesAre
processor-edges-are = Processors.processor-edges

pub graph-serial : GraphSerial
graph-serial = Graphs.graph-serial

-- ── 2. Runs ──

pub earliest-run : EarliestRun
earliest-run n es bounds acyclic = Earliest.earliest-run bounds acyclic

pub earliest-unique : EarliestUnique
earliest-unique n es K start start' dur = Earliest.earliest-unique

pub earliest-reached : EarliestReached
earliest-reached n es K start dur = Earliest.earliest-reached

pub never-stalls-iff : NeverStallsIff
never-stalls-iff = Earliest.stalls-iff

-- ── 3 and 4. Orders ──

pub orders-iff : OrdersIff
orders-iff n es rs bounds serial acyclic = Orders.orders-iff bounds serial acyclic

pub order_lost : OrderLost
order_lost n rs bounds acyclic = Orders.orders-lost bounds acyclic

pub lost-iff : LostIff
lost-iff n es rs bounds serial acyclic = Orders.lost-iff bounds serial acyclic

-- ── 5. Latency ──

pub latency_is : LatencyIs
latency_is = Latency.latency_is

pub latency-unique : LatencyUnique
latency-unique es time output l l' = Latency.latency-unique

pub first-output : FirstOutput
first-output n es bounds K start dur time output l h o run shorter lat = Latency.first-output bounds time output l h o run shorter lat

pub first-output-exact : FirstOutputExact
first-output-exact n es bounds K start time output = Latency.first-output-exact bounds time output

pub misses-bound-iff : MissesBoundIff
misses-bound-iff = Accepted.misses-bound-iff

-- ── 6. Results of proposals ──

pub result-has : ResultHas
result-has = Results.result-has

pub result-drops : ResultDrops
result-drops = Results.result-drops

pub within-processor : WithinProcessor
within-processor = Results.within-processor

pub result-cycles : ResultCycles
result-cycles = Results.result-cycles

pub result-never-stalls : ResultNeverStalls
result-never-stalls = Accepted.result-never-stalls

pub result-orders : ResultOrders
result-orders = Accepted.result-orders

pub result-lost : ResultLost
result-lost = Accepted.result-lost

pub result-misses : ResultMisses
result-misses = Accepted.result-misses

pub accepted-result : AcceptedResult
accepted-result = Accepted.accepted-result

pub accepted-iff : AcceptedIff
accepted-iff = Accepted.accepted-iff

-- ── 7. Redundant edges, dropped together ──

pub dropped-together : DroppedTogether
dropped-together g bounds acyclic distinct marked redundant = Together.dropped-together g bounds acyclic distinct marked redundant

-- ── Bounds ──

pub least-bound : LeastBound
least-bound = Bounds.least-bound

pub zero-sum-bound : ZeroSumBound
zero-sum-bound = Bounds.zero-sum-bound

pub start-bound : StartBound
start-bound n es bounds acyclic = Starts.start-bound bounds acyclic
