-- When the table is given, and what its elements are: each is computed by a function of the model whose meaning the model proves, in the place that the rows
-- give it.
use mathlib.Core.Path.{◌≡◌, ◌∙◌}
use mathlib.Core.List.{List, [], ◌∷◌}
use Prim.Native.Nat.{ℕ, ◌*◌, ◌≤◌, ◌<◌, ◌+◌}
use native.Mathlib.Omega.{arith}
use lib.ListN.{length, get_or}
use Rattle.model.specs.Graph.{count, edges}
use Rattle.model.specs.Compute.{least_delay}
use Rattle.model.proofs.Theorems.{least-delay-is, least-bound}
use Rattle.records.proofs.Rows.{place-within}
use Rattle.files.specs.Files.{graph_of}
use Rattle.files.proofs.First.{stops, none-refused}
use Rattle.delays.specs.Delays.{entry}
use Rattle.delays.proofs.Table.{table-length, table_at}
use Rattle.acceptance.specs.Acceptance.{acceptance_refusal}
use Rattle.acceptance.specs.Outcomes.{room_refusal, tasks_of}
use Rattle.acceptance.proofs.AcceptedFiles.{accepted, between-tasks}
use Rattle.acceptance.proofs.Fronts.{graph-fit}
use Rattle.acceptance.proofs.Rooms.{accepted-given, accepted-short}
use Rattle.acceptance.proofs.Written.{written_at}
use Rattle.least_delays.specs.LeastDelays.{table_of, delays_refusal, delays_after}
use Rattle.least_delays.specs.Theorems.{DelaysGiven, DelaysShort, DelaysRefused, DelaysPlain, DelaysMean, DelaysSmall}

pub delays_given : DelaysGiven
unfolding delays_refusal
delays_given s room = accepted-given (tasks_of s * tasks_of s) room s

pub delays-short : DelaysShort
unfolding delays_refusal
delays-short s room = accepted-short (tasks_of s * tasks_of s) room s

pub delays-refused : DelaysRefused
unfolding delays_refusal
delays-refused s room some = stops (acceptance_refusal s) (room_refusal (tasks_of s * tasks_of s) room ∷ []) some

pub delays-plain : DelaysPlain
unfolding delays_refusal
delays-plain s room = none-refused _

pub table-long : (s : List ℕ) → length (table_of s) ≡ tasks_of s * tasks_of s
unfolding table_of
table-long s = table-length (tasks_of s) (edges (graph_of s))

-- the element of tasks a and b
delay-at :
    (s table : List ℕ) → (delays_refusal s (length table)).number ≡ 0 → (a b : ℕ) → a < tasks_of s → b < tasks_of s →
    get_or (delays_after s table) (a * tasks_of s + b) 0 ≡ entry (least_delay (tasks_of s) (edges (graph_of s)) a b)
unfolding delays_after table_of
delay-at s table none a b l k =
    let n = tasks_of s in
    let es = edges (graph_of s) in
    written_at 0 (delays_refusal s (length table)).number (n * n) (table_of s) table (table-long s) none (a * n + b) (place-within n n a b l k) ∙
    table_at n es a b l k

pub delays-mean : DelaysMean
delays-mean s table none a b l k =
    let n = tasks_of s in
    let es = edges (graph_of s) in
    let accepted = ((delays_given s (length table)).0 none).0 in
    (least_delay n es a b, least-delay-is n es (between-tasks s accepted) a b, delay-at s table none a b l k)

pub delays-small : DelaysSmall
delays-small s accepted a b d least =
    let formed = accepted.1.formed in
    let fit = graph-fit (graph_of s) formed in
    let few : count (graph_of s) ≤ 64 = formed.at_most_64 in
    let bound : d ≤ 255 * count (graph_of s) = least-bound (count (graph_of s)) 255 (edges (graph_of s)) fit.ends fit.delays a b d least in
    omega arith
