-- `reach::take_between` meets its contract: after j steps the words hold where the first j edges lead, between processors.
use mathlib.Core.Path.{sym, ap, ◌∙◌, subst}
use mathlib.Core.Bool.{◌||◌}
use mathlib.Core.List.{List}
use Prim.Native.Nat.{ℕ, ◌<◌}
use native.Mathlib.Omega.{arith}
use lib.Dec.{eqb}
use lib.ListN.{length, get_or, set, take}
use Rattle.std.specs.Prelude.{map}
use Rattle.std.proofs.lemmas.List.{map_more, map-append, take_all}
use Rattle.layout.specs.declared.EdgeRecord.{EdgeRecord}
use Rattle.model.specs.Tasks.{Edge, Ends}
use Rattle.records.specs.Columns.{at, edge_of, edges_in, no_record}
use Rattle.records.proofs.EdgesIn.{ends_at}
use Rattle.reach.specs.Reach.{bit_in, between, ReachesThrough}
use Rattle.reach.proofs.Rounds.{EdgesTaken, taken_none, taken_more, taken-all}
use Rattle.reach.proofs.take_between.Goals as goal

-- the ends of an edge are tasks, on processors below 16
module _ (edges : List EdgeRecord) (processor : List ℕ) (ends : Ends (length processor) (edges_in edges)) (few : (v : ℕ) → v < length processor → at processor v < 16) {j : ℕ} (below : j < length edges) where
  from_task : ((get_or edges j no_record).source < length processor) × (at processor (get_or edges j no_record).source < 16)
  from_task =
      let own = ends_at edges ends j below in
      (own.0, few (get_or edges j no_record).source own.0)

  to_task : ((get_or edges j no_record).sink < length processor) × (at processor (get_or edges j no_record).sink < 16)
  to_task =
      let own = ends_at edges ends j below in
      (own.1, few (get_or edges j no_record).sink own.1)

pub loop-e-init : goal.loop-e-init
loop-e-init c = taken_none c.args.words.now c.requires.words_value

pub processor_of-leaves-requires : goal.processor_of-leaves-requires
processor_of-leaves-requires c = (from_task c.args.edges.now c.args.processor.now c.requires.ends c.requires.by_index c.loop-e-test.true).0

pub processor_of-enters-requires : goal.processor_of-enters-requires
processor_of-enters-requires c = (to_task c.args.edges.now c.args.processor.now c.requires.ends c.requires.by_index c.loop-e-test.true).0

pub offset_bounds-words-leaves : goal.offset_bounds-words-leaves
offset_bounds-words-leaves c =
    omega (arith, c.processor_of-leaves.ensures, (from_task c.args.edges.now c.args.processor.now c.requires.ends c.requires.by_index c.loop-e-test.true).1)

pub bounds-words-leaves : goal.bounds-words-leaves
bounds-words-leaves c =
    omega (arith, c.processor_of-leaves.ensures, c.loop-e.invariant.room, (from_task c.args.edges.now c.args.processor.now c.requires.ends c.requires.by_index c.loop-e-test.true).1)

pub with_bit-requires : goal.with_bit-requires
with_bit-requires c =
    omega (arith, c.processor_of-enters.ensures, (to_task c.args.edges.now c.args.processor.now c.requires.ends c.requires.by_index c.loop-e-test.true).1)

pub offset_bounds-words-leaves-in-loop-e : goal.offset_bounds-words-leaves-in-loop-e
offset_bounds-words-leaves-in-loop-e c =
    omega (arith, c.processor_of-leaves.ensures, (from_task c.args.edges.now c.args.processor.now c.requires.ends c.requires.by_index c.loop-e-test.true).1)

pub bounds-words-leaves-in-loop-e : goal.bounds-words-leaves-in-loop-e
bounds-words-leaves-in-loop-e c =
    omega (arith, c.processor_of-leaves.ensures, c.loop-e.invariant.room, (from_task c.args.edges.now c.args.processor.now c.requires.ends c.requires.by_index c.loop-e-test.true).1)

pub loop-e-preserved : goal.loop-e-preserved
unfolding between edge_of
loop-e-preserved c =
    let edges = c.args.edges.now in
    let words = c.loop-e.words in
    let j = c.loop-e.e-index in
    let f = between c.args.processor.now in
    let e = f (edge_of (get_or edges j no_record)) in
    let from = from_task edges c.args.processor.now c.requires.ends c.requires.by_index c.loop-e-test.true in
    let more = ap (map f) (map_more edge_of edges j no_record c.loop-e-test.true) ∙ map-append f (edges_in (take j edges)) _ in
    let stored = λ (b : ℕ). c.with_bit.ensures b ∙ (λ i. bit_in words (c.processor_of-leaves.ensures i) b || eqb (c.processor_of-enters.ensures i) b) in
    rw c.processor_of-leaves.ensures
    (subst (λ (es : List Edge). EdgesTaken es (set words e.source c.with_bit.result)) (sym more)
    (taken_more (map f (edges_in (take j edges))) e c.with_bit.result c.loop-e.invariant from.1 stored))

pub returns : goal.returns
returns c =
    let edges = c.args.edges.now in
    let all = take_all c.loop-e.e-index edges (omega arith) in
    subst (λ (rs : List EdgeRecord). ReachesThrough 0 16 (map (between c.args.processor.now) (edges_in rs)) c.loop-e.words) all
    (taken-all c.loop-e.invariant (omega arith))
