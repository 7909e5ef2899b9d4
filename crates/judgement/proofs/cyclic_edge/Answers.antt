-- `judgement::cyclic_edge` meets its contract: no edge looked at so far has a path back, by the words, so the first that has is the first of all.
use mathlib.Core.Path.{◌≡◌, sym, ap, ◌∙◌, subst}
use mathlib.Core.Bool.{Bool}
use mathlib.Core.List.{List}
use Prim.Native.Nat.{ℕ, ◌<◌}
use native.Mathlib.Numerals.{add-one}
use native.Mathlib.Omega.{arith}
use lib.ListN.{length, get_or, length-map}
use borrow.Author.Count.{below_more}
use Rattle.layout.specs.declared.EdgeRecord.{EdgeRecord}
use Rattle.model.specs.Tasks.{Edge, Ends}
use Rattle.model.specs.Compute.{on_cycle}
use Rattle.records.specs.Columns.{at, edge_of, edges_in, no_record}
use Rattle.records.proofs.EdgesIn.{ends_at, edge-in-at}
use Rattle.reach.specs.Reach.{bit, ReachesOn}
use Rattle.files.specs.Files.{edge_in}
use Rattle.files.proofs.First.{found_first, found_nowhere}
use Rattle.judgement.specs.Searches.{first_cyclic}
use Rattle.judgement.proofs.cyclic_edge.Invariants.{NoneBack}
use Rattle.judgement.proofs.cyclic_edge.Goals as goal

-- the ends of an edge are tasks, on processors below 16
module _ (edges : List EdgeRecord) (processor : List ℕ) (ends : Ends (length processor) (edges_in edges)) {j : ℕ} (below : j < length edges) where
  abbrev e : EdgeRecord
  e = get_or edges j no_record

  source_below : e.source < length processor
  source_below = (ends_at edges ends j below).0

  sink_below : e.sink < length processor
  sink_below = (ends_at edges ends j below).1

  module _ (small : (v : ℕ) → v < length processor → at processor v < 16) {p : ℕ} where
    source-small : p ≡ at processor e.source → p < 16
    source-small is = subst (λ (k : ℕ). k < 16) (sym is) (small e.source source_below)

    sink-small : p ≡ at processor e.sink → p < 16
    sink-small is = subst (λ (k : ℕ). k < 16) (sym is) (small e.sink sink_below)

  -- whether it lies on a cycle, by the bit of its processors
  back :
      {words : List ℕ} {from to : ℕ} {b : Bool} → from ≡ at processor e.source → to ≡ at processor e.sink → b ≡ bit (get_or words to 0) from
      → (rs : List Edge) → ReachesOn (length processor) rs processor words → on_cycle (length processor) rs (edge_in (edges_in edges) j) ≡ b
  unfolding on_cycle edge_in edge_of
  back {words} {from} {to} {b} from-is to_is b_is rs is =
      ap (on_cycle (length processor) rs) (edge-in-at edges j) ∙
      (sym (is.paths e.sink e.source sink_below source_below) ∙ ((λ i. bit (get_or words (sym to_is i) 0) (sym from-is i)) ∙ sym b_is))

pub processor_of-from-requires : goal.processor_of-from-requires
processor_of-from-requires c = source_below c.args.edges.now c.args.processor.now c.requires.ends (omega (arith, c.loop-j-test.true))

pub processor_of-to-requires : goal.processor_of-to-requires
processor_of-to-requires c = sink_below c.args.edges.now c.args.processor.now c.requires.ends (omega (arith, c.loop-j-test.true))

pub leads_to-requires : goal.leads_to-requires
leads_to-requires c =
    let to = sink-small c.args.edges.now c.args.processor.now c.requires.ends (omega (arith, c.loop-j-test.true)) c.requires.by_index c.processor_of-to.ensures in
    let from = source-small c.args.edges.now c.args.processor.now c.requires.ends (omega (arith, c.loop-j-test.true)) c.requires.by_index c.processor_of-from.ensures in
    (omega (arith, to, from, c.requires.edges_len_bound.1), omega (arith, to, from))

pub returns-then-leads_to : goal.returns-then-leads_to
unfolding first_cyclic
returns-then-leads_to c =
    let edges = c.args.edges.now in
    let j = c.loop-j.j in
    λ rs is.
    ap (λ (k : ℕ). record { number = 13; place = k }) (add-one j) ∙
    sym (found_first (length (edges_in edges)) 13 (λ i. on_cycle (length c.args.processor.now) rs (edge_in (edges_in edges) i)) (λ z. omega arith) j
    (subst (λ (n : ℕ). j < n) (sym (length-map edges edge_of)) c.loop-j-test.true)
    (λ i earlier. c.loop-j.invariant i earlier rs is)
    (back edges c.args.processor.now c.requires.ends c.loop-j-test.true c.processor_of-from.ensures c.processor_of-to.ensures c.leads_to.ensures rs is ∙ c.if-leads_to.true))

pub loop-j-preserved : goal.loop-j-preserved
loop-j-preserved c =
    below_more (NoneBack c.args.edges.now c.args.processor.now c.args.words.now) c.loop-j.j c.loop-j.invariant
    (λ rs is.
    back c.args.edges.now c.args.processor.now c.requires.ends c.loop-j-test.true c.processor_of-from.ensures c.processor_of-to.ensures c.leads_to.ensures rs is
    ∙ c.if-leads_to.false)

pub returns : goal.returns
unfolding first_cyclic
returns c =
    let edges = c.args.edges.now in
    λ rs is.
    sym (found_nowhere (length (edges_in edges)) 13 (λ i. on_cycle (length c.args.processor.now) rs (edge_in (edges_in edges) i))
    (λ i below. c.loop-j.invariant i (omega (arith, below, length-map edges edge_of, c.loop-j-test.false)) rs is))
