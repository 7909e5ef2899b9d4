-- What the code of `judge` finds is the judgement. The fronts of the working lists hold the graph's and the proposed edges, that of the result's list
-- its edges, so the searches by their paths and their delays find what the tests of 13 and 14 say.
use mathlib.Core.Path.{◌≡◌, refl, sym, ap, ◌∙◌, subst}
use mathlib.Core.Logic.{◌⊎◌, inl, inr, ◌≢◌}
use mathlib.Core.Bool.{Bool, false, not}
use mathlib.Core.List.{List}
use Prim.Native.Nat.{ℕ, suc, ◌-◌, ◌≤◌, ◌<◌}
use native.Mathlib.Nat.{sub-zero}
use native.Mathlib.Omega.{arith}
use lib.Dec.{ltb}
use lib.ListN.{length, get_or, take}
use lib.Seq.{get_or-take}
use borrow.Author.Tests.{lt-ltb, le-ltb}
use Rattle.std.proofs.Common.{Result, Err}
use Rattle.std.specs.Result.{IsErrAnd}
use Rattle.std.proofs.lemmas.Result.{err_from_is_err_and}
use Rattle.model.specs.Lists.{counted}
use Rattle.model.specs.Tasks.{Edge, ◌∈◌, Ends, processor_of}
use Rattle.model.specs.Processors.{processor_edges}
use Rattle.model.specs.Graph.{Graph, WellFormed, count, edges, time_of}
use Rattle.model.specs.Paths.{NoneOnCycle, sync_at}
use Rattle.model.specs.Compute.{order_holds, latency, latency_of, zero_cycle}
use Rattle.model.specs.Proposals.{result}
use Rattle.model.proofs.Processors.{processor-around}
use Rattle.model.proofs.Basics.{order}
use Rattle.model.proofs.Walks.{path-re-base}
use Rattle.model.proofs.Graphs.{processor-edge-in}
use Rattle.model.proofs.Results.{result-processor}
use Rattle.layout.specs.declared.EdgeRecord.{EdgeRecord}
use Rattle.records.specs.Columns.{record_of, edges_in, at}
use Rattle.records.proofs.Fill.{length-tabulate, get_d_tabulate}
use Rattle.records.proofs.Ordered.{edges-count, sync-place}
use Rattle.files.specs.declared.Fault.{Fault}
use Rattle.files.specs.declared.Fault.TheVariants.{Late}
use Rattle.files.specs.declared.Refusal.{Refusal}
use Rattle.files.specs.Files.{edge_in, first_of}
use Rattle.files.specs.Refusals.{refuse, not_refused, refusal_of}
use Rattle.files.proofs.First.{number_same, number-found, handed_back, fault-number}
use Rattle.readings.specs.declared.GraphReading.{GraphReading}
use Rattle.readings.specs.declared.ProposalReading.{ProposalReading}
use Rattle.readings.specs.Working.{working_graph, working_proposal, graph_in, proposed_in}
use Rattle.readings.proofs.Held.{working-edges-hold}
use Rattle.reach.specs.Reach.{Circled, ReachesOn}
use Rattle.delays.specs.Delays.{Fit}
use Rattle.results.specs.declared.ResultEdges.{ResultEdges}
use Rattle.results.specs.Results.{result_in, result_of, HeldResult}
use Rattle.results.proofs.Results.{result-edges-are}
use Rattle.acceptance.specs.Acceptance.{AcceptedReading}
use Rattle.acceptance.proofs.Fronts.{front, front_edges, lent}
use Rattle.acceptance.proofs.Readings.{front_length, graph-fronts, few-tasks, original-fit}
use Rattle.judgement.specs.Judgement.{cycle_refusal, lost_refusal, judged_refusal, tells_latency, Judgement, judgement, latency_told, Judges}
use Rattle.judgement.specs.Searches.{first_cyclic, lost_from, Judgeable, Made, lost_in, late_in}
use Rattle.judgement.proofs.Chain.{cycles_searched, orders_searched, stops-13, stops-14, stops-15, passed}
use Rattle.judgement.proofs.Tested.{result-fit, cycles-found, off-cycles-pass, passed-off-cycles, orders-found, held-pass, passed-held, zero-cycle-false}

-- ── The proposed edges, and the result's, in lists ──

-- the edges that the front of a proposal's list holds
abbrev pub front_proposed : ProposalReading → List Edge
front_proposed p = edges_in (front p.edges p.proposed)

-- the edges that the front of a result's list holds
abbrev pub front_result : ResultEdges → List Edge
front_result r = edges_in (front r.count r.edges)

pub record ProposedFronts (proposed : List Edge) (p : ProposalReading) : Type 0 where
  pub edges_are : p.edges ≡ length proposed
  pub room : length p.proposed ≡ 256
  pub held : front_proposed p ≡ proposed

-- the front of proposed edges in their working form holds them
working-proposed : (proposed : List Edge) → length proposed ≤ 256 → ProposedFronts proposed (working_proposal proposed)
unfolding working_proposal
working-proposed proposed few =
    record {
      edges_are = refl;
      room = length-tabulate 256 (λ i. record_of (edge_in proposed i));
      held =
          lent (λ (rs : List EdgeRecord). edges_in rs ≡ proposed) (length proposed) (working_proposal proposed).proposed
          (working-edges-hold proposed few).proposed;
    }

-- ── Faults without latency ──

-- 15 is a late proposal, and nothing else tells a latency
pub late-or-not : (fault : Fault) → ((latency : ℕ) × (fault ≡ Late latency)) ⊎ (((refusal_of fault).number ≢ 15) × (latency_told (Err fault) ≡ 0))
late-or-not (Late latency) = inl (latency, refl)
late-or-not fault = inr ((λ z. omega arith), refl)

no-latency : (fault : Fault) → (refusal_of fault).number ≢ 15 → latency_told (Err fault) ≡ 0
no-latency fault other = go (late-or-not fault)
  where
    go : ((latency : ℕ) × (fault ≡ Late latency)) ⊎ (((refusal_of fault).number ≢ 15) × (latency_told (Err fault) ≡ 0)) → latency_told (Err fault) ≡ 0
    go (inl late) = absurd (other (ap (λ (f : Fault). (refusal_of f).number) late.1))
    go (inr none) = none.1

-- what a `?` hands back of a fault other than 15
fault-judges :
    (answer : Result ℕ Fault) (fault : Fault) {j : Judgement} → IsErrAnd answer (λ f. f ≡ fault) → (refusal_of fault).number ≢ 15 →
    record { refusal = refusal_of fault; latency = 0 } ≡ j → Judges answer j
fault-judges answer fault is other same =
    let p = err_from_is_err_and answer is in
    subst (Judges answer) same
    (record { refusal = handed_back answer fault is; latency = ap latency_told p.1 ∙ (ap (λ (f : Fault). latency_told (Err f)) p.2 ∙ no-latency fault other) })

-- ── An accepted graph in its working form ──

module _ {graph : GraphReading} (given : AcceptedReading graph) where
  abbrev g : Graph
  g = graph_in graph

  well : WellFormed g
  well = given.accepted.formed

  -- ── The processors ──

  abbrev processor : List ℕ
  processor = front graph.tasks graph.processor

  pub as-many-processors : length processor ≡ graph.tasks
  unfolding working_graph
  as-many-processors =
      front_length graph.tasks graph.processor (ap (λ (r : GraphReading). length r.processor) given.working ∙ length-tabulate 64 (processor_of g.tasks))
      (few-tasks given)

  pub processors-within : graph.tasks ≤ length graph.processor
  unfolding working_graph
  processors-within =
      omega (arith, few-tasks given, ap (λ (r : GraphReading). length r.processor) given.working ∙ length-tabulate 64 (processor_of g.tasks))

  processor-is : (v : ℕ) → v < graph.tasks → at processor v ≡ processor_of g.tasks v
  unfolding at working_graph
  processor-is v below =
      ap (λ (k : ℕ). get_or (take k graph.processor) v 0) (sub-zero graph.tasks) ∙
      (get_or-take graph.tasks graph.processor v 0 below ∙
      (ap (λ (r : GraphReading). get_or r.processor v 0) given.working ∙ get_d_tabulate 64 (processor_of g.tasks) 0 v (omega (arith, few-tasks given))))

  pub processors-small : (v : ℕ) → v < length processor → at processor v < 16
  processors-small v below =
      let inside : v < graph.tasks = subst (λ (k : ℕ). v < k) as-many-processors below in
      subst (λ (k : ℕ). k < 16) (sym (processor-is v inside)) (well.processors v (omega (arith, (graph-fronts given).tasks-are)))

  -- processor edges lead around
  circled : (es : List Edge) → ((e : Edge) → e ∈ processor_edges g.tasks → e ∈ es) → Circled (length processor) es processor
  circled es all a b l k same =
      let la : a < graph.tasks = subst (λ (i : ℕ). a < i) as-many-processors l in
      let lb : b < graph.tasks = subst (λ (i : ℕ). b < i) as-many-processors k in
      (1, path-re-base all (processor-around g.tasks a b (omega (arith, (graph-fronts given).tasks-are)) (omega (arith, (graph-fronts given).tasks-are)) (sym (processor-is a la) ∙ (same ∙ processor-is b lb))))

  pub graph-circled : Circled (length processor) (front_edges graph) processor
  graph-circled = circled (front_edges graph) (λ e m. subst (λ (es : List Edge). e ∈ es) (sym (graph-fronts given).held) (processor-edge-in g m))

  pub fit-by-processors : Fit (length processor) (front_edges graph)
  fit-by-processors = subst (λ (n : ℕ). Fit n (front_edges graph)) (sym as-many-processors) (original-fit given)

  -- ── The edges of a result in a list ──

  module _ {proposed : List Edge} {r : ResultEdges} (made : Made graph proposed r) where
    pub result-held : front_result r ≡ edges (result g proposed)
    unfolding result_in
    result-held = lent (λ (rs : List EdgeRecord). edges_in rs ≡ edges (result g proposed)) r.count r.edges made.held.held

    pub held-fit : Fit graph.tasks (front_result r)
    held-fit =
        subst (λ (es : List Edge). Fit graph.tasks es) (sym result-held)
        (subst (λ (n : ℕ). Fit n (edges (result g proposed))) (sym (graph-fronts given).tasks-are) (result-fit g proposed well made.formed))

    -- where the paths of the list lead, those of the result do
    pub result-reached :
        {words : List ℕ} → ReachesOn (length processor) (front_result r) processor words → ReachesOn (length processor) (edges (result g proposed)) processor words
    result-reached {words} reached = subst (λ (es : List Edge). ReachesOn (length processor) es processor words) result-held reached

    pub result-circled : Circled (length processor) (front_result r) processor
    result-circled = circled (front_result r) (λ e m. subst (λ (es : List Edge). e ∈ es) (sym result-held) (result-processor g proposed m))

    pub result-joins : Ends (length processor) (front_result r)
    result-joins = subst (λ (n : ℕ). Ends n (front_result r)) (sym as-many-processors) held-fit.ends

    pub result-within : r.count ≤ length r.edges
    result-within = omega (arith, made.held.few, made.held.room)

    pub result-ends : Ends (length (front graph.tasks graph.time)) (front_result r)
    result-ends = subst (λ (n : ℕ). Ends n (front_result r)) ((graph-fronts given).tasks-are ∙ sym (graph-fronts given).as-many-times) held-fit.ends

    -- ── 14, by this list ──

    pub lost-is : lost_from graph.tasks (front_result r) (front_edges graph) ≡ lost_in g (result_in r)
    unfolding lost_from lost_in edge_in sync_at
    lost-is =
        let size : length (edges g) - count g ≡ length g.syncs = omega (arith, edges-count g) in
        (λ i. lost_from ((graph-fronts given).tasks-are i) ((result-held ∙ sym made.held.held) i) ((graph-fronts given).held i)) ∙
        (λ i. first_of (size i) (λ j. refuse (not (order_holds (count g) (result_in r) (sync-place g j i))) 14 (suc j)))

    -- ── 15 ──

    late_is :
        latency (length (front graph.tasks graph.time)) (front_result r) (at (front graph.tasks graph.time)) graph.output
        ≡ latency (count g) (result_in r) (time_of g) g.output
    late_is =
        λ i. latency ((graph-fronts given).as-many-times i) ((result-held ∙ sym made.held.held) i) ((graph-fronts given).times_are i) ((graph-fronts given).output_is i)

    pub late-judged :
        (l : ℕ) → l ≡ latency (length (front graph.tasks graph.time)) (front_result r) (at (front graph.tasks graph.time)) graph.output →
        (b : Bool) → ltb graph.bound l ≡ b → record { refusal = refuse b 15 0; latency = l } ≡ late_in g (result_in r)
    unfolding late_in
    late-judged l is b test =
        (λ i. record { refusal = refuse (sym test i) 15 0; latency = l }) ∙
        (λ i. record { refusal = refuse (ltb ((graph-fronts given).bound_is i) ((is ∙ late_is) i)) 15 0; latency = (is ∙ late_is) i })

    pub result-acyclic :
        zero_cycle (count g) (result_in r) ≡ false → zero_cycle (length (front graph.tasks graph.time)) (front_result r) ≡ false
    result-acyclic none = (λ i. zero_cycle ((graph-fronts given).as-many-times i) ((result-held ∙ sym made.held.held) i)) ∙ none

-- ── Proposed edges beside it ──

module _ {graph : GraphReading} {proposal : ProposalReading} (judgeable : Judgeable graph proposal) where
  abbrev given : AcceptedReading graph
  given = judgeable.accepted

  abbrev proposed : List Edge
  proposed = proposed_in proposal

  pub proposed-fronts : ProposedFronts proposed proposal
  proposed-fronts = subst (λ (p : ProposalReading). ProposedFronts proposed p) (sym judgeable.working) (working-proposed proposed judgeable.formed.few)

  pub few-proposed : proposal.edges ≤ 256
  few-proposed = omega (arith, proposed-fronts.edges_are, judgeable.formed.few)

  -- the result as it is made by processors is the graph's
  pub made-by-processors :
      {r : ResultEdges} → HeldResult r (result_of (length (processor given)) (front_edges graph) (front_proposed proposal)) →
      HeldResult r (edges (result (graph_in graph) proposed))
  made-by-processors {r} made =
      let f = graph-fronts given in
      subst (λ (es : List Edge). HeldResult r es)
      ((λ i. result_of ((as-many-processors given ∙ f.tasks-are) i) (f.held i) (proposed-fronts.held i)) ∙
      result-edges-are (graph_in graph) given.accepted.formed.syncs_formed.ends proposed)
      made

  pub proposed_ends : Ends (length (processor given)) (front_proposed proposal)
  proposed_ends =
      subst (λ (es : List Edge). Ends (length (processor given)) es) (sym proposed-fronts.held)
      (subst (λ (n : ℕ). Ends n proposed) (sym (as-many-processors given ∙ (graph-fronts given).tasks-are)) judgeable.formed.ends)

  pub proposed-within : proposal.edges ≤ length proposal.proposed
  proposed-within = omega (arith, few-proposed, proposed-fronts.room)

  pub few-lent : length (front proposal.edges proposal.proposed) ≤ 256
  few-lent = omega (arith, front_length proposal.edges proposal.proposed refl proposed-within, few-proposed)

  -- ── 13 ──

  pub cycle-is :
      first_cyclic (length (processor given)) (edges (result (graph_in graph) proposed)) (front_proposed proposal) ≡ cycles_searched (graph_in graph) proposed
  unfolding first_cyclic cycle_refusal
  cycle-is =
      λ i. first_cyclic ((as-many-processors given ∙ (graph-fronts given).tasks-are) i) (edges (result (graph_in graph) proposed)) (proposed-fronts.held i)

  -- ── The chain ──

  -- a judgement from its refusal
  judged : {refusal : Refusal} → judged_refusal (graph_in graph) proposed ≡ refusal → (l : ℕ) →
      l ≡ counted (tells_latency refusal.number) (latency_of (result (graph_in graph) proposed)) → record { refusal = refusal; latency = l } ≡ judgement (graph_in graph) proposed
  unfolding judgement
  judged {refusal} is l told =
      (λ i. record { refusal = refusal; latency = told i }) ∙
      (λ i. record { refusal = sym is i; latency = counted (tells_latency (sym is i).number) (latency_of (result (graph_in graph) proposed)) })

  module _ {cycle : Refusal} (is : cycle ≡ cycles_searched (graph_in graph) proposed) where
    pub no-cycle : cycle.number ≡ 0 → NoneOnCycle (edges (result (graph_in graph) proposed)) proposed
    no-cycle none = passed-off-cycles (graph_in graph) proposed given.accepted.formed judgeable.formed (number_same (sym is) ∙ none)

    judged-13 : cycle.number ≢ 0 → (cycle.number ≡ 13) × (record { refusal = cycle; latency = 0 } ≡ judgement (graph_in graph) proposed)
    unfolding counted tells_latency
    judged-13 some =
        let thirteen = number_same is ∙ number-found (cycles-found (graph_in graph) proposed given.accepted.formed judgeable.formed) (λ none. some (number_same is ∙ none)) in (
          thirteen,
          judged (stops-13 (graph_in graph) proposed (sym is) some) 0
              (ap (λ (m : ℕ). counted (tells_latency m) (latency_of (result (graph_in graph) proposed))) (sym thirteen)),
        )

  pub judges-13 :
      (answer : Result ℕ Fault) (fault : Fault) → IsErrAnd answer (λ f. f ≡ fault) → refusal_of fault ≡ cycles_searched (graph_in graph) proposed →
      Judges answer (judgement (graph_in graph) proposed)
  judges-13 answer fault back is =
      let told = judged-13 is (fault-number fault) in
      fault-judges answer fault back (λ late. omega (arith, late, told.0)) told.1

  module _ {r : ResultEdges} (held : HeldResult r (edges (result (graph_in graph) proposed))) where
    pub made : Made graph proposed r
    made = record { formed = judgeable.formed; held = held }

    pub off_cycles : NoneOnCycle (edges (result (graph_in graph) proposed)) proposed → zero_cycle (count (graph_in graph)) (result_in r) ≡ false
    off_cycles off =
        ap (λ (es : List Edge). zero_cycle (count (graph_in graph)) es) held.held ∙ zero-cycle-false (graph_in graph) proposed given.accepted judgeable.formed off

    module _ {lost : Refusal} (off : NoneOnCycle (edges (result (graph_in graph) proposed)) proposed) (is : lost ≡ lost_in (graph_in graph) (result_in r)) where
      off-cycle : cycles_searched (graph_in graph) proposed ≡ not_refused
      off-cycle = off-cycles-pass (graph_in graph) proposed given.accepted.formed judgeable.formed off

      first-is : orders_searched (graph_in graph) proposed ≡ lost
      unfolding lost_refusal lost_in
      first-is = sym (is ∙ ap (lost_in (graph_in graph)) held.held)

      judged-14 : lost.number ≢ 0 → (lost.number ≡ 14) × (record { refusal = lost; latency = 0 } ≡ judgement (graph_in graph) proposed)
      unfolding counted tells_latency
      judged-14 some =
          let fourteen = number_same (sym first-is) ∙ number-found (orders-found (graph_in graph) proposed given.accepted.formed judgeable.formed) (λ none. some (number_same (sym first-is) ∙ none)) in (
            fourteen,
            judged (stops-14 (graph_in graph) proposed off-cycle first-is some) 0
                (ap (λ (m : ℕ). counted (tells_latency m) (latency_of (result (graph_in graph) proposed))) (sym fourteen)),
          )

      module _ (kept : lost.number ≡ 0) where
        nothing-lost : orders_searched (graph_in graph) proposed ≡ not_refused
        nothing-lost =
            held-pass (graph_in graph) proposed given.accepted.formed judgeable.formed
            (passed-held (graph_in graph) proposed given.accepted.formed judgeable.formed (number_same first-is ∙ kept))

        abbrev l : ℕ
        l = latency_of (result (graph_in graph) proposed)

        -- by the test of the bound
        last-is : {b : Bool} → ltb (graph_in graph).bound l ≡ b → late_in (graph_in graph) (result_in r) ≡ record { refusal = refuse b 15 0; latency = l }
        unfolding late_in latency_of result time_of
        last-is above =
            (λ i. record { refusal = refuse (ltb (graph_in graph).bound (latency (count (graph_in graph)) (held.held i) (time_of (graph_in graph)) (graph_in graph).output)) 15 0; latency = latency (count (graph_in graph)) (held.held i) (time_of (graph_in graph)) (graph_in graph).output }) ∙
            (λ i. record { refusal = refuse (above i) 15 0; latency = l })

        judged-last : late_in (graph_in graph) (result_in r) ≡ judgement (graph_in graph) proposed
        unfolding refuse counted tells_latency
        judged-last = go (order l (graph_in graph).bound)
          where
            go : (l ≤ (graph_in graph).bound) ⊎ ((graph_in graph).bound < l) → late_in (graph_in graph) (result_in r) ≡ judgement (graph_in graph) proposed
            go (inl within) = last-is (le-ltb (graph_in graph).bound l within) ∙ judged (passed (graph_in graph) proposed off-cycle nothing-lost within) l refl
            go (inr above) = last-is (lt-ltb (graph_in graph).bound l above) ∙ judged (stops-15 (graph_in graph) proposed off-cycle nothing-lost above) l refl

        pub judges-last : {answer : Result ℕ Fault} → Judges answer (late_in (graph_in graph) (result_in r)) → Judges answer (judgement (graph_in graph) proposed)
        judges-last {answer} late = subst (Judges answer) judged-last late

    pub judges-14 :
        (answer : Result ℕ Fault) (fault : Fault) → IsErrAnd answer (λ f. f ≡ fault) → NoneOnCycle (edges (result (graph_in graph) proposed)) proposed →
        refusal_of fault ≡ lost_in (graph_in graph) (result_in r) → Judges answer (judgement (graph_in graph) proposed)
    judges-14 answer fault back off is =
        let told = judged-14 off is (fault-number fault) in
        fault-judges answer fault back (λ late. omega (arith, late, told.0)) told.1
