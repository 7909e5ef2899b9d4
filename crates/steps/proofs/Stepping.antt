-- One step from a stage: the best pair by its lists is the step's, and the lists with the pair added are those of the next stage. Which edges the pair subsumes
-- is told by the delays with it as well as by those before: the ones to its source and from its sink do not fall.
use mathlib.Core.Path.{◌≡◌, sym, ap, ◌∙◌, subst}
use mathlib.Core.Bool.{Bool, not}
use mathlib.Core.List.{List}
use mathlib.Core.Option.{none, some}
use Prim.Native.Nat.{ℕ, ◌+◌, ◌*◌, ◌≤◌, ◌<◌}
use native.Mathlib.Omega.{arith}
use lib.Dec.{leb}
use lib.ListN.{length, take, length-take}
use Rattle.model.specs.Lists.{keep}
use Rattle.model.specs.Tasks.{Edge, ◌∈◌, Ends}
use Rattle.model.specs.Graph.{Graph, count}
use Rattle.model.specs.Plan.{with_pair, Candidate, replaced, step}
use Rattle.records.specs.Columns.{at, edges_in}
use Rattle.subsumption.specs.Subsumption.{subsumes_by, CountsOf}
use Rattle.subsumption.proofs.Totals.{keep-equal}
use Rattle.updates.specs.Updates.{RowsJoined}
use Rattle.candidates.specs.Candidates.{worth_in, BestPair, NoPair}
use Rattle.stages.specs.declared.StageEdges.{StageEdges}
use Rattle.stages.specs.Stages.{HeldStage}
use Rattle.stages.proofs.Staged.{stage-edges}
use Rattle.prepared.specs.Ready.{Ready}
use Rattle.present.proofs.Ordering.{timed-sizes}
use Rattle.steps.specs.Steps.{Here}
use Rattle.steps.proofs.Worths.{replaced-by, best-taken, best_none, best-room, best-candidate, ready-next}

module _
    {g : Graph} {list : List Edge} {tasks : ℕ} {stage : StageEdges} {from to counts end latest : List ℕ}
    (here : Here g list tasks stage from to counts end latest)
  where
    few : tasks ≤ 64
    few = omega (arith, here.as_many, here.staged.graph.formed.at_most_64)

    pub rows_long : (tasks ≤ 64) × (tasks * 64 ≤ length counts) × (tasks * 64 ≤ length to) × (length end ≡ tasks) × (length latest ≡ tasks)
    rows_long =
        let sizes = timed-sizes here.timed in (
          few,
          omega (arith, here.ready.counts_are.size, here.as_many),
          omega (arith, here.ready.to_size, here.as_many),
          omega (arith, sizes.0, here.as_many),
          omega (arith, sizes.1, here.as_many),
        )

    -- ── The stage, as it is lent ──

    abbrev pub lent : List Edge
    lent = edges_in (take stage.count stage.edges)

    lent_is : lent ≡ list
    lent_is = stage-edges here.held

    pub lent-few : length (take stage.count stage.edges) ≤ 256
    lent-few = omega (arith, length-take stage.count stage.edges, here.held.few)

    list-ends : Ends tasks list
    list-ends = subst (λ (n : ℕ). Ends n list) (sym here.as_many) here.staged.formed.ends

    pub lent-ends : Ends tasks lent
    lent-ends = subst (λ (es : List Edge). Ends tasks es) (sym lent_is) list-ends

    pub lent-counts : CountsOf tasks from to lent counts
    lent-counts =
        subst (λ (es : List Edge). CountsOf tasks from to es counts) (sym lent_is)
        (subst (λ (n : ℕ). CountsOf n from to list counts) (sym here.as_many) here.ready.counts_are)

    -- ── The best pair ──

    pub none_left : NoPair tasks (worth_in counts to end latest) → step g list ≡ none
    none_left below =
        best_none g list here.staged.graph here.staged.formed here.staged.accepted here.ready here.timed
        (subst (λ (n : ℕ). NoPair n (worth_in counts to end latest)) here.as_many below)

    module _ {m a b : ℕ} (best : BestPair tasks (worth_in counts to end latest) m a b) where
      best-is : BestPair (count g) (worth_in counts to end latest) m a b
      best-is = subst (λ (n : ℕ). BestPair n (worth_in counts to end latest) m a b) here.as_many best

      module _ (two : 2 ≤ m) where
        pub found : step g list ≡ some (replaced g list a b)
        found =
            best-taken g list here.staged.graph here.staged.formed here.staged.accepted here.ready here.timed best-is two

        pub candidate : Candidate g list a b
        candidate =
            best-candidate g list here.staged.graph here.staged.formed here.staged.accepted here.ready here.timed best-is two

        module _ {from' to' : List ℕ} (rows : RowsJoined a b tasks from from') (columns : RowsJoined b a tasks to to') where
          test : Edge → Bool
          test e = not (subsumes_by from to a b e)

          abbrev pub test' : Edge → Bool
          test' e = not (subsumes_by from' to' a b e)

          -- a number and itself with one added: the smaller is the number
          same_test : (e : Edge) → e ∈ list → test' e ≡ test e
          unfolding subsumes_by test
          same_test e m =
              let lx = (list-ends e m).0 in
              let ly = (list-ends e m).1 in
              let la = best.source_below two in
              let lb = best.sink_below two in
              let before : at from' (e.source * 64 + a) ≡ at from (e.source * 64 + a)
              = omega (arith, rows.inside e.source a lx (omega (arith, la, few))) in
              let after : at to' (e.sink * 64 + b) ≡ at to (e.sink * 64 + b)
              = omega (arith, columns.inside e.sink b ly (omega (arith, lb, few))) in
              λ i. not (leb (before i + after i) e.delay)

          same_left : keep test' list ≡ keep test list
          same_left = keep-equal test' test list same_test

          pub replace-given : (list' : List Edge) × HeldStage stage list' × Ends tasks list' × (length (keep test' list') < 256)
          unfolding test
          replace-given = (
            list,
            here.held,
            list-ends,
            subst (λ (es : List Edge). length es < 256) (sym same_left)
                (best-room g list here.staged.graph here.staged.formed here.staged.accepted here.ready here.timed best-is two),
          )

          is-replaced : with_pair (keep test list) a b ≡ replaced g list a b
          unfolding test
          is-replaced =
              replaced-by g list here.staged.graph here.staged.formed here.staged.accepted here.ready a b (best-is.source_below two)
              (best-is.sink_below two)

          pub next-held :
              {stage' : StageEdges} → HeldStage stage' (with_pair (keep test' list) a b) → HeldStage stage' (replaced g list a b)
          next-held {stage'} =
              subst (λ (es : List Edge). HeldStage stage' es) (ap (λ (es : List Edge). with_pair es a b) same_left ∙ is-replaced)

          pub next-ready :
              {counts' : List ℕ} → CountsOf tasks from' to' (with_pair (keep (λ e. not (subsumes_by from to a b e)) lent) a b) counts' →
              Ready g (replaced g list a b) from' to' counts'
          next-ready {counts'} many-next =
              let among =
              subst (λ (es : List Edge). CountsOf tasks from' to' (with_pair (keep (λ e. not (subsumes_by from to a b e)) es) a b) counts') lent_is many-next in
              let counted =
              subst (λ (n : ℕ). CountsOf n from' to' (with_pair (keep (λ e. not (subsumes_by from to a b e)) list) a b) counts') here.as_many among in
              ready-next g list here.staged.graph here.staged.formed here.staged.accepted here.ready here.timed best-is two
              (subst (λ (n : ℕ). RowsJoined a b n from from') here.as_many rows) (subst (λ (n : ℕ). RowsJoined b a n to to') here.as_many columns)
              counted
