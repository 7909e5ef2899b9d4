-- `stages::replacing::keep_others` meets its contract: after j steps the first records hold those of the first j edges that the pair does not subsume, at
-- most j, and what lies from place j on is as it was.
use mathlib.Core.Path.{◌≡◌, refl, sym, ap, subst, ◌∙◌}
use mathlib.Core.List.{List, [], ◌∷◌, ◌++◌}
use mathlib.Core.Bool.{Bool, not}
use Prim.Native.Nat.{ℕ, ◌<◌}
use native.Mathlib.Omega.{arith}
use native.Mathlib.Nat.{le_refl}
use lib.ListN.{length, get_or, length-set}
use Rattle.layout.specs.declared.EdgeRecord.{EdgeRecord}
use Rattle.model.specs.Lists.{keep}
use Rattle.model.specs.Tasks.{Edge}
use Rattle.records.specs.Columns.{edge_of, no_record}
use Rattle.subsumption.specs.Subsumption.{subsumes_by}
use Rattle.results.proofs.Keeping.{keep-more, keep_same}
use Rattle.stages.specs.declared.StageEdges.{StageEdges}
use Rattle.stages.specs.Stages.{HeldStage, listed}
use Rattle.stages.proofs.Listed.{listed-more, listed-stored}
use Rattle.stages.proofs.Staged.{stage-listed, stage_ends}
use Rattle.stages.proofs.Behind.{behind-step, behind-set}
use Rattle.stages.proofs.replacing.keep_others.Goals as goal
use Rattle.stages.proofs.replacing.keep_others.Goals.{then-not-is_subsumed, else-not-is_subsumed}

pub loop-j-init : goal.loop-j-init
unfolding listed keep
loop-j-init c = (omega arith, c.requires.held_stage.1.room, refl, λ i l. refl)

pub is_subsumed-requires : goal.is_subsumed-requires
is_subsumed-requires c =
    let asked = c.requires.tasks_bound in
    let j = c.loop-j.j in
    let tasks = c.args.tasks in
    let ends =
    subst (λ (e : EdgeRecord). (e.source < tasks) × (e.sink < tasks)) (sym (c.loop-j.invariant.3 j (le_refl j)))
    (stage_ends c.requires.held_stage.1 c.requires.held_stage.2 j c.loop-j-test.true) in (
      omega (arith, asked.0, asked.3),
      omega (arith, asked.0, asked.4),
      omega (arith, asked.0, asked.1, asked.3, ends.0),
      omega (arith, asked.0, asked.2, asked.4, ends.1),
    )

pub loop-j-preserved : goal.loop-j-preserved
loop-j-preserved c =
    let args = c.args in
    let held = c.requires.held_stage.1 in
    let t : Edge → Bool = λ e. not (subsumes_by args.from.now args.to.now args.a args.b e) in
    let here = c.loop-j in
    let j = here.j in
    let inv = here.invariant in
    let edges = args.stage.now.edges in
    let read : EdgeRecord = get_or edges j no_record in
    let e : EdgeRecord = get_or here.stage.edges j no_record in
    let same : e ≡ read = inv.3 j (le_refl j) in
    let said = ap (λ (r : EdgeRecord). t (edge_of r)) (sym same) ∙ sym (ap not c.is_subsumed.ensures) in
    let next = ap (keep t) (listed-more j edges (omega (arith, held.few, held.room, c.loop-j-test.true))) in
    elim c.if-not-is_subsumed.branch [
      | then-not-is_subsumed w ↦
          let stored = ap (λ (r : StageEdges). r.edges) w.stage-is in (
            omega (arith, w.kept-is, inv.0),
            ap (λ (rs : List EdgeRecord). length rs) stored ∙ (length-set here.stage.edges here.kept e ∙ inv.1),
            (λ i. listed (w.kept-is i) (stored i))
                ∙ (listed-stored here.kept here.stage.edges e (omega (arith, inv.0, inv.1, held.few, c.loop-j-test.true))
                ∙ (ap (λ (es : List Edge). es ++ (edge_of e ∷ [])) inv.2
                ∙ (ap (λ (r : EdgeRecord). keep t (listed j edges) ++ (edge_of r ∷ [])) same
                ∙ sym (next ∙ keep-more t (listed j edges) (edge_of read) (said ∙ ap not w.if-not-is_subsumed.true))))),
            behind-set edges here.stage.edges here.kept e inv.0 stored inv.3,
          )
      | else-not-is_subsumed w ↦
          let as_before = ap (λ (r : StageEdges). r.edges) w.stage-is in (
            omega (arith, w.kept-is, inv.0),
            ap (λ (rs : List EdgeRecord). length rs) as_before ∙ inv.1,
            (λ i. listed (w.kept-is i) (as_before i))
                ∙ (inv.2 ∙ sym (next ∙ keep_same t (listed j edges) (edge_of read) (said ∙ ap not w.if-not-is_subsumed.false))),
            behind-step edges here.stage.edges as_before inv.3,
          )
    ]

pub returns : goal.returns
returns c = λ list holds.
    let args = c.args in
    let t : Edge → Bool = λ e. not (subsumes_by args.from.now args.to.now args.a args.b e) in
    let here = c.loop-j in
    let inv = here.invariant in
    let whole : here.j ≡ args.stage.now.count = omega arith in
    let left : StageEdges = record { count = here.kept; edges = here.stage.edges } in
    subst (λ (es : List Edge). HeldStage left es)
    (inv.2 ∙ (ap (λ (n : ℕ). keep t (listed n args.stage.now.edges)) whole ∙ ap (keep t) holds.held))
    (stage-listed left (omega (arith, inv.0, whole, holds.few)) inv.1)
