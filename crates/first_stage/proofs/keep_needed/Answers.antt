-- `first_stage::keep_needed` meets its contract: after j steps the stage holds those of the first j edges that are needed, at most j.
use mathlib.Core.Path.{◌≡◌, refl, sym, ap, subst, ◌∙◌}
use mathlib.Core.Bool.{true, false, not, ◌&&◌}
use mathlib.Core.List.{List}
use native.Mathlib.Omega.{arith}
use lib.ListN.{length, get_or}
use Rattle.model.specs.Lists.{keep_places}
use Rattle.model.specs.Tasks.{Edge}
use Rattle.model.specs.Compute.{present, least_delay}
use Rattle.layout.specs.declared.EdgeRecord.{EdgeRecord}
use Rattle.records.specs.Columns.{no_record}
use Rattle.records.proofs.EdgesIn.{ends_at}
use Rattle.marks.specs.Marks.{mark_at}
use Rattle.stages.specs.declared.StageEdges.{StageEdges}
use Rattle.stages.specs.Stages.{HeldStage}
use Rattle.stages.proofs.Staged.{stage_more}
use Rattle.first_stage.proofs.Needing.{needed_below, passes, marked-fails, needed-more, needed-same, needed-all}
use Rattle.first_stage.proofs.keep_needed.Goals as goal
use Rattle.first_stage.proofs.keep_needed.Goals.{then-not-is_marked+then-not-has_path, else-not-is_marked, else-not-is_marked-via-then-not-is_marked+else-not-has_path, else-not-is_marked-via-else-not-is_marked}

pub loop-j-init : goal.loop-j-init
unfolding keep_places
loop-j-init c = (omega (arith, c.blank_stage-stage.ensures.as_many), λ es fit least. c.blank_stage-stage.ensures)

pub has_path-requires : goal.has_path-requires
has_path-requires c =
    let asked = c.requires.tasks_bound in
    let ends = ends_at c.args.edges.now c.requires.ends c.loop-j.j c.loop-j-test.true in
    (asked.0, ends.1, ends.0, asked.2)

pub loop-j-preserved : goal.loop-j-preserved
loop-j-preserved c =
    let edges = c.args.edges.now in
    let tasks = c.args.tasks in
    let marked = mark_at c.args.marks in
    let j = c.loop-j.j in
    let e : EdgeRecord = get_or edges j no_record in
    let inv = c.loop-j.invariant in
    let few = c.requires.tasks_bound.1 in
    let below = c.loop-j-test.true in
    let mark = sym (ap not c.is_marked.ensures) in
    elim c.if-not-is_marked.branch [
      | then-not-is_marked+then-not-has_path w ↦ (
        omega (arith, ap (λ (r : StageEdges). r.count) w.stage-is, inv.0),
        λ es fit least.
            let free : not (marked j) ≡ true = mark ∙ ap not w.if-not-is_marked.true in
            let apart : not (present (least_delay tasks es e.sink e.source)) ≡ true = sym (ap not (w.has_path.ensures es fit least)) ∙ ap not w.if-not-has_path.true in
            coe 1 0 (i. HeldStage (w.stage-is i) (needed-more tasks es marked edges j below (λ k. free k && apart k) i))
            (stage_more (inv.1 es fit least) e (omega (arith, few, inv.0)) refl refl),
      )
      | else-not-is_marked w ↦ (
        omega (arith, ap (λ (r : StageEdges). r.count) w.stage-is, inv.0),
        λ es fit least.
            let fails : passes tasks es marked edges j ≡ false
            = elim w.else-not-is_marked.branch [
              | else-not-is_marked-via-then-not-is_marked+else-not-has_path v ↦
                  let free : not (marked j) ≡ true = mark ∙ ap not v.if-not-is_marked.true in
                  let back : not (present (least_delay tasks es e.sink e.source)) ≡ false
                  = sym (ap not (v.has_path.ensures es fit least)) ∙ ap not v.if-not-has_path.false in
                  λ i. free i && back i
              | else-not-is_marked-via-else-not-is_marked v ↦ marked-fails tasks es marked edges j (mark ∙ ap not v.if-not-is_marked.false)
            ] in
            coe 1 0 (i. HeldStage (w.stage-is i) (needed-same tasks es marked edges j below fails i)) (inv.1 es fit least),
      )
    ]

pub returns : goal.returns
returns c =
    let edges = c.args.edges.now in
    let whole : length edges ≡ c.loop-j.j = omega arith in
    λ es fit least.
    subst (λ (xs : List Edge). HeldStage c.loop-j.stage xs)
    (sym (needed-all c.args.tasks es (mark_at c.args.marks) edges ∙ ap (needed_below c.args.tasks es (mark_at c.args.marks) edges) whole))
    (c.loop-j.invariant.1 es fit least)
