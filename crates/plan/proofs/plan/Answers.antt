-- `plan::plan` meets its contract: what was decided on the bytes and the list's length is told; `fill` writes the edges of a plan, which fit the list.
use mathlib.Core.Path.{refl, ◌∙◌}
use native.Mathlib.Omega.{arith}
use lib.ListN.{length}
use Rattle.acceptance.specs.Outcomes.{outcome}
use Rattle.plan.proofs.Answers.{refused-answer, passed-answer, edges_fit, list-written, list-kept}
use Rattle.plan.proofs.plan.Goals as goal

pub fill-requires : goal.fill-requires
fill-requires c =
    let decided = c.in-Ok.ensures in (
      omega (arith, edges_fit c.args.graph.now (length c.args.edges.now) decided.refusal decided.plan),
      omega (arith, decided.plan.held.few),
    )

pub returns-in-Ok : goal.returns-in-Ok
unfolding outcome
returns-in-Ok c =
    let decided = c.in-Ok.ensures in
    record {
      answer = passed-answer c.args.graph.now (length c.args.edges.now) decided.refusal decided.plan refl;
      edges = c.fill.ensures ∙ list-written c.args.graph.now c.args.edges.now decided.refusal decided.plan;
    }

pub returns-in-Err : goal.returns-in-Err
returns-in-Err c =
    let is = c.in-Err.ensures.refusal in
    record {
      answer = refused-answer c.args.graph.now (length c.args.edges.now) c.in-Err.fault is c.into.ensures;
      edges = list-kept c.args.graph.now c.args.edges.now c.in-Err.fault is;
    }
