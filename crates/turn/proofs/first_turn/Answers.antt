-- `turn::first_turn` meets its contract: the words hold the edges of delay 0, and the walk over them takes all tasks unless there is a cycle.
use mathlib.Core.Path.{◌≡◌, refl, sym, ◌∙◌, subst}
use mathlib.Core.Bool.{true, false}
use Rattle.std.proofs.Common.{Option}
use Rattle.std.specs.Option.{MatchOption}
use Prim.Native.Nat.{ℕ}
use native.Mathlib.Omega.{arith}
use lib.ListN.{length}
use Rattle.model.specs.Compute.{zero_cycle}
use Rattle.model.proofs.Earliest.{depth}
use Rattle.records.specs.Columns.{edges_in, at}
use Rattle.sets.proofs.Graphs.{zero-sets, holds}
use Rattle.sets.proofs.Words.{ends-small, crossed}
use Rattle.turn.specs.Turn.{Turned}
use Rattle.turn.proofs.Free.{free-test}
use Rattle.turn.proofs.Sequence.{leads}
use Rattle.turn.proofs.Taking.{depth-grows, leads-acyclic, some-left}
use Rattle.turn.proofs.Walking.{walked-turned}
use Rattle.turn.proofs.first_turn.Goals as goal
use Rattle.turn.proofs.first_turn.Goals.{then-walk-row, else-walk-row}

pub take_edges-requires : goal.take_edges-requires
take_edges-requires c =
    record {
      by_index = ends-small c.args.edges.now c.requires.time_len.1 c.requires.ends;
      sinks_value = (refl, refl);
    }

pub walk_tasks-walk-requires : goal.walk_tasks-walk-requires
walk_tasks-walk-requires c =
    record {
      sinks_len = (c.take_edges.ensures.sinks.room, c.take_edges.ensures.sources.room, c.requires.time_len.0);
      input_in_bounds = (c.requires.time_len.2, c.requires.time_len.1, refl);
      crossed = crossed c.take_edges.ensures.sinks c.take_edges.ensures.sources c.requires.time_len.1 c.requires.ends;
      by_index = c.requires.by_index;
    }

pub returns-clause-turned : goal.returns-clause-turned
returns-clause-turned c =
    let n = length c.args.row.now in
    let es = edges_in c.args.edges.now in
    let few = c.requires.time_len.1 in
    let ends = c.requires.ends in
    let walk = c.walk_tasks-walk.ensures in
    let held = holds few (zero-sets c.take_edges.ensures.sinks) in
    let cross = crossed c.take_edges.ensures.sinks c.take_edges.ensures.sources few ends in
    let Said : Option ℕ → Type 0 = λ o. MatchOption o (zero_cycle n es ≡ true)
    (λ r. (zero_cycle n es ≡ false) × Turned n es (at c.args.time.now) c.args.input r c.args.row.now c.walk_tasks-walk.new.row) in
    elim c.if-walk-row.branch [
      | then-walk-row w ↦
          let all = walk.walked (w.if-walk-row.true ∙ walk.size) in
          subst Said (sym w.reached-is) (leads-acyclic held ends (leads all cross), walked-turned held ends all.walked all.all c.requires.by_index)
      | else-walk-row w ↦
          subst Said (sym w.reached-is)
          (some-left n es (λ none. w.if-walk-row.false (walk.all (depth n es) (depth-grows held cross ends none) ∙ sym walk.size)))
    ]

pub returns-clause-free : goal.returns-clause-free
returns-clause-free c = free-test c.take_edges.ensures.sources c.args.input (omega (arith, c.requires.time_len.1, c.requires.time_len.2))
