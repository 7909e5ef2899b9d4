-- `starts::task_order` meets its contract: without a cycle of delay 0 the walk takes all tasks.
use mathlib.Core.Path.{◌≡◌, refl, sym, subst}
use mathlib.Core.List.{List}
use Prim.Native.Nat.{ℕ, ◌-◌, ◌≤◌, ◌<◌}
use lib.ListN.{length, take, replicate}
use Rattle.model.specs.Tasks.{Edge}
use Rattle.model.proofs.Earliest.{depth}
use Rattle.records.specs.Columns.{edges_in}
use Rattle.sets.specs.Sets.{Crossed}
use Rattle.sets.proofs.Graphs.{zero-sets, holds}
use Rattle.sets.proofs.Words.{ends-small, crossed}
use Rattle.turn.specs.Turn.{Leads, Grows}
use Rattle.turn.proofs.Sequence.{leads}
use Rattle.turn.proofs.Taking.{depth-grows}
use Rattle.starts.proofs.Fronts.{front_length, front_at}
use Rattle.starts.proofs.task_order.Goals as goal
use Rattle.starts.proofs.task_order.Goals.{Start, After-take_edges}

abbrev edges : Start → List Edge
edges s = edges_in s.args.edges.now

-- the part that the walk is given: a start of 0 for each task
abbrev blank : Start → List ℕ
blank s = take (length s.args.time.now - 0) (replicate 64 0)

same : (s : Start) → length s.args.time.now ≡ length (blank s)
same s = sym (front_length 64 0 refl s.requires.in_bounds.1)

abbrev begin : After-take_edges → Start
begin t = (goal.at.After-take_edges t).Start

cross : (t : After-take_edges) → Crossed t.take_edges.new.sinks t.take_edges.new.sources (length (begin t).args.time.now)
cross t = crossed t.take_edges.ensures.sinks t.take_edges.ensures.sources (begin t).requires.in_bounds.1 (begin t).requires.ends

pub take_edges-requires : goal.take_edges-requires
take_edges-requires c =
    record {
      by_index = ends-small c.args.edges.now c.requires.in_bounds.1 c.requires.ends;
      sinks_value = (refl, refl);
    }

pub walk_tasks-requires : goal.walk_tasks-requires
walk_tasks-requires c =
    let t = (goal.at.walk_tasks-requires c).After-take_edges in
    let long = same (begin t) in
    record {
      sinks_len = (c.take_edges.ensures.sinks.room, c.take_edges.ensures.sources.room, long);
      input_in_bounds = (subst (λ (m : ℕ). 0 < m) long c.requires.in_bounds.0, subst (λ (m : ℕ). m ≤ 64) long c.requires.in_bounds.1, refl);
      crossed = subst (λ (m : ℕ). Crossed c.take_edges.new.sinks c.take_edges.new.sources m) long (cross t);
      by_index = λ v l. front_at 64 0 refl c.requires.in_bounds.1 v (subst (λ (m : ℕ). v < m) (sym long) l);
    }

pub returns : goal.returns
returns c =
    let t = (goal.at.returns c).After-take_edges in
    let s = begin t in
    let long = same s in
    let walk = c.walk_tasks.ensures in
    let sinks = c.take_edges.new.sinks in
    let sources = c.take_edges.new.sources in
    let n = length c.args.time.now in
    let held = holds c.requires.in_bounds.1 (zero-sets c.take_edges.ensures.sinks) in
    let rise = subst (λ (m : ℕ). Grows sources m (depth n (edges s))) long (depth-grows held (cross t) c.requires.ends c.requires.delay_value) in
    let all = walk.walked (walk.all (depth n (edges s)) rise) in
    record {
      room = (c.take_edges.ensures.sinks.room, all.sequenced.room);
      sets = held;
      order = subst (λ (m : ℕ). Leads sinks m c.walk_tasks.new.sequence) (sym long) (leads all (subst (λ (m : ℕ). Crossed sinks sources m) long (cross t)));
    }
