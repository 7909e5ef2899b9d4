-- `starts::turns_into` meets its contract: the turns so far stand in front of what the list held, and each turn is made in its own part of the list, from
-- what is gathered from the turns before it.
use mathlib.Core.Path.{◌≡◌, refl, sym, subst, ◌∙◌}
use mathlib.Core.List.{List}
use Prim.Native.Nat.{ℕ, suc, ◌+◌, ◌-◌, ◌*◌, ◌≤◌, ◌<◌}
use native.Mathlib.Omega.{arith}
use lib.ListN.{length, get_or}
use borrow.Rule.Slice.PartMut.{mid_of}
use Rattle.model.specs.Tasks.{Edge}
use Rattle.records.specs.Columns.{edges_in, at}
use Rattle.turn.specs.Turn.{Leads}
use Rattle.waits.specs.Later.{LaterEdges, Awaited}
use Rattle.starts.specs.Starts.{turn_row}
use Rattle.starts.specs.declared.TaskOrder.{TaskOrder}
use Rattle.starts.proofs.Turns.{TurnGraph}
use Rattle.starts.proofs.Filling.{part_length, turns_so_far, so-far-small, Room, turns-none, next-room, filled-front, filled_more, filled-all}
use Rattle.starts.proofs.Later.{lent, front-size, front-entry, entry-back, awaited-lent, turn-passable, turn-row}
use Rattle.starts.proofs.turns_into.Goals as goal
use Rattle.starts.proofs.turns_into.Goals.{Start, In-loop-done, After-gather_ends, After-make_turn}

abbrev edges : Start → List Edge
edges s = edges_in s.args.edges.now

ready : (s : Start) → TurnGraph (length s.args.time.now) (edges s) s.args.time.now
ready s =
    let asked = s.requires in
    record { bounds = asked.ends; none = asked.delay_value; sized = refl; file = asked.file_times; few = asked.time_len_bound.0 }

-- ── In a turn ──

abbrev begin : In-loop-done → Start
begin i = (goal.at.In-loop-done i).Start

abbrev order : In-loop-done → TaskOrder
order i = i.task_order-order.result

abbrev width : In-loop-done → ℕ
width i = length (begin i).args.time.now

abbrev place : In-loop-done → ℕ
place i = i.loop-done.done * width i

abbrev done : In-loop-done → ℕ
done i = i.loop-done.done

abbrev count : In-loop-done → ℕ
count i = i.later_edges-late.result

abbrev backs : In-loop-done → List ℕ
backs i = i.later_edges-late.new.back

abbrev lastings : In-loop-done → List ℕ
lastings i = i.later_edges-late.new.lasting

abbrev late-sinks : In-loop-done → List ℕ
late-sinks i = i.later_edges-late.new.to_sink

-- the turn is one of those asked for
more : (i : In-loop-done) → done i < (begin i).args.turns
more i = omega (arith, i.loop-done-test.true)

-- the turns so far
abbrev so_far : In-loop-done → List ℕ
so_far i = turns_so_far (width i) (edges (begin i)) (at (begin i).args.time.now) (done i)

entries : (i : In-loop-done) →
    LaterEdges (edges (begin i)) (width i) (at (begin i).args.time.now) (begin i).args.turns (backs i) (lastings i) (late-sinks i) (count i)
entries i = i.later_edges-late.ensures.late

-- there is room for the entries
rooms : (i : In-loop-done) →
    (count i ≤ 320) × (length (backs i) ≡ 320) × (length (lastings i) ≡ 320) × (length (late-sinks i) ≡ 320)
rooms i =
    let kept = i.later_edges-late.auto in
    (i.later_edges-late.ensures.few, kept.back, kept.lasting, kept.to_sink)

-- and for the turn's row
room : (i : In-loop-done) → Room (width i) (done i) (length i.loop-done.starts)
room i =
    let few = (begin i).requires.time_len_bound in
    next-room (more i) few.0 few.1 (omega (arith, few.2, i.loop-done.invariant.filled.starts-long))

row-wide : (i : In-loop-done) → length (mid_of (place i) (place i + width i - place i) i.loop-done.starts) ≡ width i
row-wide i = part_length (place i) (width i) i.loop-done.starts (room i).within

-- the sinks that are lent are tasks
sinks-inside : (i : In-loop-done) → (k : ℕ) → k < length (lent (count i) (backs i)) → get_or (lent (count i) (late-sinks i)) k 0 < width i
sinks-inside i k l =
    let inside = subst (λ (m : ℕ). k < m) (front-size (backs i) (count i) (omega (arith, (rooms i).0, (rooms i).1))) l in
    let entry = (entries i).sound k inside in
    omega (arith, front-entry (late-sinks i) (count i) k inside, entry.4.2, ((ready (begin i)).bounds entry.0 entry.1).1)

-- ── After the ends are gathered ──

abbrev in-turn : After-gather_ends → In-loop-done
in-turn t = (goal.at.After-gather_ends t).In-loop-done

abbrev start : After-gather_ends → List ℕ
start t = t.gather_ends.new.row

start-room : (t : After-gather_ends) → length (start t) ≡ 64
start-room t = t.gather_ends.ensures.size ∙ (in-turn t).loop-done.invariant.awaited-long

gathered : (t : After-gather_ends) →
    let i = in-turn t in
    Awaited (lent (count i) (backs i)) (lent (count i) (lastings i)) (lent (count i) (late-sinks i)) (so_far i) (width i)
    (length (lent (count i) (backs i))) (lent (width i) (start t))
gathered t =
    let i = in-turn t in
    let back = lent (count i) (backs i) in
    let lasting = lent (count i) (lastings i) in
    let sinks = lent (count i) (late-sinks i) in
    awaited-lent
    (subst (λ (xs : List ℕ). Awaited back lasting sinks xs (length i.loop-done.awaited) (length back) (start t)) (filled-front i.loop-done.invariant.filled) t.gather_ends.ensures)
    (omega (arith, i.loop-done.invariant.awaited-long, (begin i).requires.time_len_bound.0)) (λ k l. sinks-inside i k l)

-- ── After the turn is made ──

abbrev gathered-turn : After-make_turn → After-gather_ends
gathered-turn t = (goal.at.After-make_turn t).After-gather_ends

abbrev row : After-make_turn → List ℕ
row t = t.make_turn.new.row

row_is : (t : After-make_turn) →
    let i = in-turn (gathered-turn t) in
    row t ≡ turn_row (width i) (edges (begin i)) (at (begin i).args.time.now) (suc (done i))
row_is t =
    let g = gathered-turn t in
    let i = in-turn g in
    turn-row (ready (begin i)) (more i) (begin i).requires.time_len_bound.1 (entries i) (omega (arith, (rooms i).0, (rooms i).1)) (gathered g)
    i.task_order-order.ensures.sets t.make_turn.ensures

-- ── The answers ──

pub task_order-order-requires : goal.task_order-order-requires
task_order-order-requires c =
    record {
      in_bounds = (c.requires.time_len_bound.3, c.requires.time_len_bound.0);
      ends = c.requires.ends;
      delay_value = c.requires.delay_value;
    }

pub later_edges-late-requires : goal.later_edges-late-requires
later_edges-late-requires c =
    record {
      edges_len_bound = c.requires.edges_len_bound;
      time_len_bound = (c.requires.time_len_bound.0, c.requires.time_len_bound.1, c.requires.ends);
      back_len = (refl, refl, refl);
    }

pub loop-done-init : goal.loop-done-init
loop-done-init c = record { filled = turns-none _ _ _ _; awaited-long = refl }

pub gather_ends-requires : goal.gather_ends-requires
gather_ends-requires c =
    let i = (goal.at.gather_ends-requires c).In-loop-done in
    let long = front-size (backs i) (count i) (omega (arith, (rooms i).0, (rooms i).1)) in
    record {
      lasting_len = (
        front-size (lastings i) (count i) (omega (arith, (rooms i).0, (rooms i).2)) ∙ sym long,
        front-size (late-sinks i) (count i) (omega (arith, (rooms i).0, (rooms i).3)) ∙ sym long,
      );
      by_index = (
        λ k l.
            let inside = subst (λ (m : ℕ). k < m) long l in (
              omega (arith, front-entry (backs i) (count i) k inside, entry-back (ready (begin i)).bounds (entries i) k inside),
              omega (arith, sinks-inside i k l, c.requires.time_len_bound.0, c.loop-done.invariant.awaited-long),
            ),
        λ k. subst (λ (xs : List ℕ). get_or xs k 0 ≤ 1073741824) (sym (filled-front i.loop-done.invariant.filled)) (so-far-small (ready (begin i)) (done i) (omega (arith, c.requires.time_len_bound.1, more i)) k),
      );
    }

pub make_turn-requires : goal.make_turn-requires
make_turn-requires c =
    let g = (goal.at.make_turn-requires c).After-gather_ends in
    let i = in-turn g in
    let said = i.task_order-order.ensures in
    let wide = sym (row-wide i) in
    record {
      words_len = (said.room.0, said.room.1, wide, omega (arith, row-wide i, (begin i).requires.time_len_bound.0), (gathered g).size ∙ wide);
      leads = (
        subst (λ (m : ℕ). Leads (order i).sinks m (order i).sequence) wide said.order,
        turn-passable (ready (begin i)) (more i) (begin i).requires.time_len_bound.1 (entries i) (omega (arith, (rooms i).0, (rooms i).1)) (gathered g) said.sets,
      );
    }

pub loop-done-preserved : goal.loop-done-preserved
loop-done-preserved c =
    let t = (goal.at.loop-done-preserved c).After-make_turn in
    let i = in-turn (gathered-turn t) in
    record { filled = filled_more i.loop-done.invariant.filled (room i).within (row_is t); awaited-long = start-room (gathered-turn t) }

pub returns : goal.returns
returns c = filled-all c.loop-done.invariant.filled (omega (arith, c.loop-done-test.false))
