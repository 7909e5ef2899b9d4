-- `waits::later_edges` meets its contract: after j steps the entries stand for those of the first j edges that let a turn wait.
use mathlib.Core.Path.{refl}
use mathlib.Core.List.{List}
use Prim.Native.Nat.{ℕ, ◌-◌, ◌*◌, ◌≤◌, ◌<◌}
use native.Mathlib.Nat.{le_refl, mul-le-mul}
use native.Mathlib.Omega.{arith}
use lib.ListN.{length, get_or}
use Rattle.layout.specs.declared.EdgeRecord.{EdgeRecord}
use Rattle.records.specs.Columns.{edge_of, no_record, at}
use Rattle.records.proofs.EdgesIn.{ends_at}
use Rattle.records.proofs.Rows.{product_small}
use Rattle.waits.specs.Later.{StandsFor}
use Rattle.waits.proofs.Later.{late-none, late-same, late-more, late-all}
use Rattle.waits.proofs.later_edges.Goals as goal
use Rattle.waits.proofs.later_edges.Goals.{In-loop-e, then-late-gt0+then-late-turns, else-late-gt0, else-late-gt0-via-then-late-gt0+else-late-turns, else-late-gt0-via-else-late-gt0}

-- the record at hand
abbrev record_at : In-loop-e → EdgeRecord
record_at i = get_or i.args.edges.now i.loop-e.e-index no_record

-- the edge's source is a task, and there is room for an entry more
inside : (i : In-loop-e) → ((record_at i).source < length i.args.time.now) × (i.loop-e.count < 320)
inside i =
    let few = i.loop-e.invariant.few in
    ((ends_at i.args.edges.now i.requires.time_len_bound.2 i.loop-e.e-index i.loop-e-test.true).0, omega (arith, i.requires.edges_len_bound, i.loop-e-test.true))

-- the numbers of an edge's entry stand for it
entry : (r : EdgeRecord) (time : List ℕ) → r.source ≤ r.delay * length time →
    StandsFor (length time) (at time) (edge_of r) (r.delay * length time - r.source) (get_or time r.source 0) r.sink
unfolding edge_of at
entry r time past = (omega arith, refl, refl)

-- a delay that lets a turn wait reaches back past the source, and no further than 64 rows of 64
far : (i : In-loop-e) →
    let r = record_at i in
    0 < r.delay → r.delay < i.args.turns →
    (r.source ≤ r.delay * length i.args.time.now) × (r.delay * length i.args.time.now ≤ 4096)
far i later soon =
    let late = (record_at i).delay in
    let n = length i.args.time.now in
    let asked = i.requires.time_len_bound in
    let once : 1 * n ≤ late * n = mul-le-mul later (le_refl n) in
    (omega (arith, (inside i).0), product_small late n (omega (arith, asked.1)) asked.0)

pub loop-e-init : goal.loop-e-init
loop-e-init c = late-none c.args.edges.now (length c.args.time.now) (at c.args.time.now) c.args.turns c.args.back.now c.args.lasting.now c.args.to_sink.now

pub overflow_mul-back : goal.overflow_mul-back
overflow_mul-back c = omega (arith, (far (goal.at.overflow_mul-back c).In-loop-e (omega (arith, c.if-late-gt0.true)) (omega (arith, c.if-late-turns.true))).1)

pub overflow_sub-back : goal.overflow_sub-back
overflow_sub-back c = (far (goal.at.overflow_sub-back c).In-loop-e (omega (arith, c.if-late-gt0.true)) (omega (arith, c.if-late-turns.true))).0

pub overflow_cast-back : goal.overflow_cast-back
overflow_cast-back c = omega (arith, (far (goal.at.overflow_cast-back c).In-loop-e (omega (arith, c.if-late-gt0.true)) (omega (arith, c.if-late-turns.true))).1)

pub bounds-time-s : goal.bounds-time-s
bounds-time-s c = (inside (goal.at.bounds-time-s c).In-loop-e).0

pub loop-e-preserved : goal.loop-e-preserved
loop-e-preserved c =
    let args = c.args in
    let edges = args.edges.now in
    let time = args.time.now in
    let loop = c.loop-e in
    let inv = loop.invariant in
    let here = (goal.at.loop-e-preserved c).In-loop-e in
    let r = record_at here in
    let room = (inside here).1 in
    elim c.if-late-gt0.branch [
      | then-late-gt0+then-late-turns w ↦
          rw (w.back-is, w.lasting-is, w.to_sink-is, w.count-is)
          (late-more edges (length time) (at time) args.turns inv (omega (arith, w.if-late-gt0.true), omega (arith, w.if-late-turns.true)) _ _ _
          (entry r time (far here (omega (arith, w.if-late-gt0.true)) (omega (arith, w.if-late-turns.true))).0) (omega (arith, room, loop.auto.back)) (omega (arith, room, loop.auto.lasting)) (omega (arith, room, loop.auto.to_sink)))
      | else-late-gt0 w ↦
          rw (w.back-is, w.lasting-is, w.to_sink-is, w.count-is)
          (late-same edges (length time) (at time) args.turns inv
          (λ waits. elim w.else-late-gt0.branch [
            | else-late-gt0-via-then-late-gt0+else-late-turns x ↦ omega (arith, waits.1, x.if-late-turns.false)
            | else-late-gt0-via-else-late-gt0 x ↦ omega (arith, waits.0, x.if-late-gt0.false)
          ]))
    ]

pub returns : goal.returns
returns c =
    let inv = c.loop-e.invariant in
    record { few = omega (arith, inv.few, c.requires.edges_len_bound); late = late-all _ _ _ _ inv (omega (arith, c.loop-e-test.false)) (omega arith) }
