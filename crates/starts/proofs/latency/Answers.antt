-- `starts::latency` meets its contract: the first turn's starts are the earliest.
use mathlib.Core.Path.{◌≡◌, refl, sym, ap, ◌∙◌, subst}
use mathlib.Core.List.{List}
use Prim.Native.Nat.{ℕ, ◌+◌, ◌-◌, ◌≤◌, ◌<◌}
use native.Mathlib.Omega.{arith}
use lib.ListN.{length, take, replicate}
use Rattle.model.specs.Tasks.{Edge, Ends}
use Rattle.model.specs.Compute.{zero_cycle}
use Rattle.records.specs.Columns.{edges_in, at}
use Rattle.turn.specs.Turn.{Turned}
use Rattle.starts.proofs.Limits.{end-as-u32}
use Rattle.starts.proofs.First.{turn-made, turn-sized, front-start, turn-latency}
use Rattle.starts.proofs.Fronts.{front_length, front_at}
use Rattle.starts.proofs.latency.Goals as goal
use Rattle.starts.proofs.latency.Goals.{Start, After-first_turn}

abbrev edges : Start → List Edge
edges s = edges_in s.args.edges.now

-- the part that the turn is put into: a start of 0 for each task
abbrev blank : Start → List ℕ
blank s = take (length s.args.time.now - 0) (replicate 64 0)

blank-long : (s : Start) → length (blank s) ≡ length s.args.time.now
blank-long s = front_length 64 0 refl s.requires.time_len_bound.0

abbrev begin : After-first_turn → Start
begin t = (goal.at.After-first_turn t).Start

turned : (t : After-first_turn) →
    let s = begin t in
    (reached : ℕ) × Turned (length s.args.time.now) (edges s) (at s.args.time.now) s.args.output reached (blank s) t.first_turn.new.row
turned t =
    let s = begin t in
    let made = turn-made _ (edges s) (at s.args.time.now) s.args.output (blank s) t.first_turn.new.row _ (ap (λ (m : ℕ). zero_cycle m (edges s)) (blank-long s) ∙ s.requires.delay_value) t.first_turn.ensures.turned in
    (made.0, turn-sized (blank-long s) made.1)

row-long : (t : After-first_turn) → length t.first_turn.new.row ≡ length (begin t).args.time.now
row-long t = t.first_turn.ensures.size ∙ blank-long (begin t)

pub first_turn-requires : goal.first_turn-requires
first_turn-requires c =
    let s = (goal.at.first_turn-requires c).Start in
    let same = sym (blank-long s) in
    record {
      time_len = (same, subst (λ (m : ℕ). m ≤ 64) same c.requires.time_len_bound.0, subst (λ (m : ℕ). c.args.output < m) same c.requires.time_len_bound.1);
      ends = subst (λ (m : ℕ). Ends m (edges s)) same c.requires.ends;
      by_index = λ v l. front_at 64 0 refl c.requires.time_len_bound.0 v (subst (λ (m : ℕ). v < m) (sym same) l);
    }

pub overflow_add-result : goal.overflow_add-result
unfolding at
overflow_add-result c =
    let t = (goal.at.overflow_add-result c).After-first_turn in
    let low = (turned t).1.low c.args.output c.requires.time_len_bound.1 in
    end-as-u32 (subst (λ (x : ℕ). x ≤ 268435456) (sym (front-start c.first_turn.new.row _ (row-long t) c.args.output c.requires.time_len_bound.1)) (omega (arith, low, c.requires.time_len_bound.0))) (c.type_inv.time _)

pub returns : goal.returns
unfolding at
returns c =
    let t = (goal.at.returns c).After-first_turn in
    ap (λ (x : ℕ). x + at c.args.time.now c.args.output) (front-start c.first_turn.new.row _ (row-long t) c.args.output c.requires.time_len_bound.1) ∙
    turn-latency c.requires.ends c.requires.delay_value (λ v l. (c.requires.file_times v l).0) (turned t).1 (front_at 64 0 refl c.requires.time_len_bound.0) c.args.output c.requires.time_len_bound.1
