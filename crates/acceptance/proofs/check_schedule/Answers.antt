-- `acceptance::check_schedule` meets its contract: what the first turn tells is what the model's tests say, and the first that refuses ends the chain.
use mathlib.Core.Path.{◌≡◌, refl, sym, ap, ◌∙◌, subst}
use mathlib.Core.Bool.{true, false}
use mathlib.Core.List.{List}
use Rattle.std.proofs.Common.{Option}
use Rattle.std.specs.Option.{MatchOption}
use Prim.Native.Nat.{ℕ, ◌+◌, ◌-◌, ◌≤◌, ◌<◌}
use native.Mathlib.Omega.{arith}
use lib.ListN.{length, take, replicate}
use mir.Facts.{Fits-widen}
use borrow.Author.Tests.{not-true, not-false}
use Rattle.model.specs.Tasks.{Edge, Ends}
use Rattle.model.specs.Compute.{zero_cycle}
use Rattle.records.specs.Columns.{edges_in, zeros, at}
use Rattle.turn.specs.Turn.{Turned}
use Rattle.starts.proofs.Limits.{end-as-u32}
use Rattle.starts.proofs.First.{front-start, turn-latency}
use Rattle.starts.proofs.Fronts.{front-room, front_length, front_at}
use Rattle.acceptance.proofs.Chain.{stops-9, stops-10, stops-11, stops-12, passed}
use Rattle.acceptance.proofs.Turning.{below-same, at-most-same, turn-joined}
use Rattle.acceptance.proofs.check_schedule.Goals as goal
use Rattle.acceptance.proofs.check_schedule.Goals.{After-first_turn-turn}

abbrev edges : After-first_turn-turn → List Edge
edges t = edges_in t.args.edges.now

-- the part that the turn is put into: a start of 0 for each task
abbrev blank : After-first_turn-turn → List ℕ
blank t = take (length t.args.time.now - 0) (replicate 64 0)

blank-long : (t : After-first_turn-turn) → length (blank t) ≡ length t.args.time.now
blank-long t = front_length 64 0 refl t.requires.time_len_bound.0

row-long : (t : After-first_turn-turn) → length t.first_turn-turn.new.row ≡ length t.args.time.now
row-long t = t.first_turn-turn.ensures.size ∙ blank-long t

-- what the turn tells of a graph of so many tasks
abbrev Told : After-first_turn-turn → ℕ → Option ℕ → Type 0
Told t n o =
    MatchOption o (zero_cycle n (edges t) ≡ true)
    (λ r. (zero_cycle n (edges t) ≡ false) × Turned n (edges t) (at t.args.time.now) t.args.input r (blank t) t.first_turn-turn.new.row)

told : (t : After-first_turn-turn) {o : Option ℕ} → t.first_turn-turn.result.reached ≡ o → Told t (length t.args.time.now) o
told t {o} is =
    subst (λ (n : ℕ). Told t n o) (blank-long t) (subst (λ (p : Option ℕ). Told t (length (blank t)) p) is t.first_turn-turn.ensures.turned)

pub slice_bounds-start-end : goal.slice_bounds-start-end
unfolding zeros at
slice_bounds-start-end c = front-room 64 0 refl c.requires.time_len_bound.0

pub first_turn-turn-requires : goal.first_turn-turn-requires
unfolding zeros at
first_turn-turn-requires c =
    let es = edges_in c.args.edges.now in
    let same = sym (front_length 64 0 refl c.requires.time_len_bound.0) in
    record {
      time_len = (same, subst (λ (m : ℕ). m ≤ 64) same c.requires.time_len_bound.0, subst (λ (m : ℕ). c.args.input < m) same c.requires.time_len_bound.1);
      ends = subst (λ (m : ℕ). Ends m es) same c.requires.fit.ends;
      by_index = λ v l. front_at 64 0 refl c.requires.time_len_bound.0 v (subst (λ (m : ℕ). v < m) (sym same) l);
    }

pub returns-in_default : goal.returns-in_default
returns-in_default c =
    let t = (goal.at.returns-in_default c).After-first_turn-turn in
    record { refusal = sym (stops-9 _ _ _ _ _ _ (told t c.in_default.is)); value = tt }

pub returns-then-not-turn : goal.returns-then-not-turn
returns-then-not-turn c =
    let t = (goal.at.returns-then-not-turn c).After-first_turn-turn in
    record {
      refusal = sym (stops-10 _ _ _ _ _ _ (told t c.in-Some.is).0 (sym c.first_turn-turn.ensures.free ∙ not-true _ c.if-not-turn.true));
      value = tt;
    }

pub returns-then-not-is_reached : goal.returns-then-not-is_reached
returns-then-not-is_reached c =
    let t = (goal.at.returns-then-not-is_reached c).After-first_turn-turn in
    let made = told t c.in-Some.is in
    record {
      refusal = sym (stops-11 _ _ _ _ _ _ made.0 (sym c.first_turn-turn.ensures.free ∙ not-false _ c.if-not-turn.false)
          (sym (turn-joined c.requires.fit.ends made.1 c.args.output) ∙ sym c.is_reached.ensures ∙ c.if-not-is_reached.true));
      value = tt;
    }

pub overflow_cast-latency : goal.overflow_cast-latency
overflow_cast-latency c = Fits-widen tt (c.type_inv.time _)

pub overflow_add-latency : goal.overflow_add-latency
unfolding zeros at
overflow_add-latency c =
    let t = (goal.at.overflow_add-latency c).After-first_turn-turn in
    let low = (told t c.in-Some.is).1.low c.args.output c.requires.time_len_bound.2 in
    end-as-u32 (subst (λ (x : ℕ). x ≤ 268435456) (sym (front-start c.first_turn-turn.new.row _ (row-long t) c.args.output c.requires.time_len_bound.2)) (omega (arith, low, c.requires.time_len_bound.0))) (c.type_inv.time _)

pub returns-then-bound-latency : goal.returns-then-bound-latency
unfolding zeros at
returns-then-bound-latency c =
    let t = (goal.at.returns-then-bound-latency c).After-first_turn-turn in
    let made = told t c.in-Some.is in
    record {
      refusal = sym (stops-12 _ _ _ _ _ _ made.0 (sym c.first_turn-turn.ensures.free ∙ not-false _ c.if-not-turn.false)
          (sym (turn-joined c.requires.fit.ends made.1 c.args.output) ∙ sym c.is_reached.ensures ∙ c.if-not-is_reached.false)
          (below-same c.if-bound-latency.true
          (ap (λ (x : ℕ). x + at c.args.time.now c.args.output) (front-start c.first_turn-turn.new.row _ (row-long t) c.args.output c.requires.time_len_bound.2) ∙
          turn-latency c.requires.fit.ends made.0 (λ v l. (c.requires.file_times v l).0) made.1 (front_at 64 0 refl c.requires.time_len_bound.0) c.args.output c.requires.time_len_bound.2)));
      value = tt;
    }

pub returns : goal.returns
unfolding zeros at
returns c =
    let t = (goal.at.returns c).After-first_turn-turn in
    let made = told t c.in-Some.is in
    let ends = ap (λ (x : ℕ). x + at c.args.time.now c.args.output) (front-start c.first_turn-turn.new.row _ (row-long t) c.args.output c.requires.time_len_bound.2) ∙
    turn-latency c.requires.fit.ends made.0 (λ v l. (c.requires.file_times v l).0) made.1 (front_at 64 0 refl c.requires.time_len_bound.0) c.args.output c.requires.time_len_bound.2 in
    record {
      refusal = sym (passed _ _ _ _ _ _ made.0 (sym c.first_turn-turn.ensures.free ∙ not-false _ c.if-not-turn.false)
          (sym (turn-joined c.requires.fit.ends made.1 c.args.output) ∙ sym c.is_reached.ensures ∙ c.if-not-is_reached.false)
          (at-most-same c.if-bound-latency.false ends));
      value = ends;
    }
