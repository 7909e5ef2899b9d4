-- `latest::latest_along` meets its contract: the numbers raised backwards say which start of each task is the latest, and the loop puts it in
-- their place.
use mathlib.Core.Path.{◌≡◌, sym, ap, subst, ◌∙◌}
use Prim.Native.Nat.{ℕ, ◌≤◌, ◌<◌}
use native.Mathlib.Nat.{le_refl}
use native.Mathlib.Omega.{arith}
use lib.ListN.{length}
use Rattle.records.specs.Columns.{at, zeros}
use Rattle.records.proofs.Parts.{zeros-room}
use Rattle.turn.specs.Turn.{LeadsBack}
use Rattle.latest.proofs.Backwards.{given-length}
use Rattle.latest.proofs.Steps.{Sofar, sofar-more, sofar-all, sofar-passed, passable-back}
use Rattle.latest.proofs.latest_along.Goals as goal
use Rattle.latest.proofs.latest_along.Goals.{After-fill, In-loop-v}

blank : (c : After-fill) → c.fill.new.self ≡ zeros (length c.args.time.now)
unfolding zeros
blank c = c.fill.ensures.after (λ y e. e) ∙ ap zeros c.requires.sources_len.2

-- the loop so far, for the edges that the contract names
sofar : (i : In-loop-v) → Sofar (length i.args.time.now) i.requires.by_index.0 (at i.args.time.now) i.args.output i.args.bound i.loop-v.v i.loop-v.row
sofar i = let known = i.requires.by_index in i.loop-v.invariant known.0 known.1 known.2 known.3

pub bounds-row-output : goal.bounds-row-output
bounds-row-output c = zeros-room (length c.args.time.now) (blank (goal.at.bounds-row-output c).After-fill) c.requires.sources_len.4

pub pass_back-requires : goal.pass_back-requires
pass_back-requires c =
    let cleared = blank (goal.at.pass_back-requires c).After-fill in
    let long = sym (given-length c.requires.sources_len.4 cleared) in
    record {
      words_len = (c.requires.sources_len.0, c.requires.sources_len.1, long, subst (λ (m : ℕ). m ≤ 64) long c.requires.sources_len.3);
      leads_back = (subst (λ (m : ℕ). LeadsBack c.args.sources.now m c.args.sequence.now) long c.requires.leads_back, passable-back c.requires.by_index.2 c.requires.sources_len.3 c.requires.sources_len.4 cleared);
    }

pub loop-v-init : goal.loop-v-init
loop-v-init c = λ es sinks worked fits. sofar-passed worked c.requires.sources_len.3 c.requires.sources_len.4 (blank (goal.at.loop-v-init c).After-fill) c.pass_back.ensures fits

pub bounds-time-v : goal.bounds-time-v
bounds-time-v c = omega (arith, c.loop-v-test.true, (sofar (goal.at.bounds-time-v c).In-loop-v).size)

pub latest_start-requires : goal.latest_start-requires
unfolding at
latest_start-requires c =
    let known = sofar (goal.at.latest_start-requires c).In-loop-v in
    record {
      bound_bound = c.requires.sources_len.5;
      time_bound = (known.rest c.loop-v.v (le_refl c.loop-v.v) (omega (arith, c.loop-v-test.true, known.size))).left;
    }

pub loop-v-preserved : goal.loop-v-preserved
unfolding at
loop-v-preserved c = λ es sinks worked fits.
    let v = c.loop-v.v in
    let known = c.loop-v.invariant es sinks worked fits in
    let below : v < length c.args.time.now = omega (arith, c.loop-v-test.true, known.size) in
    let start = c.latest_start.ensures in
    sofar-more known _ below ((known.rest v (le_refl v) below).latest _ start.near start.far)

pub returns : goal.returns
returns c = λ es sinks worked fits. let known = c.loop-v.invariant es sinks worked fits in sofar-all known (omega (arith, c.loop-v-test.false, known.size))
