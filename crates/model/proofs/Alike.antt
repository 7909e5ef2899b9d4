-- Two edge lists of which each holds the orders of the other order the same: a walk of either follows the other edge by edge, with no larger delay and
-- no smaller times. So they have the same latencies, and in the plan the graph's edges with the pairs taken so far order as the present graph does.
use mathlib.Core.Path.{◌≡◌, refl, sym, ap, subst}
use mathlib.Core.Logic.{◌⊎◌, inl, inr}
use mathlib.Core.Bool.{Bool, false, not}
use mathlib.Core.List.Memᴰ
use mathlib.Core.List.{List, [], ◌∷◌, ◌++◌}
use Prim.Native.Nat.{ℕ, ◌+◌, ◌≤◌, ◌<◌}
use native.Mathlib.Nat.{le_refl, le_trans, le_antisymm}
use native.Mathlib.Omega.{arith}
use lib.Dec.{T}
use Rattle.model.specs.Tasks.{Edge, ◌∈◌, Ends}
use Rattle.model.specs.Graph.{Graph, count, edges, WellFormedEdges}
use Rattle.model.specs.Paths.{total, Walk, stop, step, Path, OrderHeld, AllHeld, NoZeroCycle, ZeroWalk, times_along, Latency}
use Rattle.model.specs.Compute.{zero_cycle, latency}
use Rattle.model.specs.Proposals.{AcceptedGraph, AcceptedProposal}
use Rattle.model.specs.Theorems.{OffCycles}
use Rattle.model.specs.Plan.{present_edges, first_stage, pair_edge, Candidate, replaced}
use Rattle.model.proofs.Walks.{total-append, walk_from, walk-append, path-edge, path-then-walk, path-ends, path-cycle, cycle-path}
use Rattle.model.proofs.Tests.{held-path, path-held, decides-no, zero-cycle}
use Rattle.model.proofs.Latency.{Reached, extend, latency_is, latency-unique}
use Rattle.model.proofs.Graphs.{graph-ends}
use Rattle.model.proofs.Accepted.{off-cycles-of}
use Rattle.model.proofs.Pairs.{added, added-ends, added-walk, present-pair}
use Rattle.model.proofs.Choices.{present-ends}
use Rattle.model.proofs.Stages.{Among, held-among, result-among, first-among, first-accepted, replaced-among, next-ends, pair-in, replaced-held}

-- Each edge of either list has its order held in the other.
pub record Alike (es rs : List Edge) : Type 0 where
  pub held : AllHeld rs es
  pub held_back : AllHeld es rs

pub alike-back : {es rs : List Edge} → Alike es rs → Alike rs es
alike-back alike = record { held = alike.held_back; held_back = alike.held }

-- ── Walks ──

-- tasks before a walk only add times
times-after : {es : List Edge} (time : ℕ → ℕ) {x y : ℕ} {p : List Edge} (q : List Edge) → Walk es x p y → times_along time y q ≤ times_along time x (p ++ q)
unfolding times_along
times-after time {x} q (stop s) = let same = ap (λ (v : ℕ). times_along time v q) s in omega arith
times-after time q (step m s w) = let rest = times-after time q w in omega arith

-- a walk of rs between the ends of p, with no larger delay and no smaller times
abbrev pub Followed : List Edge → ℕ → List Edge → ℕ → Type 0
Followed rs x p y = (q : List Edge) × Walk rs x q y × (total q ≤ total p) × ((time : ℕ → ℕ) → times_along time x p ≤ times_along time x q)

module _ {es rs : List Edge} (held : AllHeld rs es) where
  -- a walk follows the held orders edge by edge
  pub walk-held : {x y : ℕ} {p : List Edge} → Walk es x p y → Followed rs x p y
  unfolding total times_along
  walk-held (stop q) = ([], stop q, le_refl 0, λ time. le_refl _)
  walk-held {x} {y} (step {e = e} {p = p} m s w) = go (held-path (held e m)) (walk-held w)
    where
      -- the first task of a path counts besides
      first-counts : (time : ℕ → ℕ) {z : ℕ} {f : Edge} {p : List Edge} (q : List Edge) → Walk rs z (f ∷ p) e.sink →
          times_along time e.sink q ≤ times_along time f.sink (p ++ q)
      first-counts time q (step m s w) = times-after time q w

      go : (d : ℕ) × Path rs e.source e.sink d × (d ≤ e.delay) → Followed rs e.sink p y → Followed rs x (e ∷ p) y
      go r v =
          let path = r.1 in
          let sum = path.sum in
          let below = r.2 in
          let rest = v.2 in
          let parts = total-append (path.first ∷ path.rest) v.0 in (
            (path.first ∷ path.rest) ++ v.0,
            walk-append (walk_from (sym s) path.walk) v.1,
            omega arith,
            λ time. let more = v.3 time in let after = first-counts time v.0 path.walk in omega arith,
          )

  pub alike-zero-walk : {v w : ℕ} {p : List Edge} → ZeroWalk es v p w → (time : ℕ → ℕ) →
      (q : List Edge) × ZeroWalk rs v q w × (times_along time v p ≤ times_along time v q)
  alike-zero-walk w time =
      let r = walk-held w.0 in
      let zero-before = w.1 in
      let below = r.2 in
      (r.0, (r.1, omega arith), r.3 time)

  -- and so does a path
  pub path-along : {a b d : ℕ} → Path es a b d → (d' : ℕ) × Path rs a b d' × (d' ≤ d)
  unfolding total
  path-along {a} {b} {d} r = go r.walk r.sum
    where
      go : {e : Edge} {p : List Edge} → Walk es a (e ∷ p) b → total (e ∷ p) ≡ d → (d' : ℕ) × Path rs a b d' × (d' ≤ d)
      go (step {e = e} m s w) sum =
          let first = held-path (held e m) in
          let below = first.2 in
          let rest = walk-held w in
          let below' = rest.2 in
          (first.0 + total rest.0, path-ends s refl (path-then-walk first.1 rest.1), omega arith)

  -- ── Cycles of delay 0 ──

  pub alike-zero-cycle : NoZeroCycle rs → NoZeroCycle es
  alike-zero-cycle none c =
      let r = cycle-path c.1 in
      let along = path-along r.1 in
      let k = path-cycle along.1 in
      let zero-before = c.2 in
      let below = along.2 in
      let sum = k.2 in
      none (k.0, k.1, omega arith)

  pub alike-no-zero-cycle : {n : ℕ} → Ends n es → Ends n rs → zero_cycle n rs ≡ false → zero_cycle n es ≡ false
  alike-no-zero-cycle ends ends' none =
      decides-no (zero-cycle ends) (alike-zero-cycle ((zero-cycle ends').if_false (subst (λ (b : Bool). T (not b)) (sym none) tt)))

-- ── Longer lists ──

-- a list holds the orders of its own edges
among-held : {n : ℕ} {es rs : List Edge} → Ends n rs → Among es rs → AllHeld rs es
among-held ends among e m = path-held ends e (path-edge (among e m)) (le_refl e.delay)

held-trans : {n : ℕ} {es rs qs : List Edge} → Ends n qs → AllHeld rs es → AllHeld qs rs → AllHeld qs es
held-trans ends held held' e m =
    let r = held-path (held e m) in
    let along = path-along held' r.1 in
    path-held ends e along.1 (le_trans along.2 r.2)

pub alike-trans : {n : ℕ} {es rs qs : List Edge} → Ends n es → Ends n qs → Alike es rs → Alike rs qs → Alike es qs
alike-trans ends ends' alike alike' =
    record { held = held-trans ends' alike.held alike'.held; held_back = held-trans ends alike'.held_back alike.held_back }

added-among : (es : List Edge) (a b : ℕ) → Among es (added es a b)
added-among es a b e m = Memᴰ.append_left (pair_edge a b ∷ []) m

-- a pair added to both
pub added-alike : {n : ℕ} {es rs : List Edge} → Ends n es → Ends n rs → {a b : ℕ} → a < n → b < n → Alike es rs → Alike (added es a b) (added rs a b)
added-alike {n} ends ends' {a} {b} la lb alike = record { held = added-held ends' alike.held; held_back = added-held ends alike.held_back }
  where
    added-held : {es rs : List Edge} → Ends n rs → AllHeld rs es → AllHeld (added rs a b) (added es a b)
    added-held {es} {rs} ends held e m = go (Memᴰ.append_cases es m)
      where
        go : e ∈ es ⊎ e ∈ (pair_edge a b ∷ []) → OrderHeld (added rs a b) e
        go (inl k) = held-among (added-among rs a b) (added-ends ends la lb) held e k
        go (inr k) = among-held (added-ends ends la lb) (λ f h. Memᴰ.append_right rs h) e k

-- ── Latency ──

pub alike-latency : (n : ℕ) (es rs : List Edge) → Ends n es → Ends n rs → NoZeroCycle es → Alike es rs → (time : ℕ → ℕ) (v : ℕ) →
    latency n es time v ≡ latency n rs time v
alike-latency n es rs ends ends' none alike time v = le_antisymm (below alike.held here there) (below alike.held_back there here)
  where
    here : Latency es time v (latency n es time v)
    here = latency_is n es ends none time v

    there : Latency rs time v (latency n rs time v)
    there = latency_is n rs ends' (alike-zero-cycle alike.held_back none) time v

    below : {es rs : List Edge} → AllHeld rs es → {l l' : ℕ} → Latency es time v l → Latency rs time v l' → l ≤ l'
    below held first second =
        let r = first.reached in
        let along = alike-zero-walk held r.2 time in
        let most = second.largest r.0 along.0 along.1 in
        let more = along.2 in
        let sum = r.3 in
        omega arith

-- A pair whose source ends before its sink starts raises no end.
module _
    {n : ℕ} {es : List Edge} (ends : Ends n es) {a b : ℕ} (la : a < n) (lb : b < n) (none : NoZeroCycle (added es a b)) (time : ℕ → ℕ)
    (early : latency n es time a + time b ≤ latency n es time b)
  where
    here : (v : ℕ) → Latency es time v (latency n es time v)
    here = latency_is n es ends (alike-zero-cycle (among-held (added-ends ends la lb) (added-among es a b)) none) time

    -- the sink of an edge of delay 0 starts when its source has ended
    waits : (e : Edge) → e ∈ added es a b → e.delay ≡ 0 → latency n es time e.source + time e.sink ≤ latency n es time e.sink
    unfolding pair_edge Reached
    waits e m z = go (Memᴰ.append_cases es m)
      where
        go : e ∈ es ⊎ e ∈ (pair_edge a b ∷ []) → latency n es time e.source + time e.sink ≤ latency n es time e.sink
        go (inl k) =
            let r = extend time (latency n es time e.source) e k refl z (here e.source).reached in
            let most = (here e.sink).largest r.0 r.1 r.2 in
            let sum = r.3 in
            omega arith
        go (inr k) =
            subst (λ (f : Edge). latency n es time f.source + time f.sink ≤ latency n es time f.sink) (sym (Memᴰ.eq_of_singleton k)) early

    -- so along a walk the ends grow by the times
    ends-grow : {x y : ℕ} {p : List Edge} → Walk (added es a b) x p y → total p ≡ 0 →
        latency n es time x + times_along time x p ≤ latency n es time y + time x
    unfolding total times_along
    ends-grow (stop q) z = let same = ap (latency n es time) q in omega arith
    ends-grow (step {e = e} m s w) z =
        let rest = ends-grow w (omega arith) in
        let grow = waits e m (omega arith) in
        let same = ap (latency n es time) s in
        omega arith

    pub pair-latency : (v : ℕ) → latency n (added es a b) time v ≡ latency n es time v
    unfolding total times_along
    pair-latency v = latency-unique (latency_is n (added es a b) (added-ends ends la lb) none time v) both
      where
        both : Latency (added es a b) time v (latency n es time v)
        both =
            let r = (here v).reached in
            record {
              reached = (r.0, r.1, (added-walk a b r.2.0, r.2.1), r.3);
              largest = λ x p w.
                  let grow = ends-grow w.0 w.1 in
                  let own = (here x).largest x [] (stop refl, refl) in
                  omega arith;
            }

-- ── The plan ──

-- what the first stage drops has its order held
pub first_alike : (g : Graph) → AcceptedGraph g → Alike (present_edges g (first_stage g)) (edges g)
unfolding present_edges
first_alike g graph =
    record {
      held = among-held (graph-ends g graph.formed.syncs_formed.ends) (first-among g graph);
      held_back = (first-accepted g graph).orders;
    }

-- the pair is taken, and what it subsumes has its order held
pub replaced-alike : (g : Graph) (list : List Edge) → OffCycles g list → (a b : ℕ) → Candidate g list a b →
    Alike (present_edges g (replaced g list a b)) (added (present_edges g list) a b)
unfolding present_edges
replaced-alike g list off a b candidate = record { held = among-held ends-pair among; held_back = λ e m. go e (Memᴰ.append_cases now m) }
  where
    now : List Edge
    now = present_edges g list

    next : List Edge
    next = present_edges g (replaced g list a b)

    ends-pair : Ends (count g) (added now a b)
    ends-pair = added-ends (present-ends g list off) candidate.source_task candidate.sink_task

    among : Among next (added now a b)
    among =
        subst (λ (es : List Edge). Among next es) (present-pair g list a b)
        (result-among g off.sync_ends (replaced-among g list off a b candidate))

    go : (e : Edge) → e ∈ now ⊎ e ∈ (pair_edge a b ∷ []) → OrderHeld next e
    go e (inl k) = replaced-held g list off a b candidate e k
    go e (inr k) =
        among-held (next-ends g list off a b candidate)
        (λ f h. subst (λ (y : Edge). y ∈ next) (sym (Memᴰ.eq_of_singleton h)) (pair-in g list off a b candidate)) e k

pub step-alike : (g : Graph) → AcceptedGraph g → (list : List Edge) → WellFormedEdges (count g) list → AcceptedProposal g list → (a b : ℕ) →
    Candidate g list a b → (es : List Edge) → Ends (count g) es → Alike (present_edges g list) es →
    Alike (present_edges g (replaced g list a b)) (es ++ (pair_edge a b ∷ []))
unfolding present_edges
step-alike g graph list formed accepted a b candidate es ends alike =
    alike-trans (next-ends g list off a b candidate) (added-ends ends la lb) (replaced-alike g list off a b candidate)
    (added-alike (present-ends g list off) ends la lb alike)
  where
    off : OffCycles g list
    off = off-cycles-of g list graph formed accepted.off_cycles

    la : a < count g
    la = candidate.source_task

    lb : b < count g
    lb = candidate.sink_task
