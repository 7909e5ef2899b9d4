-- An edge of delay 0 added from a to b, where no way leads back from b to a: a walk passes it at most once, since two visits would hold a way back.
-- So it lies on no cycle, and latency grows only by walks to a and from b.
use mathlib.Core.Path.{◌≡◌, refl, sym, ap, ◌∙◌, subst}
use mathlib.Core.Logic.{◌⊎◌, inl, inr, ◌≢◌}
use mathlib.Core.List.Memᴰ
use mathlib.Core.List.Memᴰ.{head as here}
use mathlib.Core.List.{List, [], ◌∷◌, ◌++◌, append_assoc}
use mathlib.Core.Option.{some}
use Prim.Native.Nat.{ℕ, ◌+◌, ◌≤◌, ◌<◌}
use native.Mathlib.Omega.{arith}
use Rattle.model.specs.Tasks.{Edge, ◌∈◌, Ends}
use Rattle.model.specs.Processors.{processor_edges}
use Rattle.model.specs.Graph.{Graph, count, edges}
use Rattle.model.specs.Paths.{total, Walk, stop, step, Path, Least, smallest, Cycle, cycle, OnCycle, NoneOnCycle, NoZeroCycle, ZeroWalk, times_along}
use Rattle.model.specs.Proposals.{feedback_edges, result}
use Rattle.model.specs.Theorems.{OffCycles}
use Rattle.model.specs.Plan.{present_edges, pair_edge, with_pair, Candidate, Counts, itself, least, Subsumes}
use Rattle.model.specs.PlanTheorems.{FeedbackNotSubsumed, PairInTime}
use Rattle.model.proofs.Walks.{total-append, walk_from, walk-append, walk-path, walk-re-base, cycle-back}
use Rattle.model.proofs.Graphs.{graph-serial}

-- the edges with the pair's added last
abbrev pub added : List Edge → ℕ → ℕ → List Edge
added es a b = es ++ (pair_edge a b ∷ [])

pub pair-member : (es : List Edge) (a b : ℕ) → pair_edge a b ∈ added es a b
pair-member es a b = Memᴰ.append_right es (here refl)

pub added-ends : {n : ℕ} {es : List Edge} → Ends n es → {a b : ℕ} → a < n → b < n → Ends n (added es a b)
unfolding pair_edge
added-ends {n} {es} ends {a} {b} la lb e m = go (Memᴰ.append_cases es m)
  where
    go : e ∈ es ⊎ e ∈ (pair_edge a b ∷ []) → (e.source < n) × (e.sink < n)
    go (inl k) = ends e k
    go (inr k) = subst (λ (f : Edge). (f.source < n) × (f.sink < n)) (sym (Memᴰ.eq_of_singleton k)) (la, lb)

-- no way leads from b to a, not even that of no edge
abbrev pub NoWay : List Edge → ℕ → ℕ → Type 0
NoWay es b a = (p : List Edge) → Walk es b p a → ⊥

pub no_way : {es : List Edge} {a b : ℕ} → ((d : ℕ) → Path es b a d → ⊥) → b ≢ a → NoWay es b a
no_way {es} {a} {b} none apart p w = go (walk-path w)
  where
    go : ((b ≡ a) × (total p ≡ 0)) ⊎ Path es b a (total p) → ⊥
    go (inl h) = apart h.0
    go (inr r) = none (total p) r

-- ── Walks ──

-- a walk that does without the pair's edge, or passes it once
pub data Split (es : List Edge) (a b x : ℕ) (p : List Edge) (y : ℕ) : Type 0 where
  without : Walk es x p y → Split es a b x p y
  across : (before after : List Edge) → p ≡ before ++ (pair_edge a b ∷ after) → Walk es x before a → Walk es b after y → Split es a b x p y

module _ {es : List Edge} {a b : ℕ} (none : NoWay es b a) where
  pub pair-split : {x y : ℕ} {p : List Edge} → Walk (added es a b) x p y → Split es a b x p y
  unfolding pair_edge
  pair-split (stop q) = without (stop q)
  pair-split {x} {y} (step {e = e} {p = p} m s w) = go (Memᴰ.append_cases es m) (pair-split w)
    where
      go : e ∈ es ⊎ e ∈ (pair_edge a b ∷ []) → Split es a b e.sink p y → Split es a b x (e ∷ p) y
      go (inl k) (without v) = without (step k s v)
      go (inl k) (across before after q v v') = across (e ∷ before) after (ap {B = List Edge} (λ (r : List Edge). e ∷ r) q) (step k s v) v'
      go (inr k) (without v) =
          let q = Memᴰ.eq_of_singleton k in
          across [] p (ap {B = List Edge} (λ (f : Edge). f ∷ p) q) (stop (sym s ∙ ap {B = ℕ} (λ (f : Edge). f.source) q))
          (walk_from (ap {B = ℕ} (λ (f : Edge). f.sink) (sym q)) v)
      go (inr k) (across before after q v v') =
          absurd (none before (walk_from (ap {B = ℕ} (λ (f : Edge). f.sink) (sym (Memᴰ.eq_of_singleton k))) v))

  -- ── Cycles ──

  -- there is no way back with the pair's edge either
  pub pair-no-way : NoWay (added es a b) b a
  pair-no-way p w = go (pair-split w)
    where
      go : Split es a b b p a → ⊥
      go (without v) = none p v
      go (across before after q v v') = none before v

  pub pair-on-no-cycle : OnCycle (added es a b) (pair_edge a b) → ⊥
  unfolding pair_edge
  pair-on-no-cycle c = let r = (cycle-back c).2 in pair-no-way (r.first ∷ r.rest) r.walk

  -- every cycle is one without the pair's edge
  pub pair-cycle : {p : List Edge} → Cycle (added es a b) p → Cycle es p
  pair-cycle (cycle {a = x} {e = e} {p = p} w) = go (pair-split w)
    where
      go : Split es a b x (e ∷ p) x → Cycle es (e ∷ p)
      go (without v) = cycle v
      go (across before after q v v') = absurd (none (after ++ before) (walk-append v' v))

  pub pair-on-cycle : {e : Edge} → OnCycle (added es a b) e → OnCycle es e
  pair-on-cycle c = (c.0, pair-cycle c.1, c.2)

  pub pair-acyclic : NoZeroCycle es → NoZeroCycle (added es a b)
  pair-acyclic acyclic c = acyclic (c.0, pair-cycle c.1, c.2)

-- the edges stay where the pair's is added
pub added-walk : {es : List Edge} (a b : ℕ) {x y : ℕ} {p : List Edge} → Walk es x p y → Walk (added es a b) x p y
added-walk a b w = walk-re-base (λ e k m. Memᴰ.append_left (pair_edge a b ∷ []) m) w

-- ── Latency ──

times-across : (time : ℕ → ℕ) (x a b : ℕ) (p q : List Edge) → times_along time x (p ++ (pair_edge a b ∷ q)) ≡ times_along time x p + times_along time b q
unfolding times_along pair_edge
times-across time x a b [] q = refl
times-across time x a b (e ∷ p) q = let h = times-across time e.sink a b p q in omega arith

total-across : (a b : ℕ) (p q : List Edge) → total (p ++ (pair_edge a b ∷ q)) ≡ total p + total q
unfolding total pair_edge
total-across a b p q = let h = total-append p (pair_edge a b ∷ q) in omega arith

pub pair-in-time : PairInTime
unfolding pair_edge
pair-in-time es a b none apart time output bound l m short l-below long = (to, from)
  where
    Sums : Type 0
    Sums = (x : ℕ) (p q : List Edge) → ZeroWalk es x p a → ZeroWalk es b q output → times_along time x p + times_along time b q ≤ bound

    to : m ≤ bound → Sums
    to h x p q v w =
        let walk = walk-append (added-walk a b v.0) (step (pair-member es a b) refl (added-walk a b w.0)) in
        let zero-v = v.1 in
        let zero-w = w.1 in
        let sum = total-across a b p q in
        let below = long.largest x (p ++ (pair_edge a b ∷ q)) (walk, omega arith) in
        let along = times-across time x a b p q in
        omega arith

    from : Sums → m ≤ bound
    from sums = let r = long.reached in go r.0 r.1 r.2.1 r.3 (pair-split (no_way none apart) r.2.0)
      where
        go : (x : ℕ) (p : List Edge) → total p ≡ 0 → times_along time x p ≡ m → Split es a b x p output → m ≤ bound
        go x p z q (without v) = let below = short.largest x p (v, z) in omega arith
        go x p z q (across before after r v v') =
            let sum = ap total r in
            let parts = total-across a b before after in
            let along = ap (times_along time x) r in
            let times = times-across time x a b before after in
            let below = sums x before after (v, omega arith) (v', omega arith) in
            omega arith

-- ── The present graph ──

pub present-pair : (g : Graph) (list : List Edge) (a b : ℕ) → present_edges g (with_pair list a b) ≡ added (present_edges g list) a b
unfolding present_edges edges result with_pair
present-pair g list a b =
    ap (λ (xs : List Edge). processor_edges g.tasks ++ xs) (sym (append_assoc (feedback_edges g) list (pair_edge a b ∷ []))) ∙
    sym (append_assoc (processor_edges g.tasks) (feedback_edges g ++ list) (pair_edge a b ∷ []))

-- where no path leads from b to a they differ, since every task has a path to itself
pub present-no-way : (g : Graph) (list : List Edge) {a b : ℕ} → b < count g → ((d : ℕ) → Path (present_edges g list) b a d → ⊥) →
    NoWay (present_edges g list) b a
unfolding present_edges result
present-no-way g list {a} {b} l none = no_way none apart
  where
    apart : b ≢ a
    apart q = none 1 (subst (λ (x : ℕ). Path (present_edges g list) b x 1) q (graph-serial (result g list) b l))

pub candidate-no-way : (g : Graph) (list : List Edge) {a b : ℕ} → Candidate g list a b → NoWay (present_edges g list) b a
candidate-no-way g list c = present-no-way g list c.sink_task c.no_path_back

pub candidate-apart : (g : Graph) (list : List Edge) {a b : ℕ} → Candidate g list a b → b ≢ a
candidate-apart g list c q = candidate-no-way g list c [] (stop q)

-- with such a pair added, still no edge of the list lies on a cycle
pub pair-off-cycles : (g : Graph) (list : List Edge) → OffCycles g list → (a b : ℕ) → a < count g → b < count g →
    ((d : ℕ) → Path (present_edges g list) b a d → ⊥) → OffCycles g (with_pair list a b)
unfolding present_edges with_pair pair_edge
pair-off-cycles g list off a b l l' none =
    record { sync_ends = off.sync_ends; proposed_ends = added-ends off.proposed_ends l l'; no_zero_cycle = off.no_zero_cycle; off_cycles = no-cycle }
  where
    no-cycle : NoneOnCycle (present_edges g (with_pair list a b)) (added list a b)
    no-cycle e m c =
        go (Memᴰ.append_cases list m) (subst (λ (es : List Edge). OnCycle es e) (present-pair g list a b) c)
      where
        back : NoWay (present_edges g list) b a
        back = present-no-way g list l' none

        go : e ∈ list ⊎ e ∈ (pair_edge a b ∷ []) → OnCycle (added (present_edges g list) a b) e → ⊥
        go (inl k) c = off.off_cycles e k (pair-on-cycle back c)
        go (inr k) c = pair-on-no-cycle back (subst (λ (f : Edge). OnCycle (added (present_edges g list) a b) f) (Memᴰ.eq_of_singleton k) c)

-- ── What a pair subsumes ──

pub counts-walk : {es : List Edge} {a b d : ℕ} → Counts es a b d → (p : List Edge) × Walk es a p b × (total p ≡ d)
unfolding total
counts-walk (itself q z) = ([], stop q, sym z)
counts-walk {es} {a} {b} (least other l) = go l
  where
    go : {d : ℕ} → Least es a b (some d) → (p : List Edge) × Walk es a p b × (total p ≡ d)
    go (smallest r h) = (r.first ∷ r.rest, r.walk, r.sum)

-- the walks by which a pair subsumes an edge
pub subsumed-walks : {es : List Edge} {a b : ℕ} {e : Edge} → Subsumes es a b e →
    (p : List Edge) × (q : List Edge) × Walk es e.source p a × Walk es b q e.sink × (total p + total q ≤ e.delay)
subsumed-walks h =
    let v = counts-walk h.to_source in
    let w = counts-walk h.from_sink in
    let sum-v = v.2 in
    let sum-w = w.2 in
    let l = h.within in
    (v.0, w.0, v.1, w.1, omega arith)

-- from the sink of an edge that a candidate subsumes no way leads back to its source
pub subsumed-no-way : {es : List Edge} {a b : ℕ} {e : Edge} → NoWay es b a → Subsumes es a b e → NoWay es e.sink e.source
subsumed-no-way none h p w = let r = subsumed-walks h in none (r.1 ++ (p ++ r.0)) (walk-append r.3 (walk-append w r.2))

pub feedback-not-subsumed : FeedbackNotSubsumed
feedback-not-subsumed g list a b candidate e c h =
    let r = (cycle-back c).2 in
    subsumed-no-way (candidate-no-way g list candidate) h (r.first ∷ r.rest) r.walk
