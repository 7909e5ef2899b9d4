-- Every stage of an accepted graph's plan is accepted as a proposal. The first: redundant edges are dropped together. A step: an edge that the pair
-- subsumes is replaced by the way over the pair, and no edge of that way is subsumed, since this would make a way back from the pair's sink.
use mathlib.Core.Path.{◌≡◌, refl, sym, ap, subst}
use mathlib.Core.Logic.{◌⊎◌, inl, inr}
use mathlib.Core.Bool.{Bool, true, false, not, ◌&&◌}
use mathlib.Core.List.Memᴰ
use mathlib.Core.List.Memᴰ.{head as here}
use mathlib.Core.List.Memᴰ.{tail as there}
use mathlib.Core.List.{List, [], ◌∷◌, ◌++◌, Memᴰ}
use Prim.Native.Nat.{ℕ, suc, ◌+◌, ◌≤◌, ◌<◌}
use native.Mathlib.Nat.{le_refl, le_trans, zero-add, add-zero}
use native.Mathlib.Omega.{arith}
use lib.Dec.{T, T_not}
use lib.ListN.{length, get_or, length-append}
use Rattle.model.specs.Lists.{put, keep, keep_places}
use Rattle.model.specs.Tasks.{Edge, ◌∈◌, Ends, Distinct, no_edge}
use Rattle.model.specs.Processors.{processor_edges}
use Rattle.model.specs.Graph.{Graph, count, edges, time_of, WellFormedEdges}
use Rattle.model.specs.Paths.{total, Walk, stop, step, Path, OrderHeld, AllHeld, sync_at, Redundant, OnCycle, NoneOnCycle, Feedback, Feedforward, Latency, Serial}
use Rattle.model.specs.Compute.{is_redundant, is_feedback, latency_of}
use Rattle.model.specs.Proposals.{dropping, result, AcceptedGraph, AcceptedProposal}
use Rattle.model.specs.Theorems.{Decides, OffCycles}
use Rattle.model.specs.Plan.{present_edges, first_stage, pair_edge, with_pair, Candidate, itself, Subsumes, subsumes, gain, replaced, Step, at_first, then_step}
use Rattle.model.specs.PlanTheorems.{StepLowers, StageAccepted, StageResynchronizes}
use Rattle.model.proofs.Basics.{cases, place-member, and_left, and_right, and_both, put-out, keep-in, keep_out, places-in, places-out}
use Rattle.model.proofs.Walks.{total-append, walk-append, walk_split, walk-re-base, path-edge, path-re-base, cycle-back, back-cycle}
use Rattle.model.proofs.Tests.{held-path, path-held, decides-true, decides_not, decided}
use Rattle.model.proofs.Orders.{orders-kept}
use Rattle.model.proofs.Latency.{latency_is}
use Rattle.model.proofs.Graphs.{edge-cases, processor-edge-in, sync-edge-in, redundant-decides, feedback-decides}
use Rattle.model.proofs.Together.{dropped-together}
use Rattle.model.proofs.Results.{Origin, result-cases, result-processor, result-feedback, result-proposed, result-ends, result-serial}
use Rattle.model.proofs.Accepted.{acyclic-result, off-cycles-of, result-orders, accepted-result}
use Rattle.model.proofs.Pairs.{NoWay, candidate-no-way, pair-off-cycles, subsumed-walks}
use Rattle.model.proofs.Choices.{subsumes-is}

-- ── Kept elements ──

module _ {A : Type 0} where
  put-lengths : (b : Bool) (x : A) (xs ys : List A) → length (put b x xs) + length (put (not b) x ys) ≡ suc (length xs + length ys)
  unfolding put
  put-lengths true x xs ys = omega arith
  put-lengths false x xs ys = omega arith

  -- what passes a test and what does not are together the whole list
  pub keep-lengths : (t : A → Bool) (xs : List A) → length (keep t xs) + length (keep (λ x. not (t x)) xs) ≡ length xs
  unfolding keep
  keep-lengths t [] = refl
  keep-lengths t (x ∷ xs) =
      let parts = put-lengths (t x) x (keep t xs) (keep (λ y. not (t y)) xs) in
      let rest = keep-lengths t xs in
      omega arith

  put-length : (b : Bool) (x : A) (xs : List A) → length (put b x xs) ≤ suc (length xs)
  unfolding put
  put-length true x xs = omega arith
  put-length false x xs = omega arith

  pub places-length : (t : ℕ → Bool) (k : ℕ) (xs : List A) → length (keep_places t k xs) ≤ length xs
  unfolding keep_places
  places-length t k [] = omega arith
  places-length t k (x ∷ xs) = let one = put-length (t k) x (keep_places t (suc k) xs) in let rest = places-length t (suc k) xs in omega arith

  -- where an element that was kept by its place stands
  pub places-passed : (t : ℕ → Bool) (k : ℕ) {e : A} (xs : List A) (x₀ : A) → Memᴰ e (keep_places t k xs) →
      (i : ℕ) × (i < length xs) × (get_or xs i x₀ ≡ e) × T (t (k + i))
  unfolding keep_places
  places-passed t k [] x₀ m = absurd (Memᴰ.not-nil m)
  places-passed t k {e} (x ∷ xs) x₀ m = go (λ m'. places-passed t (suc k) xs x₀ m') (put-out (t k) m)
    where
      go : (Memᴰ e (keep_places t (suc k) xs) → (i : ℕ) × (i < length xs) × (get_or xs i x₀ ≡ e) × T (t (suc k + i))) →
          ((e ≡ x) × T (t k)) ⊎ Memᴰ e (keep_places t (suc k) xs) → (i : ℕ) × (i < length (x ∷ xs)) × (get_or (x ∷ xs) i x₀ ≡ e) × T (t (k + i))
      go ih (inl h) = (0, omega arith, sym h.0, subst (λ (i : ℕ). T (t i)) (sym (add-zero k)) h.1)
      go ih (inr m') =
          let r = ih m' in
          let l = r.1 in
          let next : suc k + r.0 ≡ k + suc r.0 = omega arith in
          (suc r.0, omega arith, r.2, subst (λ (i : ℕ). T (t i)) next r.3)

put-distinct : (b : Bool) (e : Edge) {es : List Edge} → (e ∈ es → ⊥) → Distinct es → Distinct (put b e es)
unfolding put
put-distinct true e fresh d = (fresh, d)
put-distinct false e fresh d = d

pub keep-distinct : (t : Edge → Bool) (es : List Edge) → Distinct es → Distinct (keep t es)
unfolding keep
keep-distinct t [] d = tt
keep-distinct t (e ∷ es) d = put-distinct (t e) e (λ m. d.0 (keep_out t es m).0) (keep-distinct t es d.1)

pub places-distinct : (t : ℕ → Bool) (k : ℕ) (es : List Edge) → Distinct es → Distinct (keep_places t k es)
unfolding keep_places
places-distinct t k [] d = tt
places-distinct t k (e ∷ es) d = put-distinct (t k) e (λ m. d.0 (places-out t (suc k) es m)) (places-distinct t (suc k) es d.1)

-- one edge more at the end
pub distinct_snoc : {e : Edge} (es : List Edge) → Distinct es → (e ∈ es → ⊥) → Distinct (es ++ (e ∷ []))
distinct_snoc [] d fresh = (λ m. Memᴰ.not-nil m, tt)
distinct_snoc {e} (f ∷ es) d fresh = (λ m. go (Memᴰ.append_cases es m), distinct_snoc es d.1 (λ m. fresh (there m)))
  where
    go : f ∈ es ⊎ f ∈ (e ∷ []) → ⊥
    go (inl k) = d.0 k
    go (inr k) = fresh (here (sym (Memᴰ.eq_of_singleton k)))

-- ── Fewer edges ──

-- rs holds every edge of es
abbrev pub Among : List Edge → List Edge → Type 0
Among es rs = (e : Edge) → e ∈ es → e ∈ rs

module _ {es rs : List Edge} (among : Among es rs) where
  on-cycle-among : {e : Edge} → OnCycle es e → OnCycle rs e
  on-cycle-among {e} c = let r = cycle-back c in back-cycle (among e r.0) (path-re-base among r.2)

  pub held-among : {n : ℕ} → Ends n rs → {xs : List Edge} → AllHeld es xs → AllHeld rs xs
  held-among bounds held e m = let r = held-path (held e m) in path-held bounds e (path-re-base among r.1) r.2

  pub latency-among : {time : ℕ → ℕ} {output l m : ℕ} → Latency es time output l → Latency rs time output m → l ≤ m
  latency-among {m = m} few many =
      let r = few.reached in
      subst (λ (x : ℕ). x ≤ m) r.3 (many.largest r.0 r.1 (walk-re-base (λ e k. among e) r.2.0, r.2.1))

-- the result of fewer proposed edges
pub result-among : (g : Graph) → Ends (count g) g.syncs → {xs ys : List Edge} → Among xs ys → Among (edges (result g xs)) (edges (result g ys))
result-among g bounds {xs} {ys} among e m = go (result-cases g bounds xs m)
  where
    go : Origin g xs e → e ∈ edges (result g ys)
    go (inl k) = result-processor g ys k
    go (inr (inl k)) = result-feedback g bounds ys k.0 k.1
    go (inr (inr k)) = result-proposed g ys (among e k)

off-cycles-among : (g : Graph) {xs ys : List Edge} → Among xs ys → OffCycles g ys → OffCycles g xs
off-cycles-among g among off =
    record {
      sync_ends = off.sync_ends;
      proposed_ends = λ e m. off.proposed_ends e (among e m);
      no_zero_cycle = off.no_zero_cycle;
      off_cycles = λ e m c. off.off_cycles e (among e m) (on-cycle-among (result-among g off.sync_ends among) c);
    }

-- a latency of at most the bound
abbrev InTime : Graph → List Edge → Type 0
InTime g es = (l : ℕ) × Latency es (time_of g) g.output l × (l ≤ g.bound)

-- fewer edges are in time
in-time-among : (g : Graph) (list : List Edge) → OffCycles g list → {rs : List Edge} → Among (edges (result g list)) rs → InTime g rs →
    InTime g (edges (result g list))
unfolding result time_of latency_of
in-time-among g list off among t =
    let bounds = result-ends g off.sync_ends list off.proposed_ends in
    let is = latency_is (count g) (edges (result g list)) bounds (acyclic-result g list off) (time_of g) g.output in
    (latency_of (result g list), is, le_trans (latency-among among is t.1) t.2)

-- ── The first stage ──

-- the places of the edges that the first stage keeps, and of those that it drops; the others are feedback, which every result keeps
abbrev kept : Graph → ℕ → Bool
kept g i = not (is_redundant g i) && not (is_feedback g (sync_at g i))

abbrev dropped : Graph → ℕ → Bool
dropped g i = is_redundant g i && not (is_feedback g (sync_at g i))

module _ (g : Graph) (graph : AcceptedGraph g) where
  bounds : Ends (count g) g.syncs
  bounds = graph.formed.syncs_formed.ends

  feedback-at : (i : ℕ) → i < length g.syncs → Decides (is_feedback g (sync_at g i)) (Feedback g (sync_at g i))
  unfolding sync_at
  feedback-at i l = feedback-decides g bounds (sync_at g i) (sync-edge-in g (place-member g.syncs i no_edge l))

  pub first-forward : (e : Edge) → e ∈ first_stage g → (e ∈ g.syncs) × Feedforward g e
  unfolding first_stage sync_at
  first-forward e m =
      let r = places-passed (kept g) 0 g.syncs no_edge m in
      let passed = subst (λ (i : ℕ). T (kept g i)) (zero-add r.0) r.3 in
      let forward = and_right (not (is_redundant g r.0)) (not (is_feedback g (sync_at g r.0))) passed in
      (places-out (kept g) 0 g.syncs m, λ c. (feedback-at r.0 r.1).if_false forward (subst (λ (f : Edge). Feedback g f) (sym r.2) c))

  -- it drops edges only
  pub first-among : Among (edges (result g (first_stage g))) (edges g)
  first-among e m = go (result-cases g bounds (first_stage g) m)
    where
      go : Origin g (first_stage g) e → e ∈ edges g
      go (inl k) = processor-edge-in g k
      go (inr (inl k)) = sync-edge-in g k.0
      go (inr (inr k)) = sync-edge-in g (first-forward e k).0

  -- and only redundant ones
  first_holds : Among (edges (dropping g (dropped g))) (edges (result g (first_stage g)))
  unfolding dropping first_stage sync_at
  first_holds e m = go (edge-cases (dropping g (dropped g)) m)
    where
      at_place : (i : ℕ) → i < length g.syncs → T (not (dropped g i)) → T (is_feedback g (sync_at g i)) ⊎ T (not (is_feedback g (sync_at g i))) →
          T (is_redundant g i) ⊎ T (not (is_redundant g i)) → sync_at g i ∈ edges (result g (first_stage g))
      at_place i l t (inl f) x = result-feedback g bounds (first_stage g) (place-member g.syncs i no_edge l) ((feedback-at i l).if_true f)
      at_place i l t (inr f) (inl x) = absurd (T_not (dropped g i) t (and_both (is_redundant g i) (not (is_feedback g (sync_at g i))) x f))
      at_place i l t (inr f) (inr x) =
          let both = and_both (not (is_redundant g i)) (not (is_feedback g (sync_at g i))) x f in
          result-proposed g (first_stage g) (places-in (kept g) 0 g.syncs i no_edge l (subst (λ (j : ℕ). T (kept g j)) (sym (zero-add i)) both))

      go : e ∈ processor_edges g.tasks ⊎ e ∈ keep_places (λ i. not (dropped g i)) 0 g.syncs → e ∈ edges (result g (first_stage g))
      go (inl k) = result-processor g (first_stage g) k
      go (inr k) =
          let r = places-passed (λ i. not (dropped g i)) 0 g.syncs no_edge k in
          let i = r.0 in
          let stays = subst (λ (j : ℕ). T (not (dropped g j))) (zero-add i) r.3 in
          subst (λ (f : Edge). f ∈ edges (result g (first_stage g))) r.2
          (at_place i r.1 stays (cases (is_feedback g (sync_at g i))) (cases (is_redundant g i)))

  pub first-formed : WellFormedEdges (count g) (first_stage g)
  unfolding first_stage
  first-formed =
      let syncs = graph.formed.syncs_formed in
      record {
        few = le_trans (places-length (kept g) 0 g.syncs) syncs.few;
        ends = λ e m. syncs.ends e (places-out (kept g) 0 g.syncs m);
        delays = λ e m. syncs.delays e (places-out (kept g) 0 g.syncs m);
        distinct = places-distinct (kept g) 0 g.syncs syncs.distinct;
      }

  first-off-cycles : NoneOnCycle (edges (result g (first_stage g))) (first_stage g)
  first-off-cycles e m c = (first-forward e m).1 (on-cycle-among first-among c)

  pub first-accepted : AcceptedProposal g (first_stage g)
  first-accepted =
      record {
        off_cycles = first-off-cycles;
        orders =
            held-among first_holds (result-ends g bounds (first_stage g) first-formed.ends)
            (dropped-together g bounds graph.no_zero_cycle graph.formed.syncs_formed.distinct (dropped g) redundant);
        in_time = in-time-among g (first_stage g) (off-cycles-of g (first_stage g) graph first-formed first-off-cycles) first-among graph.bound_met;
      }
    where
      redundant : (i : ℕ) → i < length g.syncs → T (dropped g i) → Redundant g i
      redundant i l t = (redundant-decides g bounds i).if_true (and_left (is_redundant g i) (not (is_feedback g (sync_at g i))) t)

-- ── A step ──

-- a step takes a pair that subsumes two edges or more, and adds one
pub step-lowers : StepLowers
unfolding replaced with_pair gain
step-lowers g list next s =
    let test = subsumes (count g) (present_edges g list) s.source s.sink in
    let parts = keep-lengths test list in
    let same = ap length s.next_is in
    let one = length-append (keep (λ e. not (test e)) list) (pair_edge s.source s.sink ∷ []) in
    let two = s.chosen.two_or_more in
    omega arith

-- a walk to an edge, the edge, and a walk from it
walk-over : {es : List Edge} {x y : ℕ} {e : Edge} {p q : List Edge} → Walk es x p e.source → e ∈ es → Walk es e.sink q y →
    Path es x y (total p + (e.delay + total q))
unfolding total
walk-over {e = e} {q = q} (stop r) m w = record { first = e; rest = q; walk = step m (sym r) w; sum = omega arith }
walk-over {e = e} {q = q} (step {e = f} {p = p} k s v) m w =
    let sum = total-append p (e ∷ q) in
    record { first = f; rest = p ++ (e ∷ q); walk = step k s (walk-append v (step m refl w)); sum = omega arith }

module _ (g : Graph) (list : List Edge) (off : OffCycles g list) (a b : ℕ) (candidate : Candidate g list a b) where
  abbrev now : List Edge
  now = present_edges g list

  abbrev next : List Edge
  next = edges (result g (replaced g list a b))

  -- the edges of the list that are not subsumed
  abbrev remains : Edge → Bool
  remains e = not (subsumes (count g) now a b e)

  abbrev rest : List Edge
  rest = keep remains list

  decides : (e : Edge) → Decides (subsumes (count g) now a b e) (Subsumes now a b e)
  unfolding present_edges
  decides e = subsumes-is (count g) now (result-ends g off.sync_ends list off.proposed_ends) a b e

  replaced-cases : {e : Edge} → e ∈ replaced g list a b → (e ∈ list × (Subsumes now a b e → ⊥)) ⊎ (e ≡ pair_edge a b)
  unfolding replaced with_pair
  replaced-cases {e} m = go (Memᴰ.append_cases rest m)
    where
      go : e ∈ rest ⊎ e ∈ (pair_edge a b ∷ []) → (e ∈ list × (Subsumes now a b e → ⊥)) ⊎ (e ≡ pair_edge a b)
      go (inl k) = let r = keep_out remains list k in inl (r.0, (decides e).if_false r.1)
      go (inr k) = inr (Memᴰ.eq_of_singleton k)

  pub replaced-among : Among (replaced g list a b) (with_pair list a b)
  unfolding with_pair
  replaced-among e m = go (replaced-cases m)
    where
      go : (e ∈ list × (Subsumes now a b e → ⊥)) ⊎ (e ≡ pair_edge a b) → e ∈ with_pair list a b
      go (inl k) = Memᴰ.append_left (pair_edge a b ∷ []) k.0
      go (inr q) = Memᴰ.append_right list (here q)

  pub replaced-off-cycles : OffCycles g (replaced g list a b)
  replaced-off-cycles =
      off-cycles-among g replaced-among (pair-off-cycles g list off a b candidate.source_task candidate.sink_task candidate.no_path_back)

  pub next-ends : Ends (count g) next
  next-ends = result-ends g off.sync_ends (replaced g list a b) replaced-off-cycles.proposed_ends

  -- ── Orders ──

  pub pair-in : pair_edge a b ∈ next
  unfolding replaced with_pair
  pair-in = result-proposed g (replaced g list a b) (Memᴰ.append_right rest (here refl))

  -- an edge that is not subsumed stays
  stays : {e : Edge} → e ∈ now → (Subsumes now a b e → ⊥) → e ∈ next
  unfolding present_edges replaced with_pair
  stays {e} m none = go (result-cases g off.sync_ends list m)
    where
      go : Origin g list e → e ∈ edges (result g (replaced g list a b))
      go (inl k) = result-processor g (replaced g list a b) k
      go (inr (inl k)) = result-feedback g off.sync_ends (replaced g list a b) k.0 k.1
      go (inr (inr k)) =
          let m' = keep-in remains k (decides-true (decides_not (decides e)) none) in
          result-proposed g (replaced g list a b) (Memᴰ.append_left (pair_edge a b ∷ []) m')

  no_way_back : NoWay now b a
  no_way_back = candidate-no-way g list candidate

  -- no edge on a way to the pair, or from it, is subsumed
  free-before : {x : ℕ} {p : List Edge} → Walk now x p a → (f : Edge) → f ∈ p → Subsumes now a b f → ⊥
  free-before w f k h = let r = walk_split w k in let s = subsumed-walks h in no_way_back (s.1 ++ r.2) (walk-append s.3 r.4)

  free-after : {y : ℕ} {p : List Edge} → Walk now b p y → (f : Edge) → f ∈ p → Subsumes now a b f → ⊥
  free-after w f k h = let r = walk_split w k in let s = subsumed-walks h in no_way_back (r.1 ++ s.0) (walk-append r.3 s.2)

  -- the way over the pair
  over-pair : (e : Edge) → Subsumes now a b e → (d : ℕ) × Path next e.source e.sink d × (d ≤ e.delay)
  unfolding pair_edge
  over-pair e h =
      let r = subsumed-walks h in
      let l = r.4 in
      let before = walk-re-base (λ f k m. stays m (free-before r.2 f k)) r.2 in
      let after = walk-re-base (λ f k m. stays m (free-after r.3 f k)) r.3 in
      (total r.0 + (0 + total r.1), walk-over {e = pair_edge a b} before pair-in after, omega arith)

  pub replaced-held : AllHeld next now
  replaced-held e m = go (decided (decides e))
    where
      go : Subsumes now a b e ⊎ (Subsumes now a b e → ⊥) → OrderHeld next e
      go (inl h) = let r = over-pair e h in path-held next-ends e r.1 r.2
      go (inr none) = path-held next-ends e (path-edge (stays m none)) (le_refl e.delay)

  -- ── Accepted ──

  -- orders of the graph are kept by way of those of the present graph
  pub replaced-accepted : AcceptedProposal g list → AcceptedProposal g (replaced g list a b)
  unfolding present_edges
  replaced-accepted accepted =
      record {
        off_cycles = replaced-off-cycles.off_cycles;
        orders = (result-orders g (replaced g list a b) replaced-off-cycles).1
            (λ K start dur run. (result-orders g list off).0 accepted.orders K start dur (orders-kept next-ends serial replaced-held K start dur run));
        in_time = in-time-among g (replaced g list a b) replaced-off-cycles (result-among g off.sync_ends replaced-among) candidate.in_time;
      }
    where
      serial : Serial (count g) next
      serial = result-serial g off.sync_ends (replaced g list a b) replaced-off-cycles.proposed_ends

  -- the pair subsumes an edge like itself
  own-subsumed : Subsumes now a b (pair_edge a b)
  unfolding pair_edge
  own-subsumed = record { before = 0; after = 0; to_source = itself refl refl; from_sink = itself refl refl; within = omega arith }

  pub replaced-formed : WellFormedEdges (count g) list → length (replaced g list a b) ≤ 256 → WellFormedEdges (count g) (replaced g list a b)
  unfolding replaced with_pair pair_edge
  replaced-formed formed few = record { few = few; ends = replaced-off-cycles.proposed_ends; delays = small; distinct = distinct_snoc rest once fresh }
    where
      small : (e : Edge) → e ∈ replaced g list a b → e.delay ≤ 255
      small e m = go (replaced-cases m)
        where
          go : (e ∈ list × (Subsumes now a b e → ⊥)) ⊎ (e ≡ pair_edge a b) → e.delay ≤ 255
          go (inl k) = formed.delays e k.0
          go (inr q) = let none = ap {B = ℕ} (λ (f : Edge). f.delay) q in omega arith

      once : Distinct rest
      once = keep-distinct remains list formed.distinct

      fresh : pair_edge a b ∈ rest → ⊥
      fresh m = (decides (pair_edge a b)).if_false (keep_out remains list m).1 own-subsumed

-- ── Stages ──

-- well-formed as a proposal, and accepted
abbrev pub AcceptedStage : Graph → List Edge → Type 0
AcceptedStage g list = WellFormedEdges (count g) list × AcceptedProposal g list

pub step-accepted : (g : Graph) → AcceptedGraph g → (list next : List Edge) → Step g list next → AcceptedStage g list → AcceptedStage g next
step-accepted g graph list next s h = subst (λ (xs : List Edge). AcceptedStage g xs) (sym s.next_is) (formed, accepted)
  where
    off : OffCycles g list
    off = off-cycles-of g list graph h.0 h.1.off_cycles

    few : length (replaced g list s.source s.sink) ≤ 256
    few = let same = ap length s.next_is in let lower = step-lowers g list next s in let l = h.0.few in omega arith

    formed : WellFormedEdges (count g) (replaced g list s.source s.sink)
    formed = replaced-formed g list off s.source s.sink s.chosen.candidate h.0 few

    accepted : AcceptedProposal g (replaced g list s.source s.sink)
    accepted = replaced-accepted g list off s.source s.sink s.chosen.candidate h.1

pub stage-accepted : StageAccepted
stage-accepted g graph k list (at_first q r) = subst (λ (xs : List Edge). AcceptedStage g xs) (sym r) (first-formed g graph, first-accepted g graph)
stage-accepted g graph k list (then_step {k = j} {list = before} s t) = step-accepted g graph before list t (stage-accepted g graph j before s)

pub stage-resynchronizes : StageResynchronizes
stage-resynchronizes g graph k list s = let h = stage-accepted g graph k list s in accepted-result g list graph h.0 h.1
