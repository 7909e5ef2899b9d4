-- What a pair of tasks is worth by numbers in lists is what it is worth in the plan: a delay is 16,383 exactly where there is no path, and a
-- pair is in time exactly if its source ends by the latest start of its sink. The lists of one stage, with a pair added, are those of the next.
use mathlib.Core.Path.{◌≡◌, sym, ap, ◌∙◌, subst}
use mathlib.Core.Logic.{◌⊎◌, inl, inr, ◌≢◌}
use mathlib.Core.Bool.{Bool, true, false, not, ◌&&◌}
use mathlib.Core.List.{List, []}
use mathlib.Core.Option.{Option, none, some}
use Prim.Native.Nat.{ℕ, ◌+◌, ◌*◌, ◌≤◌, ◌<◌, min, zero-le}
use native.Mathlib.Nat.{le_refl, add_comm}
use native.Mathlib.Omega.{arith}
use lib.Dec.{T, eqb, eqb→eq, eqb_refl, leb, leb→le, le→leb}
use lib.ListN.{length, get_or}
use borrow.Author.Tests.{le-leb, lt-leb}
use Rattle.model.specs.Lists.{keep, counted}
use Rattle.model.specs.Tasks.{Edge, ◌∈◌}
use Rattle.model.specs.Graph.{Graph, count, time_of, WellFormedEdges}
use Rattle.model.specs.Paths.{Path, Least, smallest, no-path, stop, ZeroWalk, times_along, NoZeroCycle, Latency}
use Rattle.model.specs.Compute.{at_most, lesser, plus, latency, latency_of}
use Rattle.model.specs.Proposals.{result, AcceptedGraph, AcceptedProposal}
use Rattle.model.specs.Theorems.{Decides, OffCycles}
use Rattle.model.specs.Plan.{present_edges, with_pair, Candidate, if_same, counting, subsumes, gain, replaced, worth, step}
use Rattle.model.proofs.Basics.{cases, is_true, is_false, and_left, and_right, and_both, order}
use Rattle.model.proofs.Tests.{decides-iff, decides-true, decides-yes, decides-no, eqb-decides}
use Rattle.model.proofs.Least.{least-delay}
use Rattle.model.proofs.Bounds.{least-bound}
use Rattle.model.proofs.Latency.{latency_is, latency-unique}
use Rattle.model.proofs.Accepted.{off-cycles-of, acyclic-result}
use Rattle.model.proofs.Pairs.{pair-in-time, present-pair, present-no-way, candidate-apart, pair-off-cycles}
use Rattle.model.proofs.Choices.{present-latency, candidate-is, step-found, step-none}
use Rattle.model.proofs.Stages.{keep-lengths}
use Rattle.model.proofs.Updates.{step-counting}
use Rattle.records.specs.Columns.{at}
use Rattle.records.proofs.Fill.{get_d_tabulate}
use Rattle.delays.specs.Delays.{Fit}
use Rattle.starts.proofs.Limits.{turn-fits}
use Rattle.latest.specs.Latest.{earliest_ends, InTimeFrom}
use Rattle.subsumption.specs.Subsumption.{subsumes_by, CountsOf}
use Rattle.subsumption.proofs.Totals.{keep-equal}
use Rattle.updates.specs.Updates.{RowsJoined}
use Rattle.candidates.specs.Candidates.{worth_in, BestPair, NoPair}
use Rattle.judgement.proofs.Tested.{result-fit}
use Rattle.prepared.specs.Ready.{cut, Ready}
use Rattle.present.specs.Present.{Timed}

-- ── Tests, and what they keep ──

-- tests that decide the same are equal
decides-equal : {b c : Bool} {p : Type 0} → Decides b p → Decides c p → b ≡ c
decides-equal {b} {c} x y = go (cases b)
  where
    go : T b ⊎ T (not b) → b ≡ c
    go (inl t) = is_true b t ∙ sym (decides-yes y (x.if_true t))
    go (inr t) = is_false b t ∙ sym (decides-no y (x.if_false t))

pub counted-most : (b : Bool) (w : ℕ) → counted b w ≤ w
unfolding counted
counted-most true w = le_refl w
counted-most false w = zero-le

-- ── Delays ──

-- a sum with 16,383, for none, is above every delay
sum-by-cuts : (x y : Option ℕ) (delay : ℕ) → delay ≤ 255 → leb (cut x + cut y) delay ≡ at_most (plus x y) delay
unfolding cut at_most plus
sum-by-cuts (some x) (some y) delay small = go (order (x + y) delay)
  where
    go : (x + y ≤ delay) ⊎ (delay < x + y) → leb (min x 16383 + min y 16383) delay ≡ leb (x + y) delay
    go (inl l) = le-leb (min x 16383 + min y 16383) delay (omega arith) ∙ sym (le-leb (x + y) delay l)
    go (inr l) = lt-leb (min x 16383 + min y 16383) delay (omega arith) ∙ sym (lt-leb (x + y) delay l)
sum-by-cuts (some x) none delay small = lt-leb (min x 16383 + 16383) delay (omega arith)
sum-by-cuts none y delay small = lt-leb (16383 + cut y) delay (omega arith)

-- a delay below 16,383 is not the one for none
finite : (d : ℕ) (other : Bool) → d < 16383 → T (eqb (min d 16383) 16383 && other) → ⊥
finite d other l t = let q = eqb→eq (min d 16383) 16383 (and_left (eqb (min d 16383) 16383) other t) in omega arith

-- cutting respects the smaller of a delay and the sum of two
cut_step : (x y z : Option ℕ) → min (cut x) (cut y + cut z) ≡ cut (lesser x (plus y z))
unfolding plus lesser cut
cut_step (some a) (some b) (some c) = omega arith
cut_step (some a) (some b) none = omega arith
cut_step (some a) none (some c) = omega arith
cut_step (some a) none none = omega arith
cut_step none (some b) (some c) = omega arith
cut_step none (some b) none = omega arith
cut_step none none (some c) = omega arith
cut_step none none none = omega arith

module _ (g : Graph) (list : List Edge) (graph : AcceptedGraph g) (formed : WellFormedEdges (count g) list) (accepted : AcceptedProposal g list) where
  off : OffCycles g list
  off = off-cycles-of g list graph formed accepted.off_cycles

  present-fit : Fit (count g) (present_edges g list)
  unfolding present_edges
  present-fit = result-fit g list graph.formed formed

  acyclic : NoZeroCycle (present_edges g list)
  unfolding present_edges
  acyclic = acyclic-result g list off

  -- the latency of the present graph, which is within the bound
  now-in-time : (l : ℕ) × Latency (present_edges g list) (time_of g) g.output l × (l ≤ g.bound)
  unfolding present_edges
  now-in-time = accepted.in_time

  -- the task's end in the first turn, which the largest sum along a path of delay 0 to it gives
  abbrev end_of : ℕ → ℕ
  end_of a = latency (count g) (present_edges g list) (time_of g) a

  end-is-latency : (a : ℕ) → Latency (present_edges g list) (time_of g) a (end_of a)
  end-is-latency a = latency_is (count g) (present_edges g list) present-fit.ends acyclic (time_of g) a

  end-small : (a : ℕ) → a < count g → end_of a ≤ 268435456
  unfolding latency
  end-small a la =
      turn-fits present-fit.ends acyclic {time = time_of g} (λ v below. (graph.formed.times v below).0) graph.formed.at_most_64
      (λ v below. (graph.formed.times v below).1) a 1 la (omega arith) (omega arith)

  module _ {from to counts : List ℕ} (ready : Ready g list from to counts) where
    pub subsumes-by : (a b : ℕ) → a < count g → b < count g → (e : Edge) → e ∈ list →
        subsumes_by from to a b e ≡ subsumes (count g) (present_edges g list) a b e
    unfolding subsumes_by subsumes
    subsumes-by a b la lb e m =
        (λ i. leb (ready.from_is e.source a (formed.ends e m).0 la i + ready.to_is b e.sink lb (formed.ends e m).1 i) e.delay) ∙
        sum-by-cuts (counting (count g) (present_edges g list) e.source a) (counting (count g) (present_edges g list) b e.sink) e.delay
        (formed.delays e m)

    pub replaced-by : (a b : ℕ) → a < count g → b < count g → with_pair (keep (λ e. not (subsumes_by from to a b e)) list) a b ≡ replaced g list a b
    unfolding replaced
    replaced-by a b la lb =
        ap (λ (es : List Edge). with_pair es a b)
        (keep-equal (λ e. not (subsumes_by from to a b e)) (λ e. not (subsumes (count g) (present_edges g list) a b e)) list
        (λ e m. ap not (subsumes-by a b la lb e m)))

    gain-by : (a b : ℕ) → a < count g → b < count g → at counts (a * 64 + b) ≡ gain g list a b
    unfolding gain
    gain-by a b la lb =
        ready.counts_are.each a b la (omega (arith, lb, graph.formed.at_most_64)) ∙
        ap length (keep-equal (subsumes_by from to a b) (subsumes (count g) (present_edges g list) a b) list (subsumes-by a b la lb))

  module _ {from to counts end latest : List ℕ} (ready : Ready g list from to counts) (timed : Timed g list end latest) where
    end-at : (a : ℕ) → a < count g → at end a ≡ end_of a
    unfolding earliest_ends at
    end-at a la = ap (λ (xs : List ℕ). get_or xs a 0) timed.end_is ∙ get_d_tabulate (count g) (latency (count g) (present_edges g list) (time_of g)) 0 a la

    latest-at : (a b : ℕ) → a < count g → b < count g → T (leb (at end a) (at latest b)) →
        InTimeFrom (present_edges g list) (time_of g) g.output g.bound b (end_of a)
    latest-at a b la lb t =
        (timed.latest_is.latest b (end_of a) lb (omega (arith, end-small a la))).0
        (subst (λ (h : ℕ). h ≤ at latest b) (end-at a la) (leb→le (at end a) (at latest b) t))

    at-latest : (a b : ℕ) → a < count g → b < count g → InTimeFrom (present_edges g list) (time_of g) g.output g.bound b (end_of a) →
        T (leb (at end a) (at latest b))
    at-latest a b la lb early =
        le→leb (at end a) (at latest b)
        (subst (λ (h : ℕ). h ≤ at latest b) (sym (end-at a la)) ((timed.latest_is.latest b (end_of a) lb (omega (arith, end-small a la))).1 early))

    -- Where no path leads back, the two sums of a path over the pair are the largest to a, which is its end, and any from b.
    in-time-by : (a b : ℕ) → a < count g → b < count g → ((d : ℕ) → Path (present_edges g list) b a d → ⊥) →
        Decides (leb (at end a) (at latest b)) ((l : ℕ) × Latency (present_edges g (with_pair list a b)) (time_of g) g.output l × (l ≤ g.bound))
    in-time-by a b la lb none-back = decides-iff forth back
      where
        m : ℕ
        m = latency_of (result g (with_pair list a b))

        whole : Latency (present_edges g (with_pair list a b)) (time_of g) g.output m
        whole = present-latency g (with_pair list a b) (pair-off-cycles g list off a b la lb none-back)

        apart : b ≢ a
        apart q = present-no-way g list lb none-back [] (stop q)

        Sums : Type 0
        Sums =
            (x : ℕ) (p q : List Edge) → ZeroWalk (present_edges g list) x p a → ZeroWalk (present_edges g list) b q g.output →
            times_along (time_of g) x p + times_along (time_of g) b q ≤ g.bound

        to-sums : m ≤ g.bound → Sums
        to-sums =
            (pair-in-time (present_edges g list) a b none-back apart (time_of g) g.output g.bound now-in-time.0 m now-in-time.1 now-in-time.2
            (subst (λ (es : List Edge). Latency es (time_of g) g.output m) (present-pair g list a b) whole)).0

        from-sums : Sums → m ≤ g.bound
        from-sums =
            (pair-in-time (present_edges g list) a b none-back apart (time_of g) g.output g.bound now-in-time.0 m now-in-time.1 now-in-time.2
            (subst (λ (es : List Edge). Latency es (time_of g) g.output m) (present-pair g list a b) whole)).1

        forth : T (leb (at end a) (at latest b)) → (l : ℕ) × Latency (present_edges g (with_pair list a b)) (time_of g) g.output l × (l ≤ g.bound)
        forth t = (m, whole, from-sums sums)
          where
            sums : Sums
            sums x p q v w =
                let first = (end-is-latency a).largest x p v in
                let both = latest-at a b la lb t q w in
                omega arith

        back : (l : ℕ) × Latency (present_edges g (with_pair list a b)) (time_of g) g.output l × (l ≤ g.bound) → T (leb (at end a) (at latest b))
        back r = at-latest a b la lb early
          where
            within : m ≤ g.bound
            within = subst (λ (l : ℕ). l ≤ g.bound) (latency-unique r.1 whole) r.2

            early : InTimeFrom (present_edges g list) (time_of g) g.output g.bound b (end_of a)
            early q w =
                let s = (end-is-latency a).reached in
                let same = s.3 in
                let both = to-sums within s.0 s.1 q s.2 w in
                omega arith

    abbrev tested : ℕ → ℕ → Bool
    tested a b = eqb (at to (a * 64 + b)) 16383 && leb (at end a) (at latest b)

    candidate-by : (a b : ℕ) → a < count g → b < count g → Decides (tested a b) (Candidate g list a b)
    unfolding counting if_same cut
    candidate-by a b la lb =
        subst (λ (x : ℕ). Decides (eqb x 16383 && leb (at end a) (at latest b)) (Candidate g list a b)) (sym (ready.to_is b a lb la))
        (go (eqb b a) (eqb-decides b a) (least-delay (count g) (present_edges g list) present-fit.ends b a))
      where
        early : Bool
        early = leb (at end a) (at latest b)

        go : (same : Bool) → Decides same (b ≡ a) → {o : Option ℕ} → Least (present_edges g list) b a o →
            Decides (eqb (cut (if_same same o)) 16383 && leb (at end a) (at latest b)) (Candidate g list a b)
        go true same l = decides-iff (λ t. absurd (finite 0 early (omega arith) t)) (λ c. absurd (candidate-apart g list c (same.if_true tt)))
        go false same (smallest {d = d} path below) =
            let least : Least (present_edges g list) b a (some d) = smallest path below in
            let short = least-bound (count g) 255 (present_edges g list) present-fit.ends present-fit.delays b a d least in
            decides-iff (λ t. absurd (finite d early (omega (arith, short, graph.formed.at_most_64)) t)) (λ c. absurd (c.no_path_back d path))
        go false same (no-path none-back) =
            let timely = in-time-by a b la lb none-back in
            decides-iff
            (λ t. record { source_task = la; sink_task = lb; no_path_back = none-back; in_time = timely.if_true (and_right (eqb 16383 16383) early t) })
            (λ c. and_both (eqb 16383 16383) early (eqb_refl 16383) (decides-true timely c.in_time))

    worth-by : (a b : ℕ) → a < count g → b < count g → worth_in counts to end latest a b ≡ worth g list a b
    unfolding worth_in worth gain
    worth-by a b la lb =
        let same = decides-equal (candidate-by a b la lb) (candidate-is g list off a b la lb) in
        λ i. counted (same i) (gain-by ready a b la lb i)

    -- ── The pair that is worth most ──

    pub best_none : NoPair (count g) (worth_in counts to end latest) → step g list ≡ none
    best_none below = step-none g list (λ c d lc ld. subst (λ (w : ℕ). w < 2) (worth-by c d lc ld) (below c d lc ld))

    module _ {m a b : ℕ} (best : BestPair (count g) (worth_in counts to end latest) m a b) where
      pub best-taken : 2 ≤ m → step g list ≡ some (replaced g list a b)
      best-taken two =
          let la = best.source_below two in
          let lb = best.sink_below two in
          step-found g list m a b two la lb (sym (worth-by a b la lb) ∙ best.worth_is two)
          (λ c d lc ld h.
          subst (λ (w : ℕ). w ≤ m) (worth-by c d lc ld) (best.most c d lc ld (subst (λ (w : ℕ). 2 ≤ w) (sym (worth-by c d lc ld)) h)))
          (λ c d lc ld q. best.first two c d lc ld (worth-by c d lc ld ∙ q))

      -- there is room for the pair, since it subsumes two edges
      pub best-room : 2 ≤ m → length (keep (λ e. not (subsumes_by from to a b e)) list) < 256
      unfolding worth_in
      best-room two =
          let la = best.source_below two in
          let lb = best.sink_below two in
          let gained = best.worth_is two in
          let most = counted-most (tested a b) (at counts (a * 64 + b)) in
          let many = ready.counts_are.each a b la (omega (arith, lb, graph.formed.at_most_64)) in
          let parts = keep-lengths (subsumes_by from to a b) list in
          omega (arith, gained, most, many, parts, formed.few)

      -- it is a candidate, since it is worth something
      pub best-candidate : 2 ≤ m → Candidate g list a b
      unfolding worth_in counted
      best-candidate two = go (tested a b) (candidate-by a b (best.source_below two) (best.sink_below two)) (best.worth_is two)
        where
          go : (t : Bool) → Decides t (Candidate g list a b) → counted t (at counts (a * 64 + b)) ≡ m → Candidate g list a b
          go true decides q = decides.if_true tt
          go false decides q = absurd (omega arith)

      -- the lists with the pair added are those of the next stage
      pub ready-next :
          {from' to' counts' : List ℕ} → 2 ≤ m → RowsJoined a b (count g) from from' → RowsJoined b a (count g) to to' →
          CountsOf (count g) from' to' (with_pair (keep (λ e. not (subsumes_by from to a b e)) list) a b) counts' →
          Ready g (replaced g list a b) from' to' counts'
      ready-next {from'} {to'} {counts'} two rows columns counted_next =
          record {
            from_size = omega (arith, rows.size, ready.from_size);
            to_size = omega (arith, columns.size, ready.to_size);
            from_small = rows.small;
            to_small = columns.small;
            from_is = λ x y lx ly.
                rows.inside x y lx (wide y ly) ∙
                ((λ i. min (ready.from_is x y lx ly i) (ready.from_is x a lx la i + ready.from_is b y lb ly i)) ∙ next x y lx ly);
            to_is = λ x y lx ly.
                columns.inside y x ly (wide x lx) ∙
                ((λ i. min (ready.to_is x y lx ly i) (ready.to_is b y lb ly i + ready.to_is x a lx la i)) ∙
                (ap (λ (s : ℕ). min (cut (delay x y)) s) (add_comm (cut (delay b y)) (cut (delay x a))) ∙ next x y lx ly));
            counts_are = subst (λ (es : List Edge). CountsOf (count g) from' to' es counts') (replaced-by ready a b la lb) counted_next;
          }
        where
          la : a < count g
          la = best.source_below two

          lb : b < count g
          lb = best.sink_below two

          wide : (y : ℕ) → y < count g → y < 64
          wide y ly = omega (arith, ly, graph.formed.at_most_64)

          delay : ℕ → ℕ → Option ℕ
          delay x y = counting (count g) (present_edges g list) x y

          next : (x y : ℕ) → x < count g → y < count g →
              min (cut (delay x y)) (cut (delay x a) + cut (delay b y)) ≡ cut (counting (count g) (present_edges g (replaced g list a b)) x y)
          next x y lx ly =
              cut_step (delay x y) (delay x a) (delay b y) ∙ ap cut (sym (step-counting g graph list formed accepted a b (best-candidate two) x y lx ly))
