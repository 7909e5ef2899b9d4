-- The tests of a plan's step decide their meanings, from least delays and latency, and the computed step is the step: the search finds the first of the
-- pairs that are worth most, and a pair is worth what it subsumes if it is a candidate, else 0.
use mathlib.Core.Path.{◌≡◌, refl, sym, ap, ◌∙◌, subst}
use mathlib.Core.Logic.{◌⊎◌, inl, inr, ◌↔◌}
use mathlib.Core.Bool.{Bool, true, false, not, ◌&&◌}
use mathlib.Core.List.{List}
use mathlib.Core.Option.{Option, none, some, some-injective, none-ne-some, some-ne-none}
use Prim.Native.Nat.{ℕ, zero, suc, ◌+◌, ◌≤◌, ◌<◌, max}
use native.Mathlib.Nat.{le_trans, le_antisymm, le-max_left, le-max_right, not-suc-le-zero, eq-or-lt_of_le}
use native.Mathlib.Omega.{arith}
use lib.Dec.{T, T_not, eqb, eqb→eq, leb, leb→le, le→leb}
use Rattle.model.specs.Lists.{counted, biggest_below}
use Rattle.model.specs.Tasks.{Edge, Ends}
use Rattle.model.specs.Graph.{Graph, count, edges, time_of}
use Rattle.model.specs.Paths.{Least, smallest, no-path, Latency}
use Rattle.model.specs.Compute.{plus, at_most, present, latency_of}
use Rattle.model.specs.Proposals.{result}
use Rattle.model.specs.Theorems.{Decides, OffCycles}
use Rattle.model.specs.Plan.{present_edges, with_pair, Candidate, Counts, itself, least, Subsumes, if_same, counting, subsumes, is_candidate, gain, Chosen, replaced, Step, NoStep, worth, most_from, most_worth, sink_found, source_found, if_many, step}
use Rattle.model.specs.PlanTheorems.{SubsumesIs, CandidateIs, StepIs, NoStepIs, StepUnique}
use Rattle.model.proofs.Basics.{cases, is_true, is_false, eq→eqb, order, below_suc, FirstFrom, found, missing, first-from}
use Rattle.model.proofs.Least.{least-delay, least-unique}
use Rattle.model.proofs.Tests.{decides-iff, decides-true, eqb-decides, ltb-decides}
use Rattle.model.proofs.Latency.{latency_is, latency-unique}
use Rattle.model.proofs.Results.{result-ends}
use Rattle.model.proofs.Accepted.{acyclic-result}
use Rattle.model.proofs.Pairs.{pair-off-cycles}

-- ── Subsumed edges ──

-- the computed delay, 0 from a task to itself, is the one that counts
pub counting-is : (n : ℕ) (es : List Edge) → Ends n es → (a b d : ℕ) → (counting n es a b ≡ some d) ↔ Counts es a b d
unfolding counting if_same
counting-is n es ends a b d = go (eqb a b) (eqb-decides a b) (least-delay n es ends a b)
  where
    go : (same : Bool) → Decides same (a ≡ b) → {o : Option ℕ} → Least es a b o → (if_same same o ≡ some d) ↔ Counts es a b d
    go true same l = ((λ q. itself (same.if_true tt) (sym (some-injective 0 d q))), from)
      where
        from : Counts es a b d → some 0 ≡ some d
        from (itself e z) = ap {B = Option ℕ} some (sym z)
        from (least other k) = absurd (other (same.if_true tt))
    go false same {o} l = ((λ q. least (same.if_false tt) (subst (λ (x : Option ℕ). Least es a b x) q l)), from)
      where
        from : Counts es a b d → o ≡ some d
        from (itself e z) = absurd (same.if_false tt e)
        from (least other k) = least-unique l k

pub subsumes-is : SubsumesIs
unfolding subsumes plus at_most
subsumes-is n es ends a b e =
    go (counting n es e.source a) (counting n es b e.sink) (counting-is n es ends e.source a) (counting-is n es ends b e.sink)
  where
    go : (x y : Option ℕ) → ((d : ℕ) → (x ≡ some d) ↔ Counts es e.source a d) → ((d : ℕ) → (y ≡ some d) ↔ Counts es b e.sink d) →
        Decides (at_most (plus x y) e.delay) (Subsumes es a b e)
    go (some x) (some y) before-is after_is = decides-iff to from
      where
        to : T (leb (x + y) e.delay) → Subsumes es a b e
        to t =
            record {
              before = x;
              after = y;
              to_source = (before-is x).0 refl;
              from_sink = (after_is y).0 refl;
              within = leb→le (x + y) e.delay t;
            }

        from : Subsumes es a b e → T (leb (x + y) e.delay)
        from s =
            let p = some-injective x s.before ((before-is s.before).1 s.to_source) in
            let q = some-injective y s.after ((after_is s.after).1 s.from_sink) in
            let h = s.within in
            le→leb (x + y) e.delay (omega arith)
    go (some x) none before-is after_is =
        decides-iff (λ t. absurd t) (λ s. absurd (none-ne-some s.after ((after_is s.after).1 s.from_sink)))
    go none y before-is after_is =
        decides-iff (λ t. absurd t) (λ s. absurd (none-ne-some s.before ((before-is s.before).1 s.to_source)))

-- ── Candidates ──

pub present-ends : (g : Graph) (list : List Edge) → OffCycles g list → Ends (count g) (present_edges g list)
unfolding present_edges
present-ends g list off = result-ends g off.sync_ends list off.proposed_ends

-- the computed latency of a present graph is its latency
pub present-latency : (g : Graph) (list : List Edge) → OffCycles g list → Latency (present_edges g list) (time_of g) g.output (latency_of (result g list))
unfolding present_edges result time_of latency_of
present-latency g list off = latency_is (count g) (edges (result g list)) (present-ends g list off) (acyclic-result g list off) (time_of g) g.output

pub candidate-is : CandidateIs
unfolding is_candidate present
candidate-is g list off a b la lb = go (least-delay (count g) (present_edges g list) (present-ends g list off) b a)
  where
    l : ℕ
    l = latency_of (result g (with_pair list a b))

    go : {o : Option ℕ} → Least (present_edges g list) b a o → Decides (not (present o) && leb l g.bound) (Candidate g list a b)
    go (smallest {d = d} path below) = decides-iff (λ t. absurd t) (λ c. absurd (c.no_path_back d path))
    go (no-path no-back) = decides-iff to from
      where
        is : Latency (present_edges g (with_pair list a b)) (time_of g) g.output l
        is = present-latency g (with_pair list a b) (pair-off-cycles g list off a b la lb no-back)

        to : T (leb l g.bound) → Candidate g list a b
        to t = record { source_task = la; sink_task = lb; no_path_back = no-back; in_time = (l, is, leb→le l g.bound t) }

        from : Candidate g list a b → T (leb l g.bound)
        from c = let r = c.in_time in le→leb l g.bound (subst (λ (x : ℕ). x ≤ g.bound) (latency-unique r.1 is) r.2)

-- ── The biggest value below a number ──

pub at-most-biggest : (f : ℕ → ℕ) (n v : ℕ) → v < n → f v ≤ biggest_below n f
unfolding biggest_below
at-most-biggest f zero v l = absurd (not-suc-le-zero l)
at-most-biggest f (suc n) v l = go (λ l'. at-most-biggest f n v l') (below_suc l)
  where
    go : (v < n → f v ≤ biggest_below n f) → (v < n) ⊎ (v ≡ n) → f v ≤ max (biggest_below n f) (f n)
    go ih (inl l') = le_trans (ih l') (le-max_left (biggest_below n f) (f n))
    go ih (inr q) = subst (λ (u : ℕ). f u ≤ max (biggest_below n f) (f n)) (sym q) (le-max_right (biggest_below n f) (f n))

-- above 0, it is the value of some number
pub biggest-at : (f : ℕ → ℕ) (n : ℕ) → 0 < biggest_below n f → (v : ℕ) × (v < n) × (f v ≡ biggest_below n f)
unfolding biggest_below
biggest-at f zero h = absurd (not-suc-le-zero h)
biggest-at f (suc n) h = go (λ h'. biggest-at f n h') (order (biggest_below n f) (f n))
  where
    go : (0 < biggest_below n f → (v : ℕ) × (v < n) × (f v ≡ biggest_below n f)) → (biggest_below n f ≤ f n) ⊎ (f n < biggest_below n f) →
        (v : ℕ) × (v < suc n) × (f v ≡ max (biggest_below n f) (f n))
    go ih (inl l) = (n, omega arith, omega arith)
    go ih (inr l) =
        let r = ih (omega arith) in
        let v_below : r.0 < n = r.1 in
        let v-value : f r.0 ≡ biggest_below n f = r.2 in
        (r.0, omega arith, omega arith)

-- ── What a pair is worth ──

module _ (g : Graph) (list : List Edge) (a b : ℕ) where
  pub worth-candidate : T (is_candidate g list a b) → worth g list a b ≡ gain g list a b
  unfolding worth counted
  worth-candidate t = ap (λ (c : Bool). counted c (gain g list a b)) (is_true (is_candidate g list a b) t)

  pub worth-other : T (not (is_candidate g list a b)) → worth g list a b ≡ 0
  unfolding worth counted
  worth-other t = ap (λ (c : Bool). counted c (gain g list a b)) (is_false (is_candidate g list a b) t)

  -- what is worth something is a candidate
  pub candidate-worth : 0 < worth g list a b → T (is_candidate g list a b)
  candidate-worth h = go (cases (is_candidate g list a b))
    where
      go : T (is_candidate g list a b) ⊎ T (not (is_candidate g list a b)) → T (is_candidate g list a b)
      go (inl t) = t
      go (inr t) = let z = worth-other t in absurd (omega arith)

-- ── The search ──

-- (a, b) is (c, d) or comes before it, by source and then by sink
abbrev NotAfter : ℕ → ℕ → ℕ → ℕ → Type 0
NotAfter a b c d = (a < c) ⊎ ((a ≡ c) × (b ≤ d))

same-pair : {a b c d : ℕ} → NotAfter a b c d → NotAfter c d a b → (a ≡ c) × (b ≡ d)
same-pair (inl l) (inl l') = absurd (omega arith)
same-pair (inl l) (inr r) = let q = r.0 in absurd (omega arith)
same-pair (inr r) (inl l) = let q = r.0 in absurd (omega arith)
same-pair (inr r) (inr r') = let l = r.1 in let l' = r'.1 in (r.0, omega arith)

module _ (g : Graph) (list : List Edge) where
  -- the pair of tasks that is worth most, m, two or more: the first such
  record Best (m a b : ℕ) : Type 0 where
    two_or_more : 2 ≤ m
    source_below : a < count g
    sink_below : b < count g
    worth_is : worth g list a b ≡ m
    no_more : (c d : ℕ) → c < count g → d < count g → worth g list c d ≤ m
    ties : (c d : ℕ) → c < count g → d < count g → worth g list c d ≡ m → NotAfter a b c d

  best-unique : {m m' a b c d : ℕ} → Best m a b → Best m' c d → (a ≡ c) × (b ≡ d)
  best-unique {m} {m'} {a} {b} {c} {d} x y =
      same-pair (x.ties c d y.source_below y.sink_below (y.worth_is ∙ sym same))
      (y.ties a b x.source_below x.sink_below (x.worth_is ∙ same))
    where
      same : m ≡ m'
      same =
          let p = x.no_more c d y.source_below y.sink_below in
          let q = y.no_more a b x.source_below x.sink_below in
          let s = x.worth_is in
          let t = y.worth_is in
          omega arith

  abbrev NoneWorth : Type 0
  NoneWorth = (c d : ℕ) → c < count g → d < count g → worth g list c d < 2

  -- what the search answers
  data Searched : Option (List Edge) → Type 0 where
    taken : {m a b : ℕ} → Best m a b → Searched (some (replaced g list a b))
    nothing : NoneWorth → Searched none

  most-at : 0 < most_worth g list → (a : ℕ) × (a < count g) × (most_from g list a ≡ most_worth g list)
  unfolding most_worth
  most-at h = biggest-at (most_from g list) (count g) h

  most-from-at : (a : ℕ) → 0 < most_from g list a → (b : ℕ) × (b < count g) × (worth g list a b ≡ most_from g list a)
  unfolding most_from
  most-from-at a h = biggest-at (worth g list a) (count g) h

  most-from : (c d : ℕ) → d < count g → worth g list c d ≤ most_from g list c
  unfolding most_from
  most-from c d l = at-most-biggest (worth g list c) (count g) d l

  most-most : (c : ℕ) → c < count g → most_from g list c ≤ most_worth g list
  unfolding most_worth
  most-most c l = at-most-biggest (most_from g list) (count g) c l

  searched : Searched (step g list)
  unfolding step if_many source_found sink_found
  searched = go (leb 2 m) (ltb-decides 1 m) (first-from (λ a. eqb (most_from g list a) m) 0 (count g))
    where
      m : ℕ
      m = most_worth g list

      out_of : (a : ℕ) → 2 ≤ m → a < count g → most_from g list a ≡ m → ((c : ℕ) → c < a → T (not (eqb (most_from g list c) m))) →
          {o : Option ℕ} → FirstFrom (λ b. eqb (worth g list a b) m) 0 (count g) o → Searched (sink_found g list a o)
      out_of a two la row no-earlier (missing all) =
          let r = most-from-at a (omega arith) in
          absurd (T_not (eqb (worth g list a r.0) m) (all r.0 (omega arith) (omega arith)) (eq→eqb (r.2 ∙ row)))
      out_of a two la row no-earlier (found {u = b} h l y before) =
          taken {m = m} {a = a} {b = b}
          record {
            two_or_more = two;
            source_below = la;
            sink_below = omega arith;
            worth_is = eqb→eq (worth g list a b) m y;
            no_more = λ c d lc ld. le_trans (most-from c d ld) (most-most c lc);
            ties = first;
          }
        where
          first : (c d : ℕ) → c < count g → d < count g → worth g list c d ≡ m → NotAfter a b c d
          first c d lc ld q = pick (order a c)
            where
              row_of : most_from g list c ≡ m
              row_of = let p = most-from c d ld in let p' = most-most c lc in omega arith

              in_row : (a ≡ c) → (b ≤ d) ⊎ (d < b) → NotAfter a b c d
              in_row s (inl k) = inr (s, k)
              in_row s (inr k) =
                  absurd (T_not (eqb (worth g list a d) m) (before d (omega arith) k) (eq→eqb (subst (λ (x : ℕ). worth g list x d ≡ m) (sym s) q)))

              not_before : (a ≡ c) ⊎ (a < c) → NotAfter a b c d
              not_before (inl s) = in_row s (order b d)
              not_before (inr k) = inl k

              pick : (a ≤ c) ⊎ (c < a) → NotAfter a b c d
              pick (inl k) = not_before (eq-or-lt_of_le k)
              pick (inr k) = absurd (T_not (eqb (most_from g list c) m) (no-earlier c k) (eq→eqb row_of))

      go : (many : Bool) → Decides many (2 ≤ m) → {o : Option ℕ} → FirstFrom (λ a. eqb (most_from g list a) m) 0 (count g) o →
          Searched (if_many many (source_found g list m o))
      go false many f = nothing few
        where
          few : NoneWorth
          few c d lc ld = pick (order 2 m)
            where
              pick : (2 ≤ m) ⊎ (m < 2) → worth g list c d < 2
              pick (inl h) = absurd (many.if_false tt h)
              pick (inr h) = let l = most-from c d ld in let l' = most-most c lc in omega arith
      go true many (missing all) =
          let two = many.if_true tt in
          let r = most-at (omega arith) in
          absurd (T_not (eqb (most_from g list r.0) m) (all r.0 (omega arith) (omega arith)) (eq→eqb r.2))
      go true many (found {u = a} h l y before) =
          out_of a (many.if_true tt) (omega arith) (eqb→eq (most_from g list a) m y) (λ c k. before c (omega arith) k)
          (first-from (λ b. eqb (worth g list a b) m) 0 (count g))

  -- The pair found by whatever search is the step's: worth m, two or more, most of all, and the first such by source and then by sink.
  pub step-found : (m a b : ℕ) → 2 ≤ m → a < count g → b < count g → worth g list a b ≡ m →
      ((c d : ℕ) → c < count g → d < count g → 2 ≤ worth g list c d → worth g list c d ≤ m) →
      ((c d : ℕ) → c < count g → d < count g → worth g list c d ≡ m → (a < c) ⊎ ((a ≡ c) × (b ≤ d))) → step g list ≡ some (replaced g list a b)
  step-found m a b two la lb worth_is most-of first = go searched
    where
      no_more : (c d : ℕ) → c < count g → d < count g → worth g list c d ≤ m
      no_more c d lc ld = pick (order 2 (worth g list c d))
        where
          pick : (2 ≤ worth g list c d) ⊎ (worth g list c d < 2) → worth g list c d ≤ m
          pick (inl h) = most-of c d lc ld h
          pick (inr h) = omega arith

      best : Best m a b
      best = record { two_or_more = two; source_below = la; sink_below = lb; worth_is = worth_is; no_more = no_more; ties = first }

      go : {o : Option (List Edge)} → Searched o → o ≡ some (replaced g list a b)
      go (taken {a = c} {b = d} other) =
          let same = best-unique other best in
          ap {B = Option (List Edge)} some (ap (λ (x : ℕ). replaced g list x d) same.0 ∙ ap (λ (x : ℕ). replaced g list a x) same.1)
      go (nothing few) = let h = few a b la lb in absurd (omega arith)

  -- No pair is worth two: there is no step.
  pub step-none : ((c d : ℕ) → c < count g → d < count g → worth g list c d < 2) → step g list ≡ none
  step-none few = go searched
    where
      go : {o : Option (List Edge)} → Searched o → o ≡ none
      go (taken {a = a} {b = b} best) =
          let h = few a b best.source_below best.sink_below in
          let two = best.two_or_more in
          let q = best.worth_is in
          absurd (omega arith)
      go (nothing few') = refl

  -- ── The step ──

  module _ (off : OffCycles g list) where
    -- a pair worth two is a candidate, and a candidate is worth what it subsumes
    candidate-of : (a b : ℕ) → a < count g → b < count g → 2 ≤ worth g list a b → Candidate g list a b × (worth g list a b ≡ gain g list a b)
    candidate-of a b la lb two =
        let t = candidate-worth g list a b (omega arith) in
        ((candidate-is g list off a b la lb).if_true t, worth-candidate g list a b t)

    worth-of : {a b : ℕ} → Candidate g list a b → worth g list a b ≡ gain g list a b
    worth-of {a} {b} c = worth-candidate g list a b (decides-true (candidate-is g list off a b c.source_task c.sink_task) c)

    best-chosen : {m a b : ℕ} → Best m a b → Chosen g list a b
    best-chosen {m} {a} {b} best = go (candidate-of a b best.source_below best.sink_below two)
      where
        two : 2 ≤ worth g list a b
        two = subst (λ (x : ℕ). 2 ≤ x) (sym best.worth_is) best.two_or_more

        go : Candidate g list a b × (worth g list a b ≡ gain g list a b) → Chosen g list a b
        go r =
            record {
              candidate = r.0;
              two_or_more = subst (λ (x : ℕ). 2 ≤ x) most-is best.two_or_more;
              most = λ c d k. no_more k (best.no_more c d k.source_task k.sink_task);
              ties = λ c d k q. best.ties c d k.source_task k.sink_task (worth-of k ∙ q ∙ sym most-is);
            }
          where
            most-is : m ≡ gain g list a b
            most-is = sym best.worth_is ∙ r.1

            no_more : {c d : ℕ} → Candidate g list c d → worth g list c d ≤ m → gain g list c d ≤ gain g list a b
            no_more k l = let p = worth-of k in let q = most-is in omega arith

    found-step : (next : List Edge) → step g list ≡ some next → Step g list next
    found-step next = go searched
      where
        go : {o : Option (List Edge)} → Searched o → o ≡ some next → Step g list next
        go (taken {a = a} {b = b} best) q =
            record { source = a; sink = b; chosen = best-chosen best; next_is = sym (some-injective (replaced g list a b) next q) }
        go (nothing few) q = absurd (none-ne-some next q)

    chosen-found : {a b : ℕ} → Chosen g list a b → step g list ≡ some (replaced g list a b)
    chosen-found {a} {b} chosen =
        step-found (gain g list a b) a b chosen.two_or_more chosen.candidate.source_task chosen.candidate.sink_task
        (worth-of chosen.candidate)
        (λ c d lc ld two. let r = candidate-of c d lc ld two in subst (λ (x : ℕ). x ≤ gain g list a b) (sym r.1) (chosen.most c d r.0))
        (λ c d lc ld q.
        let r = candidate-of c d lc ld (subst (λ (x : ℕ). 2 ≤ x) (sym q) chosen.two_or_more) in
        chosen.ties c d r.0 (sym r.1 ∙ q))

    none-no-step : step g list ≡ none → NoStep g list
    none-no-step = go searched
      where
        go : {o : Option (List Edge)} → Searched o → o ≡ none → NoStep g list
        go (taken {a = a} {b = b} best) q = absurd (some-ne-none (replaced g list a b) q)
        go (nothing few) q = λ a b c. subst (λ (x : ℕ). x < 2) (worth-of c) (few a b c.source_task c.sink_task)

    no-step-none : NoStep g list → step g list ≡ none
    no-step-none finished = step-none few
      where
        few : (c d : ℕ) → c < count g → d < count g → worth g list c d < 2
        few c d lc ld = pick (order 2 (worth g list c d))
          where
            pick : (2 ≤ worth g list c d) ⊎ (worth g list c d < 2) → worth g list c d < 2
            pick (inl two) = let r = candidate-of c d lc ld two in subst (λ (x : ℕ). x < 2) (sym r.1) (finished c d r.0)
            pick (inr l) = l

pub step_is : StepIs
step_is g list off next = (found-step g list off next, from)
  where
    from : Step g list next → step g list ≡ some next
    from s = chosen-found g list off s.chosen ∙ ap {B = Option (List Edge)} some (sym s.next_is)

pub no-step-is : NoStepIs
no-step-is g list off = (none-no-step g list off, no-step-none g list off)

pub step-unique : StepUnique
step-unique g list next next' s s' =
    s.next_is ∙ ap (λ (x : ℕ). replaced g list x s.sink) same.0 ∙ ap (λ (x : ℕ). replaced g list s'.source x) same.1 ∙ sym s'.next_is
  where
    c : Chosen g list s.source s.sink
    c = s.chosen

    c' : Chosen g list s'.source s'.sink
    c' = s'.chosen

    equal : gain g list s.source s.sink ≡ gain g list s'.source s'.sink
    equal = le_antisymm (c'.most s.source s.sink c.candidate) (c.most s'.source s'.sink c'.candidate)

    same : (s.source ≡ s'.source) × (s.sink ≡ s'.sink)
    same = same-pair (c.ties s'.source s'.sink c'.candidate (sym equal)) (c'.ties s.source s.sink c.candidate equal)
