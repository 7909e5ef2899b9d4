-- Least delays, 0 from a task to itself, after a pair's edge of delay 0 is added: what they were, or those to the pair's source and from its sink
-- together (000, Figure 10). By walks, which may be empty: one that passes the pair is cut before its first use and after its last. Edges that order the
-- same have the same delays, so a step of the plan changes the delays just so, and the first stage does not change them.
use mathlib.Core.Path.{◌≡◌, refl, sym, ap, ◌∙◌, subst}
use mathlib.Core.Logic.{◌⊎◌, inl, inr}
use mathlib.Core.Bool.{Bool, true, false}
use mathlib.Core.List.Memᴰ
use mathlib.Core.List.{List, [], ◌∷◌, ◌++◌}
use mathlib.Core.Option.{Option, none, some, some-injective, none-ne-some}
use Prim.Native.Nat.{ℕ, ◌+◌, ◌≤◌, ◌<◌}
use native.Mathlib.Nat.{le_antisymm, min-eq_left, min-eq_right}
use native.Mathlib.Omega.{arith}
use lib.Dec.{eqb}
use Rattle.model.specs.Tasks.{Edge, ◌∈◌, Ends}
use Rattle.model.specs.Graph.{Graph, count, edges, WellFormedEdges}
use Rattle.model.specs.Paths.{total, Walk, stop, step, Path, Least, smallest, no-path, AllHeld}
use Rattle.model.specs.Compute.{lesser, plus}
use Rattle.model.specs.Proposals.{result, AcceptedGraph, AcceptedProposal}
use Rattle.model.specs.Theorems.{Decides, Within, within, OffCycles}
use Rattle.model.specs.Plan.{present_edges, first_stage, pair_edge, Candidate, if_same, counting, replaced}
use Rattle.model.proofs.Basics.{order}
use Rattle.model.proofs.Walks.{total-append, walk_from, walk-append, walk-path}
use Rattle.model.proofs.Least.{least-delay, within-mono, within-left, within-right, within-plus, below-within, none_within}
use Rattle.model.proofs.Tests.{eqb-decides}
use Rattle.model.proofs.Graphs.{graph-ends}
use Rattle.model.proofs.Results.{result-ends}
use Rattle.model.proofs.Accepted.{off-cycles-of}
use Rattle.model.proofs.Pairs.{added, added-ends, pair-member, added-walk, counts-walk}
use Rattle.model.proofs.Choices.{counting-is, present-ends}
use Rattle.model.proofs.Stages.{first-formed, next-ends}
use Rattle.model.proofs.Alike.{Alike, walk-held, first_alike, replaced-alike}

-- ── Delays, by walks ──

-- a walk of total delay d
abbrev Way : List Edge → ℕ → ℕ → ℕ → Type 0
Way es x y d = (p : List Edge) × Walk es x p y × (total p ≡ d)

module _ {n : ℕ} {es : List Edge} (ends : Ends n es) where
  -- the computed delay is that of a walk, and no walk's is less
  counting-way : (x y : ℕ) {d : ℕ} → counting n es x y ≡ some d → Way es x y d
  counting-way x y {d} q = counts-walk ((counting-is n es ends x y d).0 q)

  way-counting : {x y d : ℕ} → Way es x y d → Within (counting n es x y) d
  unfolding counting if_same
  way-counting {x} {y} {d} w = subst (λ (k : ℕ). Within (counting n es x y) k) w.2
      (go (eqb x y) (eqb-decides x y) (least-delay n es ends x y) (walk-path w.1))
    where
      go : (same : Bool) → Decides same (x ≡ y) → {o : Option ℕ} → Least es x y o → ((x ≡ y) × (total w.0 ≡ 0)) ⊎ Path es x y (total w.0) →
          Within (if_same same o) (total w.0)
      go true same l r = let h : 0 ≤ total w.0 = omega arith in within h
      go false same l (inl h) = absurd (same.if_false tt h.0)
      go false same (smallest r' h) (inr r) = within (h (total w.0) r)
      go false same (no-path h) (inr r) = absurd (h (total w.0) r)

-- two delays are equal if each is within the other
within-equal : (o o' : Option ℕ) → ((d : ℕ) → o ≡ some d → Within o' d) → ((d : ℕ) → o' ≡ some d → Within o d) → o ≡ o'
within-equal (some x) (some y) h k = ap {B = Option ℕ} some (le_antisymm (below-within (k y refl)) (below-within (h x refl)))
within-equal (some x) none h k = absurd (none_within (h x refl))
within-equal none (some y) h k = absurd (none_within (k y refl))
within-equal none none h k = refl

-- the lesser of two delays is one of them, a sum has its parts
lesser-cases : (o o' : Option ℕ) {d : ℕ} → lesser o o' ≡ some d → (o ≡ some d) ⊎ (o' ≡ some d)
unfolding lesser
lesser-cases (some x) (some y) {d} q = go (order x y)
  where
    go : (x ≤ y) ⊎ (y < x) → (some x ≡ some d) ⊎ (some y ≡ some d)
    go (inl l) = inl (ap {B = Option ℕ} some (sym (min-eq_left l)) ∙ q)
    go (inr l) = let l' : y ≤ x = omega arith in inr (ap {B = Option ℕ} some (sym (min-eq_right l')) ∙ q)
lesser-cases (some x) none q = inl q
lesser-cases none o' q = inr q

plus-parts : (o o' : Option ℕ) {d : ℕ} → plus o o' ≡ some d → (x : ℕ) × (y : ℕ) × (o ≡ some x) × (o' ≡ some y) × (x + y ≡ d)
unfolding plus
plus-parts (some x) (some y) {d} q = (x, y, refl, refl, some-injective (x + y) d q)
plus-parts (some x) none {d} q = absurd (none-ne-some d q)
plus-parts none o' {d} q = absurd (none-ne-some d q)

-- ── A pair added ──

-- a walk that does without the pair's edge, or a way to the pair's source and one from its sink, of together no larger delay
data Ways (es : List Edge) (a b x y d : ℕ) : Type 0 where
  without : Way es x y d → Ways es a b x y d
  across : {d₁ d₂ : ℕ} → Way es x a d₁ → Way es b y d₂ → d₁ + d₂ ≤ d → Ways es a b x y d

module _ {es : List Edge} {a b : ℕ} where
  pair-ways : {x y : ℕ} {p : List Edge} → Walk (added es a b) x p y → Ways es a b x y (total p)
  unfolding pair_edge total
  pair-ways (stop q) = without ([], stop q, refl)
  pair-ways {x} {y} (step {e = e} {p = p} m s w) = go (Memᴰ.append_cases es m) (pair-ways w)
    where
      from-pair : e ≡ pair_edge a b → {d : ℕ} → Way es e.sink y d → Way es b y d
      from-pair q v = (v.0, walk_from (ap {B = ℕ} (λ (f : Edge). f.sink) (sym q)) v.1, v.2)

      to-pair : e ≡ pair_edge a b → Way es x a 0
      to-pair q = ([], stop (sym s ∙ ap {B = ℕ} (λ (f : Edge). f.source) q), refl)

      go : e ∈ es ⊎ e ∈ (pair_edge a b ∷ []) → Ways es a b e.sink y (total p) → Ways es a b x y (e.delay + total p)
      go (inl k) (without v) = without (e ∷ v.0, step k s v.1, ap {B = ℕ} (λ (d : ℕ). e.delay + d) v.2)
      go (inl k) (across {d₁ = d₁} v v' l) =
          across {d₁ = e.delay + d₁} (e ∷ v.0, step k s v.1, ap {B = ℕ} (λ (d : ℕ). e.delay + d) v.2) v' (omega arith)
      go (inr k) (without v) = let q = Memᴰ.eq_of_singleton k in across (to-pair q) (from-pair q v) (omega arith)
      go (inr k) (across v v' l) = across (to-pair (Memᴰ.eq_of_singleton k)) v' (omega arith)

  -- a way to the pair, the pair and a way from it
  way-over : {x y d₁ d₂ : ℕ} → Way es x a d₁ → Way es b y d₂ → Way (added es a b) x y (d₁ + d₂)
  unfolding pair_edge total
  way-over v v' = (
    v.0 ++ (pair_edge a b ∷ v'.0),
    walk-append (added-walk a b v.1) (step (pair-member es a b) refl (added-walk a b v'.1)),
    let sum = total-append v.0 (pair_edge a b ∷ v'.0) in let s = v.2 in let s' = v'.2 in omega arith,
  )

pub pair-counting : (n : ℕ) (es : List Edge) → Ends n es → (a b : ℕ) → a < n → b < n → (x y : ℕ) →
    counting n (es ++ (pair_edge a b ∷ [])) x y ≡ lesser (counting n es x y) (plus (counting n es x a) (counting n es b y))
pair-counting n es ends a b la lb x y = within-equal (counting n (added es a b) x y) (lesser old over) to from
  where
    old : Option ℕ
    old = counting n es x y

    over : Option ℕ
    over = plus (counting n es x a) (counting n es b y)

    ends-added : Ends n (added es a b)
    ends-added = added-ends ends la lb

    to : (d : ℕ) → counting n (added es a b) x y ≡ some d → Within (lesser old over) d
    to d q = let w = counting-way ends-added x y q in subst (λ (k : ℕ). Within (lesser old over) k) w.2 (go (pair-ways w.1))
      where
        go : {d : ℕ} → Ways es a b x y d → Within (lesser old over) d
        go (without v) = within-left over (way-counting ends v)
        go (across v v' l) = within-right old (within-mono (within-plus (way-counting ends v) (way-counting ends v')) l)

    from : (d : ℕ) → lesser old over ≡ some d → Within (counting n (added es a b) x y) d
    from d q = go (lesser-cases old over q)
      where
        go : (old ≡ some d) ⊎ (over ≡ some d) → Within (counting n (added es a b) x y) d
        go (inl r) = let w = counting-way ends x y r in way-counting ends-added (w.0, added-walk a b w.1, w.2)
        go (inr r) =
            let parts = plus-parts (counting n es x a) (counting n es b y) r in
            subst (λ (k : ℕ). Within (counting n (added es a b) x y) k) parts.4
            (way-counting ends-added (way-over (counting-way ends x a parts.2) (counting-way ends b y parts.3)))

-- ── Edges that order the same ──

pub alike-counting : (n : ℕ) (es rs : List Edge) → Ends n es → Ends n rs → Alike es rs → (x y : ℕ) → counting n es x y ≡ counting n rs x y
alike-counting n es rs ends ends' alike x y =
    within-equal (counting n es x y) (counting n rs x y) (along ends ends' alike.held) (along ends' ends alike.held_back)
  where
    along : {es rs : List Edge} → Ends n es → Ends n rs → AllHeld rs es → (d : ℕ) → counting n es x y ≡ some d → Within (counting n rs x y) d
    along ends ends' held d q =
        let w = counting-way ends x y q in
        let v = walk-held held w.1 in
        let sum = w.2 in
        let below = v.2 in
        within-mono (way-counting ends' (v.0, v.1, refl)) (omega arith)

-- ── The plan ──

pub step-counting : (g : Graph) → AcceptedGraph g → (list : List Edge) → WellFormedEdges (count g) list → AcceptedProposal g list → (a b : ℕ) →
    Candidate g list a b → (x y : ℕ) → x < count g → y < count g →
    counting (count g) (present_edges g (replaced g list a b)) x y ≡
    lesser (counting (count g) (present_edges g list) x y)
    (plus (counting (count g) (present_edges g list) x a) (counting (count g) (present_edges g list) b y))
unfolding present_edges
step-counting g graph list formed accepted a b candidate x y lx ly =
    alike-counting (count g) (present_edges g (replaced g list a b)) (added now a b) (next-ends g list off a b candidate) (added-ends ends la lb)
    (replaced-alike g list off a b candidate) x y ∙ pair-counting (count g) now ends a b la lb x y
  where
    off : OffCycles g list
    off = off-cycles-of g list graph formed accepted.off_cycles

    now : List Edge
    now = present_edges g list

    ends : Ends (count g) now
    ends = present-ends g list off

    la : a < count g
    la = candidate.source_task

    lb : b < count g
    lb = candidate.sink_task

pub first-counting : (g : Graph) → AcceptedGraph g → (x y : ℕ) →
    counting (count g) (present_edges g (first_stage g)) x y ≡ counting (count g) (edges g) x y
unfolding present_edges
first-counting g graph x y = alike-counting (count g) (edges (result g (first_stage g))) (edges g) ends ends' (first_alike g graph) x y
  where
    ends : Ends (count g) (edges (result g (first_stage g)))
    ends = result-ends g graph.formed.syncs_formed.ends (first_stage g) (first-formed g graph).ends

    ends' : Ends (count g) (edges g)
    ends' = graph-ends g graph.formed.syncs_formed.ends
