-- Numbers 9 to 12 mean what document 01 says: each test of the chain decides its condition, so the chain stops where the first condition holds.
use mathlib.Core.Path.{◌≡◌, refl, sym, ap, ◌∙◌, subst}
use mathlib.Core.Logic.{◌↔◌, ◌⊎◌, inl, inr}
use mathlib.Core.Bool.{Bool, true, false, not}
use mathlib.Core.List.Memᴰ
use mathlib.Core.List.Memᴰ.{head as here}
use mathlib.Core.List.Memᴰ.{tail as there}
use mathlib.Core.List.{List, [], ◌∷◌}
use Prim.Native.Nat.{ℕ, ◌≤◌, ◌<◌}
use native.Mathlib.Omega.{arith}
use Rattle.model.specs.Tasks.{Edge, ◌∈◌, Ends}
use Rattle.model.specs.Graph.{Graph, WellFormed, count, edges, time_of}
use Rattle.model.specs.Paths.{ZeroCycle, NoZeroCycle, InputFree, Joined, Latency}
use Rattle.model.specs.Runs.{NeverStalls}
use Rattle.model.specs.Compute.{zero_cycle, input_free, joined, latency}
use Rattle.model.specs.Proposals.{AcceptedGraph}
use Rattle.model.specs.Theorems.{Decides}
use Rattle.model.proofs.Basics.{order}
use Rattle.model.proofs.Tests.{decides-yes, decides-no, decided, eqb-decides}
use Rattle.model.proofs.Graphs.{graph-ends}
use Rattle.model.proofs.Theorems.{zero-cycle-is, input-free-is, joined_is, latency_is, latency-unique, never-stalls-iff}
use Rattle.files.specs.declared.Refusal.{Refusal}
use Rattle.files.specs.Refusals.{refuse, first}
use Rattle.files.specs.Files.{graph_of, graph_refusal}
use Rattle.files.proofs.First.{number_same, zero_or_not, passes as Goes-by, stops, no-checks}
use Rattle.files.proofs.Numbers.{graph-numbers}
use Rattle.readings.proofs.Accepted.{graph-formed}
use Rattle.acceptance.specs.Acceptance.{schedule_checks, schedule_refusal, acceptance_refusal}
use Rattle.acceptance.specs.Theorems.{Judged, zero-cycle, input_waits, not_joined, bound_below, passes, JudgedIff, NoPlace, NineIffStalls, AcceptedIffPassed, RefusedIffJudged}
use Rattle.acceptance.proofs.Chain.{stops-9, stops-10, stops-11, stops-12, passed}
use Rattle.acceptance.proofs.Accepting.{judged-after, refused-before}

-- an edge of delay 0 leads to the input, or none does
waiting : (es : List Edge) (input : ℕ) → ((e : Edge) × e ∈ es × (e.sink ≡ input) × (e.delay ≡ 0)) ⊎ InputFree es input
waiting [] input = inr (λ e m. absurd (Memᴰ.not-nil m))
waiting (f ∷ es) input = go (decided (eqb-decides f.sink input)) (decided (eqb-decides f.delay 0)) (waiting es input)
  where
    none : (f.sink ≡ input → f.delay ≡ 0 → ⊥) → InputFree es input → InputFree (f ∷ es) input
    none not free e (here q) to at_once = not (ap (λ (x : Edge). x.sink) (sym q) ∙ to) (ap (λ (x : Edge). x.delay) (sym q) ∙ at_once)
    none not free e (there m) to at_once = free e m to at_once

    later : ((e : Edge) × e ∈ es × (e.sink ≡ input) × (e.delay ≡ 0)) ⊎ InputFree es input → (f.sink ≡ input → f.delay ≡ 0 → ⊥) →
        ((e : Edge) × e ∈ f ∷ es × (e.sink ≡ input) × (e.delay ≡ 0)) ⊎ InputFree (f ∷ es) input
    later (inl (e, m, to, at_once)) not = inl (e, there m, to, at_once)
    later (inr free) not = inr (none not free)

    go : (f.sink ≡ input) ⊎ (f.sink ≡ input → ⊥) → (f.delay ≡ 0) ⊎ (f.delay ≡ 0 → ⊥) →
        ((e : Edge) × e ∈ es × (e.sink ≡ input) × (e.delay ≡ 0)) ⊎ InputFree es input →
        ((e : Edge) × e ∈ f ∷ es × (e.sink ≡ input) × (e.delay ≡ 0)) ⊎ InputFree (f ∷ es) input
    go (inl to) (inl at_once) rest = inl (f, here refl, to, at_once)
    go (inl to) (inr delayed) rest = later rest (λ to at_once. delayed at_once)
    go (inr other) at_once rest = later rest (λ to at_once. other to)

module _ (g : Graph) (formed : WellFormed g) where
  between-tasks : Ends (count g) (edges g)
  between-tasks = graph-ends g formed.syncs_formed.ends

  cyclic : Decides (zero_cycle (count g) (edges g)) (ZeroCycle (edges g))
  cyclic = zero-cycle-is (count g) (edges g) between-tasks

  free : Decides (input_free (edges g) g.input) (InputFree (edges g) g.input)
  free = input-free-is (edges g) g.input

  met : Decides (joined (count g) (edges g) g.input g.output) (Joined (edges g) g.input g.output)
  met = joined_is (count g) (edges g) between-tasks g.input g.output

  longest : NoZeroCycle (edges g) → Latency (edges g) (time_of g) g.output (latency (count g) (edges g) (time_of g) g.output)
  longest acyclic = latency_is (count g) (edges g) between-tasks acyclic (time_of g) g.output

  -- what a graph is judged to get, it gets
  gets : (m : ℕ) → Judged g m → (schedule_refusal g).number ≡ m
  unfolding schedule_refusal
  gets m (zero-cycle is z) = number_same (stops-9 (count g) (edges g) (time_of g) g.input g.output g.bound (decides-yes cyclic z)) ∙ sym is
  gets m (input_waits is a e in_List to at_once) =
      number_same
      (stops-10 (count g) (edges g) (time_of g) g.input g.output g.bound (decides-no cyclic a)
      (decides-no free (λ none. none e in_List to at_once))) ∙
      sym is
  gets m (not_joined is a f apart) =
      number_same (stops-11 (count g) (edges g) (time_of g) g.input g.output g.bound (decides-no cyclic a) (decides-yes free f) (decides-no met apart)) ∙ sym is
  gets m (bound_below is a f j l ends below) =
      let same : l ≡ latency (count g) (edges g) (time_of g) g.output = latency-unique (edges g) (time_of g) g.output l (latency (count g) (edges g) (time_of g) g.output) ends (longest a) in
      number_same
      (stops-12 (count g) (edges g) (time_of g) g.input g.output g.bound (decides-no cyclic a) (decides-yes free f) (decides-yes met j)
      (subst (λ (x : ℕ). g.bound < x) same below)) ∙
      sym is
  gets m (passes is a f j l ends within) =
      let same : l ≡ latency (count g) (edges g) (time_of g) g.output = latency-unique (edges g) (time_of g) g.output l (latency (count g) (edges g) (time_of g) g.output) ends (longest a) in
      number_same
      (passed (count g) (edges g) (time_of g) g.input g.output g.bound (decides-no cyclic a) (decides-yes free f) (decides-yes met j)
      (subst (λ (x : ℕ). x ≤ g.bound) same within)) ∙
      sym is

  -- and it is judged to get some number
  some_number : (m : ℕ) × Judged g m
  some_number = at_9 (decided cyclic)
    where
      at-12 :
          NoZeroCycle (edges g) → InputFree (edges g) g.input → Joined (edges g) g.input g.output →
          (latency (count g) (edges g) (time_of g) g.output ≤ g.bound) ⊎ (g.bound < latency (count g) (edges g) (time_of g) g.output) →
          (m : ℕ) × Judged g m
      at-12 a f j (inl within) = (0, passes refl a f j (latency (count g) (edges g) (time_of g) g.output) (longest a) within)
      at-12 a f j (inr below) = (12, bound_below refl a f j (latency (count g) (edges g) (time_of g) g.output) (longest a) below)

      at-11 :
          NoZeroCycle (edges g) → InputFree (edges g) g.input →
          Joined (edges g) g.input g.output ⊎ (Joined (edges g) g.input g.output → ⊥) → (m : ℕ) × Judged g m
      at-11 a f (inl j) = at-12 a f j (order (latency (count g) (edges g) (time_of g) g.output) g.bound)
      at-11 a f (inr apart) = (11, not_joined refl a f apart)

      at-10 :
          NoZeroCycle (edges g) →
          ((e : Edge) × e ∈ edges g × (e.sink ≡ g.input) × (e.delay ≡ 0)) ⊎ InputFree (edges g) g.input → (m : ℕ) × Judged g m
      at-10 a (inl (e, in_List, to, at_once)) = (10, input_waits refl a e in_List to at_once)
      at-10 a (inr f) = at-11 a f (decided met)

      at_9 : ZeroCycle (edges g) ⊎ NoZeroCycle (edges g) → (m : ℕ) × Judged g m
      at_9 (inl z) = (9, zero-cycle refl z)
      at_9 (inr a) = at-10 a (waiting (edges g) g.input)

  judged-so : (m : ℕ) → (schedule_refusal g).number ≡ m → Judged g m
  judged-so m is =
      let k : (m : ℕ) × Judged g m = some_number in
      subst (Judged g) (sym (gets k.0 k.1) ∙ is) k.1

pub judged-iff : JudgedIff
judged-iff g formed m = (judged-so g formed m, gets g formed m)

-- ── Places ──

no-place-of : (b : Bool) (n : ℕ) (rs : List Refusal) → (first rs).place ≡ 0 → (first (refuse b n 0 ∷ rs)).place ≡ 0
unfolding refuse
no-place-of b n rs later = go (zero_or_not (refuse b n 0).number)
  where
    none_named : (b : Bool) → (refuse b n 0).place ≡ 0
    none_named true = refl
    none_named false = refl

    go : ((refuse b n 0).number ≡ 0) ⊎ ((refuse b n 0).number ≡ 0 → ⊥) → (first (refuse b n 0 ∷ rs)).place ≡ 0
    go (inl none) = ap (λ (r : Refusal). r.place) (Goes-by (refuse b n 0) rs none) ∙ later
    go (inr some) = ap (λ (r : Refusal). r.place) (stops (refuse b n 0) rs some) ∙ none_named b

pub no_place : NoPlace
unfolding schedule_refusal schedule_checks
no_place g = no-place-of _ 9 _ (no-place-of _ 10 _ (no-place-of _ 11 _ (no-place-of _ 12 [] (ap (λ (r : Refusal). r.place) no-checks))))

-- ── Stalls, and whole files ──

pub nine-iff-stalls : NineIffStalls
nine-iff-stalls g formed = (to, back)
  where
    never : NeverStalls (count g) (edges g) ↔ NoZeroCycle (edges g)
    never = never-stalls-iff (count g) (edges g) (between-tasks g formed)

    found : Judged g 9 → ZeroCycle (edges g)
    found (zero-cycle is z) = z
    found (input_waits is a e m t z) = absurd (omega (arith, is))
    found (not_joined is a f j) = absurd (omega (arith, is))
    found (bound_below is a f j l e b) = absurd (omega (arith, is))
    found (passes is a f j l e b) = absurd (omega (arith, is))

    to : (schedule_refusal g).number ≡ 9 → NeverStalls (count g) (edges g) → ⊥
    to is runs = never.0 runs (found (judged-so g formed 9 is))

    back : (NeverStalls (count g) (edges g) → ⊥) → (schedule_refusal g).number ≡ 9
    back stalls = go (decided (cyclic g formed))
      where
        go : ZeroCycle (edges g) ⊎ NoZeroCycle (edges g) → (schedule_refusal g).number ≡ 9
        go (inl z) = gets g formed 9 (zero-cycle refl z)
        go (inr a) = absurd (stalls (never.1 a))

module _ (s : List ℕ) where
  accepted-passed : (acceptance_refusal s).number ≡ 0 → ((graph_refusal s).number ≡ 0) × AcceptedGraph (graph_of s)
  accepted-passed none = go (zero_or_not (graph_refusal s).number)
    where
      found : WellFormed (graph_of s) → Judged (graph_of s) 0 → AcceptedGraph (graph_of s)
      found formed (passes is a f j l e b) =
          record { formed = formed; no_zero_cycle = a; input-free = f; joined = j; bound_met = (l, e, b) }
      found formed (zero-cycle is z) = absurd (omega (arith, is))
      found formed (input_waits is a e m t z) = absurd (omega (arith, is))
      found formed (not_joined is a f j) = absurd (omega (arith, is))
      found formed (bound_below is a f j l e b) = absurd (omega (arith, is))

      go : ((graph_refusal s).number ≡ 0) ⊎ ((graph_refusal s).number ≡ 0 → ⊥) → ((graph_refusal s).number ≡ 0) × AcceptedGraph (graph_of s)
      go (inl read) =
          let formed = graph-formed s read in
          (read, found formed (judged-so (graph_of s) formed 0 (number_same (sym (judged-after s read)) ∙ none)))
      go (inr some) = absurd (some (number_same (sym (refused-before s some)) ∙ none))

  passed-accepted : ((graph_refusal s).number ≡ 0) × AcceptedGraph (graph_of s) → (acceptance_refusal s).number ≡ 0
  passed-accepted (read, g) =
      let bound = g.bound_met in
      number_same (judged-after s read) ∙
      gets (graph_of s) g.formed 0 (passes refl g.no_zero_cycle g.input-free g.joined bound.0 bound.1 bound.2)

  refused-judged : (m : ℕ) → 9 ≤ m → (acceptance_refusal s).number ≡ m → ((graph_refusal s).number ≡ 0) × Judged (graph_of s) m
  refused-judged m high is = go (zero_or_not (graph_refusal s).number)
    where
      go : ((graph_refusal s).number ≡ 0) ⊎ ((graph_refusal s).number ≡ 0 → ⊥) → ((graph_refusal s).number ≡ 0) × Judged (graph_of s) m
      go (inl read) = (read, judged-so (graph_of s) (graph-formed s read) m (number_same (sym (judged-after s read)) ∙ is))
      go (inr some) =
          let low : (graph_refusal s).number ≤ 8 = graph-numbers s in
          let same : (acceptance_refusal s).number ≡ (graph_refusal s).number = number_same (refused-before s some) in
          absurd (omega arith)

  judged-refused : (m : ℕ) → ((graph_refusal s).number ≡ 0) × Judged (graph_of s) m → (acceptance_refusal s).number ≡ m
  judged-refused m (read, j) = number_same (judged-after s read) ∙ gets (graph_of s) (graph-formed s read) m j

pub accepted-iff-passed : AcceptedIffPassed
accepted-iff-passed s = (accepted-passed s, passed-accepted s)

pub refused-iff-judged : RefusedIffJudged
refused-iff-judged s m high = (refused-judged s m high, judged-refused s m)
