-- Paths between processors are paths between their tasks: each edge joins the processors of its ends, and a path between processors becomes one of tasks
-- by going around on each processor from where it is entered to where it is left.
use mathlib.Core.Path.{◌≡◌, refl, sym, ap, ◌∙◌, subst}
use mathlib.Core.List.Memᴰ.{head as here}
use mathlib.Core.List.Memᴰ.{tail as there}
use mathlib.Core.List.{List, [], ◌∷◌}
use mathlib.Core.Option.{Option}
use Prim.Native.Nat.{ℕ, ◌+◌, ◌<◌}
use Rattle.std.specs.Prelude.{map}
use Rattle.model.specs.Tasks.{Edge, ◌∈◌, Ends}
use Rattle.model.specs.Paths.{Walk, stop, step, Path, Least, smallest, no-path}
use Rattle.model.specs.Compute.{present, least_delay}
use Rattle.model.proofs.Walks.{path-edge, path-ends, path-append}
use Rattle.model.proofs.Least.{least-delay}
use Rattle.records.specs.Columns.{at}
use Rattle.reach.specs.Reach.{between, Circled, Reaches, ReachesOn}

map-in : (f : Edge → Edge) {e : Edge} {es : List Edge} → e ∈ es → f e ∈ map f es
map-in f (here q) = here (ap f q)
map-in f (there m) = there (map-in f m)

map-out : (f : Edge → Edge) {x : Edge} (es : List Edge) → x ∈ map f es → (e : Edge) × (e ∈ es) × (x ≡ f e)
map-out f [] m = elim m [ ]
map-out f (e ∷ es) (here q) = (e, here refl, q)
map-out f (e ∷ es) (there m) =
    let r = map-out f es m in
    (r.0, there r.1, r.2)

module _ (es : List Edge) (processor : List ℕ) (n used : ℕ) (ends : Ends n es) (few : (v : ℕ) → v < n → at processor v < used) where
  abbrev qs : List Edge
  qs = map (between processor) es

  -- the edge between processors that an edge is
  place_in : {e : Edge} → e ∈ es → between processor e ∈ qs
  place_in m = map-in (between processor) m

  -- which edge an edge between processors comes from
  place_out : (f : Edge) → f ∈ qs → (e : Edge) × (e ∈ es) × (f ≡ between processor e)
  place_out f m = map-out (between processor) es m

  q-ends : Ends used qs
  unfolding between
  q-ends f m =
      let r = place_out f m in
      let own = ends r.0 r.1 in
      subst (λ (x : Edge). (x.source < used) × (x.sink < used)) (sym r.2) (few r.0.source own.0, few r.0.sink own.1)

  -- ── From tasks to processors ──

  edge-between : (e : Edge) → e ∈ es → Path qs (at processor e.source) (at processor e.sink) e.delay
  unfolding between
  edge-between e m = path-edge (place_in m)

  along : {c a b : ℕ} {p : List Edge} → Walk es a p b → (d : ℕ) × Path qs c (at processor a) d → (d : ℕ) × Path qs c (at processor b) d
  along (stop q) r = (r.0, path-ends refl (ap (at processor) q) r.1)
  along (step {e = e} m q w) r =
      along w (r.0 + e.delay, path-append r.1 (path-ends (ap (at processor) q) refl (edge-between e m)))

  to-processors : {a b d : ℕ} → Path es a b d → (d : ℕ) × Path qs (at processor a) (at processor b) d
  to-processors {a} {b} r = go r.walk
    where
      go : {e : Edge} {p : List Edge} → Walk es a (e ∷ p) b → (d : ℕ) × Path qs (at processor a) (at processor b) d
      go (step {e = e} m q w) = along w (e.delay, path-ends (ap (at processor) q) refl (edge-between e m))

  -- ── From processors to tasks ──

  module _ (circled : Circled n es processor) where
    -- an edge between processors, from any task of the first
    lifted : (f : Edge) → f ∈ qs → {a : ℕ} → a < n → at processor a ≡ f.source → (t : ℕ) × (t < n) × (at processor t ≡ f.sink) × (d : ℕ) × Path es a t d
    unfolding between
    lifted f m {a} below on =
        let r = place_out f m in
        let e = r.0 in
        let own = ends e r.1 in
        let round = circled a e.source below own.0 (on ∙ ap (λ (x : Edge). x.source) r.2) in
        (e.sink, own.1, sym (ap (λ (x : Edge). x.sink) r.2), round.0 + e.delay, path-append round.1 (path-edge r.1))

    onward :
        {c a x y : ℕ} {p : List Edge} → Walk qs x p y → a < n → at processor a ≡ x → (d : ℕ) × Path es c a d
        → (t : ℕ) × (t < n) × (at processor t ≡ y) × (d : ℕ) × Path es c t d
    onward {c} {a} (stop q) below on r = (a, below, on ∙ q, r.0, r.1)
    onward {c = c} {a = a} (step {e = f} m q w) below on r =
        let s = lifted f m below (on ∙ sym q) in
        onward {c = c} {a = s.0} w s.1 s.2 (r.0 + s.3, path-append r.1 s.4)

    to-tasks : {a b d : ℕ} → a < n → b < n → Path qs (at processor a) (at processor b) d → (d : ℕ) × Path es a b d
    to-tasks {a} {b} l k r = go r.walk
      where
        go : {f : Edge} {p : List Edge} → Walk qs (at processor a) (f ∷ p) (at processor b) → (d : ℕ) × Path es a b d
        go (step {e = f} m q w) =
            let s = lifted f m l (sym q) in
            let t = onward w s.1 s.2 (s.3, s.4) in
            let round = circled t.0 b t.1 k t.2 in
            (t.3 + round.0, path-append t.4 round.1)

    same-present : (a b : ℕ) → a < n → b < n → present (least_delay used qs (at processor a) (at processor b)) ≡ present (least_delay n es a b)
    unfolding present
    same-present a b l k = go (least-delay used qs q-ends (at processor a) (at processor b)) (least-delay n es ends a b)
      where
        go : {o o' : Option ℕ} → Least qs (at processor a) (at processor b) o → Least es a b o' → present o ≡ present o'
        go (smallest r h) (smallest r' h') = refl
        go (smallest r h) (no-path h') = let found = to-tasks l k r in absurd (h' found.0 found.1)
        go (no-path h) (smallest r' h') = let found = to-processors r' in absurd (h found.0 found.1)
        go (no-path h) (no-path h') = refl

    pub reaches-on : {words : List ℕ} → Reaches used qs words → ReachesOn n es processor words
    reaches-on reached = record {
      room = reached.room;
      paths = λ a b l k. reached.paths (at processor a) (at processor b) (few a l) (few b k) ∙ same-present a b l k;
    }
