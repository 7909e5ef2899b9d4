-- The words say where paths lead whatever the delays of the edges: edge by edge, a path over one list is a path over another with the same ends, of some
-- delay, and whether there is a least delay is whether there is a path.
use mathlib.Core.Path.{◌≡◌, refl, sym, ap, ◌∙◌, subst}
use mathlib.Core.List.{List, [], ◌∷◌}
use mathlib.Core.Option.{Option}
use Prim.Native.Nat.{ℕ, ◌<◌}
use lib.ListN.{get_or}
use Rattle.model.specs.Tasks.{Edge, ◌∈◌, Ends, no_edge}
use Rattle.model.specs.Paths.{total, Walk, stop, step, Path, Least, smallest, no-path}
use Rattle.model.specs.Compute.{present, least_delay}
use Rattle.model.proofs.Basics.{member-place, place-member}
use Rattle.model.proofs.Walks.{walk_from}
use Rattle.model.proofs.Least.{least-delay}
use Rattle.reach.specs.Reach.{SameEnds, WhateverDelays, CircledWhateverDelays}

pub same-ends : (es : List Edge) → SameEnds es es
same-ends es = record { as_many = refl; sources = λ i. refl; sinks = λ i. refl }

pub same-ends-back : {es fs : List Edge} → SameEnds es fs → SameEnds fs es
same-ends-back same = record { as_many = sym same.as_many; sources = λ i. sym (same.sources i); sinks = λ i. sym (same.sinks i) }

module _ {es fs : List Edge} (same : SameEnds es fs) where
  -- the edge at the same place of the other list
  counterpart : (e : Edge) → e ∈ es → (f : Edge) × (f ∈ fs) × (f.source ≡ e.source) × (f.sink ≡ e.sink)
  counterpart e m =
      let r = member-place no_edge m in
      let i = r.0 in (
        get_or fs i no_edge,
        place-member fs i no_edge (subst (λ (n : ℕ). i < n) same.as_many r.1),
        sym (same.sources i) ∙ ap (λ (x : Edge). x.source) r.2,
        sym (same.sinks i) ∙ ap (λ (x : Edge). x.sink) r.2,
      )

  pub ends-too : {n : ℕ} → Ends n fs → Ends n es
  ends-too {n} ends e m =
      let f = counterpart e m in
      let inside = ends f.0 f.1 in
      (subst (λ (v : ℕ). v < n) f.2 inside.0, subst (λ (v : ℕ). v < n) f.3 inside.1)

  other-walk : {a b : ℕ} {p : List Edge} → Walk es a p b → (q : List Edge) × Walk fs a q b
  other-walk (stop q) = ([], stop q)
  other-walk (step {e = e} m s w) =
      let f = counterpart e m in
      let rest = other-walk w in
      (f.0 ∷ rest.0, step f.1 (f.2 ∙ s) (walk_from f.3 rest.1))

  other-path : {a b d : ℕ} → Path es a b d → (d' : ℕ) × Path fs a b d'
  other-path {a} {b} r = go r.walk
    where
      go : {e : Edge} {p : List Edge} → Walk es a (e ∷ p) b → (d' : ℕ) × Path fs a b d'
      go (step {e = e} m s w) =
          let f = counterpart e m in
          let rest = other-walk w in
          (total (f.0 ∷ rest.0), record { first = f.0; rest = rest.0; walk = step f.1 (f.2 ∙ s) (walk_from f.3 rest.1); sum = refl })

same-present : (n : ℕ) (es fs : List Edge) → Ends n es → Ends n fs → SameEnds es fs → (a b : ℕ) → present (least_delay n es a b) ≡ present (least_delay n fs a b)
unfolding present
same-present n es fs ends ends' same a b = go (least-delay n es ends a b) (least-delay n fs ends' a b)
  where
    go : {o o' : Option ℕ} → Least es a b o → Least fs a b o' → present o ≡ present o'
    go (smallest r h) (smallest r' h') = refl
    go (smallest r h) (no-path h') = let found = other-path same r in absurd (h' found.0 found.1)
    go (no-path h) (smallest r' h') = let found = other-path (same-ends-back same) r' in absurd (h found.0 found.1)
    go (no-path h) (no-path h') = refl

pub whatever-delays : WhateverDelays
whatever-delays n es fs processor words ends ends' same reached = record {
  room = reached.room;
  paths = λ a b l k. reached.paths a b l k ∙ same-present n es fs ends ends' same a b;
}

pub circled-whatever-delays : CircledWhateverDelays
circled-whatever-delays n es fs processor same circled a b l k q = let r = circled a b l k q in other-path same r.1
