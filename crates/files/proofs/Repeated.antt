-- The marks and keys of 8's search: each edge's place is marked and its key listed once the edge is passed. Equal edges have one place, so an edge
-- whose place is not marked repeats no earlier one; and edges are equal exactly if their keys are.
use mathlib.Core.Path.{◌≡◌, refl, sym, ap, ◌∙◌, subst}
use mathlib.Core.Logic.{◌⊎◌, inl, inr, ◌≢◌}
use mathlib.Core.Bool.{Bool, true, false, ◌||◌, false≢true}
use mathlib.Core.List.{List}
use Prim.Native.Nat.{ℕ, zero, suc, ◌+◌, ◌≤◌, ◌<◌}
use native.Mathlib.Numerals.{add-one}
use native.Mathlib.Omega.{arith}
use lib.Dec.{eqb}
use lib.ListN.{length, get_or, set, take, length-set}
use lib.Seq.{get_or-set_same, get_or-set_other}
use borrow.Author.Count.{below_none, below_more}
use borrow.Author.Tests.{eq-eqb, ne_eqb}
use Rattle.std.specs.List.{list_any}
use Rattle.std.proofs.lemmas.List.Folds.{list_any_more}
use Rattle.layout.specs.declared.EdgeRecord.{EdgeRecord}
use Rattle.model.specs.Tasks.{Edge}
use Rattle.model.specs.Lists.{any_below}
use Rattle.model.specs.Compute.{same_edge}
use Rattle.model.proofs.Tests.{decided, decides-yes, decides-no, eqb-decides, same-edge}
use Rattle.records.specs.Columns.{edge_of, record_of, edges_in, no_record}
use Rattle.files.specs.Files.{edge_in, repeats_earlier}
use Rattle.files.specs.Repeated.{edge_place, KeyOf, Keyed, SeenBefore}
use Rattle.files.proofs.Single.{edge-is}
use Rattle.files.proofs.Repeats.{repeats-earlier-is, same_records}

-- the place of edge i, and that it is marked
abbrev place_of : List EdgeRecord → ℕ → ℕ
place_of edges i = edge_place (get_or edges i no_record)

abbrev Has : List EdgeRecord → List Bool → ℕ → Type 0
Has edges seen i = get_or seen (place_of edges i) false ≡ true

-- ── Keys ──

abbrev HasKey : List EdgeRecord → List ℕ → ℕ → Type 0
HasKey edges keys i = KeyOf (get_or edges i no_record) (get_or keys i 0)

pub keyed-none : (edges : List EdgeRecord) (keys : List ℕ) → Keyed edges 0 keys
keyed-none edges keys = record { few = omega arith; each = below_none (HasKey edges keys) }

-- two keys are equal exactly if their edges are
same-keys : {e f : EdgeRecord} {k l : ℕ} → KeyOf e k → KeyOf f l → eqb k l ≡ same_edge (edge_of e) (edge_of f)
unfolding edge_of
same-keys {e} {f} {k} {l} of-e of-f = go (decided (eqb-decides k l))
  where
    go : (k ≡ l) ⊎ (k ≢ l) → eqb k l ≡ same_edge (edge_of e) (edge_of f)
    go (inl same) =
        let source : e.source ≡ f.source = omega (arith, of-e.is, of-e.sink, of-e.delay, of-f.is, of-f.sink, of-f.delay, same) in
        let sink : e.sink ≡ f.sink = omega (arith, of-e.is, of-e.sink, of-e.delay, of-f.is, of-f.sink, of-f.delay, same) in
        let delay : e.delay ≡ f.delay = omega (arith, of-e.is, of-e.sink, of-e.delay, of-f.is, of-f.sink, of-f.delay, same) in
        eq-eqb k l same ∙ sym (decides-yes (same-edge (edge_of e) (edge_of f)) (λ d. record { source = source d; sink = sink d; delay = delay d }))
    go (inr other) =
        ne_eqb k l other ∙
        sym (decides-no (same-edge (edge_of e) (edge_of f))
        (λ same.
        let source : e.source ≡ f.source = ap (λ (x : Edge). x.source) same in
        let sink : e.sink ≡ f.sink = ap (λ (x : Edge). x.sink) same in
        let delay : e.delay ≡ f.delay = ap (λ (x : Edge). x.delay) same in
        other (omega (arith, of-e.is, of-f.is, source, sink, delay))))

module _ {edges : List EdgeRecord} {j : ℕ} {keys : List ℕ} (keyed : Keyed edges j keys) where
  pub keyed-more : {key : ℕ} → j < length keys → KeyOf (get_or edges j no_record) key → Keyed edges (j + 1) (set keys j key)
  keyed-more {key} room of = record {
    few = omega (arith, room, length-set keys j key);
    each = below_more (HasKey edges (set keys j key)) j
        (λ i l. subst (KeyOf (get_or edges i no_record)) (sym (get_or-set_other keys j i key 0 (λ e. omega (arith, e, l)))) (keyed.each i l))
        (subst (KeyOf (get_or edges j no_record)) (sym (get_or-set_same keys j key 0 room)) of);
  }

  -- a search of the first n keys for edge j's is one of the edges
  pub keys-search : {key : ℕ} → KeyOf (get_or edges j no_record) key → (n : ℕ) → n ≤ j →
      list_any (λ k. eqb k key) (take n keys) ≡ any_below n (λ i. same_edge (edge_in (edges_in edges) i) (edge_in (edges_in edges) j))
  unfolding any_below
  keys-search of zero l = refl
  keys-search {key} of (suc n) l =
      ap (λ (m : ℕ). list_any (λ k. eqb k key) (take m keys)) (sym (add-one n)) ∙
      (list_any_more (λ k. eqb k key) keys n 0 (omega (arith, keyed.few)) ∙
      (λ d. keys-search of n (omega arith) d || (same-keys (keyed.each n (omega arith)) of ∙ sym (same_records edges n j)) d))

-- ── Marks ──

pub marked-none : (edges : List EdgeRecord) {seen : List Bool} → length seen ≡ 4096 → SeenBefore edges 0 seen
marked-none edges {seen} room = record { room = room; each = below_none (Has edges seen) }

module _ {edges : List EdgeRecord} {j : ℕ} {seen : List Bool} (marked : SeenBefore edges j seen) {place : ℕ} (is : place ≡ place_of edges j) where
  pub marked-before : get_or seen place false ≡ true → SeenBefore edges (j + 1) seen
  marked-before some = record {
    room = marked.room;
    each = below_more (Has edges seen) j marked.each (subst (λ (p : ℕ). get_or seen p false ≡ true) is some);
  }

  pub marked-now : SeenBefore edges (j + 1) (set seen place true)
  marked-now = record {
    room = simp length-set marked.room;
    each = below_more (Has edges (set seen place true)) j
        (λ i l. go i (decided (eqb-decides (place_of edges i) place)) (marked.each i l))
        (at_place j (sym is));
  }
    where
      at_place : (i : ℕ) → place_of edges i ≡ place → Has edges (set seen place true) i
      at_place i same =
          ap (λ (p : ℕ). get_or (set seen place true) p false) same ∙ get_or-set_same seen place true false (omega (arith, marked.room))

      go : (i : ℕ) → (place_of edges i ≡ place) ⊎ (place_of edges i ≢ place) → Has edges seen i → Has edges (set seen place true) i
      go i (inl same) before = at_place i same
      go i (inr other) before = get_or-set_other seen place (place_of edges i) true false other ∙ before

  pub not_marked : get_or seen place false ≡ false → repeats_earlier (edges_in edges) j ≡ false
  unfolding edge_of record_of
  not_marked none =
      decides-no (repeats-earlier-is (edges_in edges) j)
      (λ r.
      let i = r.0 in
      let equal : edge_of (get_or edges i no_record) ≡ edge_of (get_or edges j no_record) = sym (edge-is edges i) ∙ (r.2 ∙ edge-is edges j) in
      let same : place_of edges i ≡ place = ap (λ (e : Edge). edge_place (record_of e)) equal ∙ sym is in
      false≢true (sym none ∙ (ap (λ (p : ℕ). get_or seen p false) (sym same) ∙ marked.each i r.1)))
