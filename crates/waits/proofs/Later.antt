-- Edges gathered one by one as entries at the front of three lists: those of the first j edges that let a turn wait, each as one entry. And the end that an
-- entry asks for, by the two cases of its definition.
use mathlib.Core.Path.{◌≡◌, sym, ap, ◌∙◌, subst}
use mathlib.Core.Logic.{◌⊎◌, inl, inr}
use mathlib.Core.Bool.{Bool}
use mathlib.Core.List.{List}
use Prim.Native.Nat.{ℕ, ◌+◌, ◌-◌, ◌≤◌, ◌<◌}
use native.Mathlib.Nat.{not-suc-le-zero}
use native.Mathlib.Omega.{arith}
use lib.ListN.{length, get_or, set}
use lib.Seq.{get_or-set_same, get_or-set_other}
use borrow.Author.Tests.{le-leb, lt-leb}
use Rattle.layout.specs.declared.EdgeRecord.{EdgeRecord}
use Rattle.model.specs.Lists.{counted}
use Rattle.model.specs.Tasks.{Edge}
use Rattle.model.proofs.Basics.{order}
use Rattle.records.specs.Columns.{edge_of, edges_in, no_record}
use Rattle.records.proofs.EdgesIn.{record-in, record-out}
use Rattle.waits.specs.Later.{StandsFor, LaterEdges, asked_end}

module _ (edges : List EdgeRecord) (n : ℕ) (time : ℕ → ℕ) (turns : ℕ) where
  -- the delay at a place lets one of the turns wait
  abbrev pub Waits : ℕ → Type 0
  Waits i = (0 < (get_or edges i no_record).delay) × ((get_or edges i no_record).delay < turns)

  -- entry k of three lists stands for the edge at place i
  abbrev Entry : ℕ → List ℕ → List ℕ → List ℕ → ℕ → Type 0
  Entry i back lastings sinks k = StandsFor n time (edge_of (get_or edges i no_record)) (get_or back k 0) (get_or lastings k 0) (get_or sinks k 0)

  pub record LateBelow (j : ℕ) (back lastings sinks : List ℕ) (count : ℕ) : Type 0 where
    pub few : count ≤ j
    pub sound : (k : ℕ) → k < count → (i : ℕ) × (i < j) × Waits i × Entry i back lastings sinks k
    pub whole : (i : ℕ) → i < j → Waits i → (k : ℕ) × (k < count) × Entry i back lastings sinks k

  pub late-none : (back lastings sinks : List ℕ) → LateBelow 0 back lastings sinks 0
  late-none back lastings sinks = record {
    few = omega arith;
    sound = λ k l. absurd (not-suc-le-zero l);
    whole = λ i l. absurd (not-suc-le-zero l);
  }

  module _ {j : ℕ} {back lastings sinks : List ℕ} {count : ℕ} (so_far : LateBelow j back lastings sinks count) where
    -- the edge at place j lets none wait
    pub late-same : (Waits j → ⊥) → LateBelow (j + 1) back lastings sinks count
    late-same not = record {
      few = let few = so_far.few in omega arith;
      sound = λ k l. let entry = so_far.sound k l in let below = entry.1 in (entry.0, omega arith, entry.2, entry.3);
      whole = λ i l waits. whole i l waits (order j i);
    }
      where
        whole : (i : ℕ) → i < j + 1 → Waits i → (j ≤ i) ⊎ (i < j) → (k : ℕ) × (k < count) × Entry i back lastings sinks k
        whole i l waits (inl from) = let same : i ≡ j = omega arith in absurd (not (subst Waits same waits))
        whole i l waits (inr below) = so_far.whole i below waits

    module _ (waits : Waits j) (b w t : ℕ) (stands : StandsFor n time (edge_of (get_or edges j no_record)) b w t) (room : count < length back)
        (room-lasting : count < length lastings) (room-sink : count < length sinks)
      where
        last : Entry j (set back count b) (set lastings count w) (set sinks count t) count
        last = (
          ap (λ (x : ℕ). x + (edge_of (get_or edges j no_record)).source) (get_or-set_same back count b 0 room) ∙ stands.0,
          get_or-set_same lastings count w 0 room-lasting ∙ stands.1,
          get_or-set_same sinks count t 0 room-sink ∙ stands.2,
        )

        kept : (i k : ℕ) → k < count → Entry i back lastings sinks k → Entry i (set back count b) (set lastings count w) (set sinks count t) k
        kept i k l old = (
          ap (λ (x : ℕ). x + (edge_of (get_or edges i no_record)).source) (get_or-set_other back count k b 0 (λ q. omega arith)) ∙ old.0,
          get_or-set_other lastings count k w 0 (λ q. omega arith) ∙ old.1,
          get_or-set_other sinks count k t 0 (λ q. omega arith) ∙ old.2,
        )

        -- the edge at place j is an entry more
        pub late-more : LateBelow (j + 1) (set back count b) (set lastings count w) (set sinks count t) (count + 1)
        late-more = record {
          few = let few = so_far.few in omega arith;
          sound = λ k l. sound k l (order count k);
          whole = λ i l here. whole i l here (order j i);
        }
          where
            sound : (k : ℕ) → k < count + 1 → (count ≤ k) ⊎ (k < count) →
                (i : ℕ) × (i < j + 1) × Waits i × Entry i (set back count b) (set lastings count w) (set sinks count t) k
            sound k l (inl from) =
                let same : count ≡ k = omega arith in
                (j, omega arith, waits, subst (Entry j (set back count b) (set lastings count w) (set sinks count t)) same last)
            sound k l (inr below) =
                let entry = so_far.sound k below in
                let inside = entry.1 in
                (entry.0, omega arith, entry.2, kept entry.0 k below entry.3)

            whole : (i : ℕ) → i < j + 1 → Waits i → (j ≤ i) ⊎ (i < j) →
                (k : ℕ) × (k < count + 1) × Entry i (set back count b) (set lastings count w) (set sinks count t) k
            whole i l here (inl from) =
                let same : j ≡ i = omega arith in
                (count, omega arith, subst (λ (v : ℕ). Entry v (set back count b) (set lastings count w) (set sinks count t) count) same last)
            whole i l here (inr below) =
                let entry = so_far.whole i below here in
                let inside = entry.1 in
                (entry.0, omega arith, kept i entry.0 inside entry.2)

    -- after all edges
    pub late-all : length edges ≤ j → j ≤ length edges → LaterEdges (edges_in edges) n time turns back lastings sinks count
    unfolding edge_of
    late-all all within = record {
      sound = λ k l.
          let entry = so_far.sound k l in
          let below = entry.1 in
          (edge_of (get_or edges entry.0 no_record), record-in edges entry.0 (omega arith), entry.2.0, entry.2.1, entry.3);
      whole = λ e m later soon.
          let place = record-out edges e m in
          let below = place.1 in
          let late = ap (λ (x : Edge). x.delay) place.2 in
          let entry = so_far.whole place.0 (omega arith) (omega arith, omega arith) in
          (entry.0, entry.1, subst (λ (x : Edge). StandsFor n time x (get_or back entry.0 0) (get_or lastings entry.0 0) (get_or sinks entry.0 0)) (sym place.2) entry.2);
    }

module _ (starts : List ℕ) (back lasting : ℕ) where
  pub asked-none : length starts < back → asked_end starts back lasting ≡ 0
  unfolding asked_end counted
  asked-none far = ap (λ (b : Bool). counted b (get_or starts (length starts - back) 0 + lasting)) (lt-leb back (length starts) far)

  pub asked-there : back ≤ length starts → asked_end starts back lasting ≡ get_or starts (length starts - back) 0 + lasting
  unfolding asked_end counted
  asked-there near = ap (λ (b : Bool). counted b (get_or starts (length starts - back) 0 + lasting)) (le-leb back (length starts) near)
