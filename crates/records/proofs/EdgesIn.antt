-- The edges of edge records: each stands at its record's place, so a bound on the ends of all edges is one on those of each record. A part of records
-- made of edges place by place holds these.
use mathlib.Core.Path.{◌≡◌, refl, ap, ◌∙◌, subst}
use mathlib.Core.List.Memᴰ
use mathlib.Core.List.Memᴰ.{head as here}
use mathlib.Core.List.Memᴰ.{tail as there}
use mathlib.Core.List.{List, [], ◌∷◌}
use Prim.Native.Nat.{ℕ, zero, suc, ◌+◌, ◌-◌, ◌≤◌, ◌<◌}
use native.Mathlib.Nat.{not-suc-le-zero, sub-zero}
use native.Mathlib.Omega.{arith}
use lib.ListN.{length, get_or, take, drop, length-map, get_or-map}
use lib.Seq.{ext_get_or, get_or-take, get_or-drop}
use borrow.Rule.Slice.PartMut.{mid_of, mid_len}
use Rattle.layout.specs.declared.EdgeRecord.{EdgeRecord}
use Rattle.model.specs.Lists.{tabulate}
use Rattle.model.specs.Tasks.{Edge, Ends, ◌∈◌, no_edge}
use Rattle.records.specs.Columns.{edge_of, record_of, edges_in, no_record}
use Rattle.records.proofs.Fill.{length-tabulate, get_d_tabulate}

pub record-in : (rs : List EdgeRecord) (j : ℕ) → j < length rs → edge_of (get_or rs j no_record) ∈ edges_in rs
record-in [] j l = absurd (not-suc-le-zero l)
record-in (r ∷ rs) zero l = here refl
record-in (r ∷ rs) (suc j) l = there (record-in rs j (omega arith))

-- each of the edges is that of a record
pub record-out : (rs : List EdgeRecord) (e : Edge) → e ∈ edges_in rs → (j : ℕ) × (j < length rs) × (e ≡ edge_of (get_or rs j no_record))
record-out [] e m = absurd (Memᴰ.not-nil m)
record-out (r ∷ rs) e (here q) = (0, omega arith, q)
record-out (r ∷ rs) e (there m) = let found = record-out rs e m in (suc found.0, omega (arith, found.1), found.2)

-- the ends of the edge of each record
pub ends_at :
    (rs : List EdgeRecord) {tasks : ℕ} → Ends tasks (edges_in rs) → (j : ℕ) → j < length rs
    → ((get_or rs j no_record).source < tasks) × ((get_or rs j no_record).sink < tasks)
unfolding edge_of
ends_at rs ends j l = ends (edge_of (get_or rs j no_record)) (record-in rs j l)

-- the edge at a place
pub edge-in-at : (rs : List EdgeRecord) (j : ℕ) → get_or (edges_in rs) j no_edge ≡ edge_of (get_or rs j no_record)
unfolding edge_of
edge-in-at rs j = get_or-map edge_of rs j no_record

-- a part of records made of h 0, h 1, .. holds the edges that h has there
pub edges-of-part :
    (es : List Edge) (size a e : ℕ) (h : ℕ → Edge) {xs : List EdgeRecord} → xs ≡ tabulate size (λ i. record_of (h i)) → a ≤ e → e ≤ size
    → e - a ≡ length es → ((j : ℕ) → j < length es → h (a + j) ≡ get_or es j no_edge) → edges_in (mid_of a (e - a) xs) ≡ es
unfolding edge_of record_of
edges-of-part es size a e h {xs} is below fits as_many same =
    let long : length xs ≡ size = ap length is ∙ length-tabulate size (λ i. record_of (h i)) in
    let count : length (edges_in (mid_of a (e - a) xs)) ≡ length es = length-map (mid_of a (e - a) xs) edge_of ∙ (mid_len a e xs (omega arith) ∙ as_many) in
    ext_get_or no_edge (edges_in (mid_of a (e - a) xs)) es count
    (λ j l.
    let inside : j < e - a = omega arith in
    edge-in-at (mid_of a (e - a) xs) j ∙
    (ap edge_of
    (get_or-take (e - a) (drop a xs) j no_record inside ∙
    (get_or-drop a xs j no_record ∙
    (ap (λ (ys : List EdgeRecord). get_or ys (a + j) no_record) is ∙ get_d_tabulate size (λ i. record_of (h i)) no_record (a + j) (omega arith)))) ∙
    same j (omega arith)))

-- the same for a part from the start, lent with its start or without
pub edges-of-front :
    (es : List Edge) (size n : ℕ) {xs : List EdgeRecord} → xs ≡ tabulate size (λ i. record_of (get_or es i no_edge)) → n ≤ size → n ≡ length es
    → edges_in (mid_of 0 (n - 0) xs) ≡ es
edges-of-front es size n is fits as_many =
    edges-of-part es size 0 n (λ i. get_or es i no_edge) is (omega arith) fits (sub-zero n ∙ as_many)
    (λ j l. let same : 0 + j ≡ j = omega arith in ap (λ (i : ℕ). get_or es i no_edge) same)

pub edges-of-take :
    (es : List Edge) (size n : ℕ) {xs : List EdgeRecord} → xs ≡ tabulate size (λ i. record_of (get_or es i no_edge)) → n ≤ size → n ≡ length es
    → edges_in (take n xs) ≡ es
edges-of-take es size n {xs} is fits as_many =
    subst (λ (k : ℕ). edges_in (take k xs) ≡ es) (sub-zero n) (edges-of-front es size n is fits as_many)
