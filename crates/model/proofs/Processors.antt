-- The processor edges as a list are those of document 01: the search for the next task, or for the first, finds it, and a task has only one
-- processor edge out of it. Then the paths that they make: onward from task to task, and around from the last task to the first.
use mathlib.Core.Path.{◌≡◌, refl, sym, ◌∙◌, subst}
use mathlib.Core.Logic.{◌⊎◌, inl, inr, ◌≢◌}
use mathlib.Core.Bool.{not}
use mathlib.Core.List.{List}
use mathlib.Core.Option.{Option, none, some}
use Prim.Native.Nat.{ℕ, zero, suc, ◌+◌, ◌-◌, ◌≤◌, ◌<◌}
use native.Mathlib.Nat.{eq-or-lt_of_le}
use native.Mathlib.Omega.{arith}
use lib.Dec.{T, T_not, eqb, eqb→eq}
use lib.ListN.{length}
use Rattle.model.specs.Lists.{first_from}
use Rattle.model.specs.Tasks.{Task, Edge, ◌∈◌, Ends, processor_of, Next, Last, First, ProcessorEdge, onward, around}
use Rattle.model.specs.Processors.{on_processor_of, around_to, onward_to, processor_edge, processor_edges}
use Rattle.model.specs.Paths.{Path}
use Rattle.model.specs.Theorems.{ProcessorEdgesAre}
use Rattle.model.proofs.Basics.{eq→eqb, order, FirstFrom, found, missing, first-from, tabulate-in, tabulate-out}
use Rattle.model.proofs.Walks.{edge-equal, path-edge, path-append, path-delay, path-ends}

-- ── The test of one processor ──

passes_same : (ts : List Task) (v u : ℕ) → T (on_processor_of ts v u) → processor_of ts u ≡ processor_of ts v
unfolding on_processor_of
passes_same ts v u t = eqb→eq (processor_of ts u) (processor_of ts v) t

fails-other : (ts : List Task) (v u : ℕ) → T (not (on_processor_of ts v u)) → processor_of ts u ≢ processor_of ts v
unfolding on_processor_of
fails-other ts v u t q = T_not (eqb (processor_of ts u) (processor_of ts v)) t (eq→eqb q)

-- ── The edge out of a task is a processor edge ──

-- after a search from 0: the last task's edge
edge-around : (ts : List Task) (v : ℕ) → v < length ts → Last ts v → {o : Option ℕ} →
    FirstFrom (on_processor_of ts v) 0 (length ts) o → ProcessorEdge ts (around_to v o)
unfolding around_to
edge-around ts v l last (found {u = u} h b t no-earlier) =
    around l last
    (record { present = omega arith; same = passes_same ts v u t; none_before = λ w k. fails-other ts v w (no-earlier w (omega arith) k) })
    refl
edge-around ts v l last (missing all) = absurd (fails-other ts v v (all v (omega arith) (omega arith)) refl)

-- after a search from the task on
edge-onward : (ts : List Task) (v : ℕ) → v < length ts → {o : Option ℕ} →
    FirstFrom (on_processor_of ts v) (suc v) (length ts - suc v) o → ProcessorEdge ts (onward_to ts v o)
unfolding onward_to
edge-onward ts v l (found {u = u} h b t no-earlier) =
    onward l
    (
    record {
      later = h;
      present = omega arith;
      same = passes_same ts v u t;
      none_between = λ w k k'. fails-other ts v w (no-earlier w k k');
    }
    )
    refl
edge-onward ts v l (missing all) =
    edge-around ts v l (λ u k k'. fails-other ts v u (all u k (omega arith))) (first-from (on_processor_of ts v) 0 (length ts))

edge-out : (ts : List Task) (v : ℕ) → v < length ts → ProcessorEdge ts (processor_edge ts v)
unfolding processor_edge
edge-out ts v l = edge-onward ts v l (first-from (on_processor_of ts v) (suc v) (length ts - suc v))

around-source : (v : ℕ) (o : Option ℕ) → (around_to v o).source ≡ v
unfolding around_to
around-source v none = refl
around-source v (some w) = refl

onward-source : (ts : List Task) (v : ℕ) (o : Option ℕ) → (onward_to ts v o).source ≡ v
unfolding onward_to
onward-source ts v none = around-source v (first_from (on_processor_of ts v) 0 (length ts))
onward-source ts v (some w) = refl

edge-source : (ts : List Task) (v : ℕ) → (processor_edge ts v).source ≡ v
unfolding processor_edge
edge-source ts v = onward-source ts v (first_from (on_processor_of ts v) (suc v) (length ts - suc v))

-- ── Only one processor edge leaves a task ──

-- neither of two numbers lies before the other
not_before : (a b : ℕ) → (a < b → ⊥) → (b < a → ⊥) → a ≡ b
not_before a b h k = go (order a b)
  where
    go : (a ≤ b) ⊎ (b < a) → a ≡ b
    go (inl l) = pick (eq-or-lt_of_le l)
      where
        pick : (a ≡ b) ⊎ (a < b) → a ≡ b
        pick (inl q) = q
        pick (inr l') = absurd (h l')
    go (inr l) = absurd (k l)

next-unique : {ts : List Task} {v a b : ℕ} → Next ts v a → Next ts v b → a ≡ b
next-unique {a = a} {b = b} m n =
    not_before a b (λ l. n.none_between a m.later l m.same) (λ l. m.none_between b n.later l n.same)

first-unique : {ts : List Task} {v a b : ℕ} → First ts v a → First ts v b → a ≡ b
first-unique {a = a} {b = b} m n = not_before a b (λ l. n.none_before a l m.same) (λ l. m.none_before b l n.same)

last-no-next : {ts : List Task} {v w : ℕ} → Last ts v → Next ts v w → ⊥
last-no-next {w = w} last n = last w n.later n.present n.same

edge-unique : {ts : List Task} {e f : Edge} → ProcessorEdge ts e → ProcessorEdge ts f → e.source ≡ f.source → e ≡ f
edge-unique {ts} {e} {f} (onward l n z) (onward l' n' z') q =
    edge-equal q (next-unique (subst (λ (v : ℕ). Next ts v e.sink) q n) n') (z ∙ sym z')
edge-unique {ts} {e} (onward l n z) (around l' last w z') q = absurd (last-no-next last (subst (λ (v : ℕ). Next ts v e.sink) q n))
edge-unique {ts} (around l last w z) (onward l' n z') q = absurd (last-no-next (subst (λ (v : ℕ). Last ts v) q last) n)
edge-unique {ts} {e} (around l last w z) (around l' last' w' z') q =
    edge-equal q (first-unique (subst (λ (v : ℕ). First ts v e.sink) q w) w') (z ∙ sym z')

-- a processor edge out of task v is the one that is listed for v
pub edge-is : (ts : List Task) (v : ℕ) {e : Edge} → v < length ts → ProcessorEdge ts e → e.source ≡ v → e ≡ processor_edge ts v
edge-is ts v below out from = edge-unique out (edge-out ts v below) (from ∙ sym (edge-source ts v))

-- ── The list ──

listed : (ts : List Task) (v : ℕ) → v < length ts → processor_edge ts v ∈ processor_edges ts
unfolding processor_edges
listed ts v l = tabulate-in (processor_edge ts) (length ts) v l

member-edge : {ts : List Task} {e : Edge} → e ∈ processor_edges ts → ProcessorEdge ts e
unfolding processor_edges
member-edge {ts} m =
    let r = tabulate-out (processor_edge ts) (length ts) m in
    subst (λ (e : Edge). ProcessorEdge ts e) (sym r.2) (edge-out ts r.0 r.1)

edge-starts : {ts : List Task} {e : Edge} → ProcessorEdge ts e → e.source < length ts
edge-starts (onward l n z) = l
edge-starts (around l last w z) = l

edge-member : {ts : List Task} {e : Edge} → ProcessorEdge ts e → e ∈ processor_edges ts
edge-member {ts} {e} p =
    let l = edge-starts p in
    let q = edge-unique p (edge-out ts e.source l) (sym (edge-source ts e.source)) in
    subst (λ (f : Edge). f ∈ processor_edges ts) (sym q) (listed ts e.source l)

-- the list holds exactly the processor edges of document 01
pub processor-edges : ProcessorEdgesAre
processor-edges ts e = (λ m. member-edge m, λ p. edge-member p)

-- a processor edge joins two tasks of the list
pub processor-ends : (ts : List Task) → Ends (length ts) (processor_edges ts)
processor-ends ts e m = go (member-edge m)
  where
    go : ProcessorEdge ts e → (e.source < length ts) × (e.sink < length ts)
    go (onward l n z) = (l, n.present)
    go (around l last w z) = (l, w.present)

-- a processor edge joins tasks of one processor
pub processor-same : (ts : List Task) (e : Edge) → e ∈ processor_edges ts → processor_of ts e.source ≡ processor_of ts e.sink
processor-same ts e m = go (member-edge m)
  where
    go : ProcessorEdge ts e → processor_of ts e.source ≡ processor_of ts e.sink
    go (onward l n z) = sym n.same
    go (around l last w z) = sym w.same

-- a processor edge has delay 0 or 1
pub processor-delay : (ts : List Task) (e : Edge) → e ∈ processor_edges ts → e.delay ≤ 1
processor-delay ts e m = go (member-edge m)
  where
    go : ProcessorEdge ts e → e.delay ≤ 1
    go (onward l n z) = omega arith
    go (around l last w z) = omega arith

-- ── Paths of processor edges ──

-- where the edge out of v leads: onward to the next task, or around from the last to the first
abbrev Leads : List Task → ℕ → Type 0
Leads ts v =
    ((w : ℕ) × Next ts v w × Path (processor_edges ts) v w 0) ⊎ ((w : ℕ) × Last ts v × First ts v w × Path (processor_edges ts) v w 1)

edge_leads : (ts : List Task) (v : ℕ) → v < length ts → Leads ts v
edge_leads ts v l = go (edge-out ts v l) (edge-source ts v) (path-edge (listed ts v l))
  where
    go : {e : Edge} → ProcessorEdge ts e → e.source ≡ v → Path (processor_edges ts) e.source e.sink e.delay → Leads ts v
    go {e} (onward l' n z) q r = inl (e.sink, subst (λ (a : ℕ). Next ts a e.sink) q n, path-delay z (path-ends q refl r))
    go {e} (around l' last w z) q r =
        inr (
          e.sink,
          subst (λ (a : ℕ). Last ts a) q last,
          subst (λ (a : ℕ). First ts a e.sink) q w,
          path-delay z (path-ends q refl r),
        )

-- from a task onward to a later one of its processor, in at most f edges
onward-within : (ts : List Task) (f v w : ℕ) → w ≤ v + f → v < w → w < length ts → processor_of ts w ≡ processor_of ts v →
    Path (processor_edges ts) v w 0
onward-within ts zero v w h k l q = absurd (omega arith)
onward-within ts (suc f) v w h k l q = go (λ u h' k' q'. onward-within ts f u w h' k' l q') (edge_leads ts v (omega arith))
  where
    go : ((u : ℕ) → w ≤ u + f → u < w → processor_of ts w ≡ processor_of ts u → Path (processor_edges ts) u w 0) →
        Leads ts v → Path (processor_edges ts) v w 0
    go ih (inl x) = pick (order w x.0)
      where
        reached : (w ≡ x.0) ⊎ (w < x.0) → Path (processor_edges ts) v w 0
        reached (inl e) = path-ends refl (sym e) x.2
        reached (inr l') = absurd (x.1.none_between w k l' q)

        pick : (w ≤ x.0) ⊎ (x.0 < w) → Path (processor_edges ts) v w 0
        pick (inl l') = reached (eq-or-lt_of_le l')
        pick (inr l') = path-append x.2 (ih x.0 (omega arith) l' (q ∙ sym x.1.same))
    go ih (inr x) = absurd (x.1 w k l q)

-- of two tasks of one processor the earlier one reaches the later one through delay-0 processor edges
pub processor-onward : (ts : List Task) (v w : ℕ) → v < w → w < length ts → processor_of ts v ≡ processor_of ts w →
    Path (processor_edges ts) v w 0
processor-onward ts v w k l q = onward-within ts w v w (omega arith) k l (sym q)

-- the same where the two may be one task: nothing to go then
onward-or-there : (ts : List Task) (v w : ℕ) → v ≤ w → w < length ts → processor_of ts v ≡ processor_of ts w →
    (v ≡ w) ⊎ Path (processor_edges ts) v w 0
onward-or-there ts v w h l q = go (eq-or-lt_of_le h)
  where
    go : (v ≡ w) ⊎ (v < w) → (v ≡ w) ⊎ Path (processor_edges ts) v w 0
    go (inl e) = inl e
    go (inr k) = inr (processor-onward ts v w k l q)

-- the last task of v's processor, sought through at most f tasks after v
last_within : (ts : List Task) (f v : ℕ) → length ts ≤ v + f → v < length ts →
    (u : ℕ) × (v ≤ u) × (u < length ts) × (processor_of ts v ≡ processor_of ts u) × Last ts u
last_within ts zero v h l = absurd (omega arith)
last_within ts (suc f) v h l = go (λ u h' l'. last_within ts f u h' l') (edge_leads ts v l)
  where
    go : ((u : ℕ) → length ts ≤ u + f → u < length ts →
        (x : ℕ) × (u ≤ x) × (x < length ts) × (processor_of ts u ≡ processor_of ts x) × Last ts x) →
        Leads ts v → (u : ℕ) × (v ≤ u) × (u < length ts) × (processor_of ts v ≡ processor_of ts u) × Last ts u
    go ih (inl x) =
        let k : v < x.0 = x.1.later in
        let r = ih x.0 (omega arith) x.1.present in
        let k' : x.0 ≤ r.0 = r.1 in
        (r.0, omega arith, r.2, sym x.1.same ∙ r.3, r.4)
    go ih (inr x) = (v, omega arith, l, refl, x.1)

-- the last task's edge leads around to the first
last-around : (ts : List Task) (v : ℕ) → v < length ts → Last ts v → (w : ℕ) × First ts v w × Path (processor_edges ts) v w 1
last-around ts v l last = go (edge_leads ts v l)
  where
    go : Leads ts v → (w : ℕ) × First ts v w × Path (processor_edges ts) v w 1
    go (inl x) = absurd (last-no-next last x.1)
    go (inr x) = (x.0, x.2, x.3)

-- Each task reaches each of its processor by a path of delay 1: onward to the last task, around to the first, and onward.
pub processor-around : (ts : List Task) (v w : ℕ) → v < length ts → w < length ts → processor_of ts v ≡ processor_of ts w →
    Path (processor_edges ts) v w 1
processor-around ts v w l l' q = go (last_within ts (length ts) v (omega arith) l)
  where
    after-onward : {a b c : ℕ} → (a ≡ b) ⊎ Path (processor_edges ts) a b 0 → Path (processor_edges ts) b c 1 → Path (processor_edges ts) a c 1
    after-onward (inl e) r = path-ends (sym e) refl r
    after-onward (inr p) r = path-append p r

    then-onward : {a b c : ℕ} → Path (processor_edges ts) a b 1 → (b ≡ c) ⊎ Path (processor_edges ts) b c 0 → Path (processor_edges ts) a c 1
    then-onward r (inl e) = path-ends refl e r
    then-onward r (inr p) = path-append r p

    go : (u : ℕ) × (v ≤ u) × (u < length ts) × (processor_of ts v ≡ processor_of ts u) × Last ts u → Path (processor_edges ts) v w 1
    go t = turn (last-around ts t.0 t.2 t.4)
      where
        turn : (x : ℕ) × First ts t.0 x × Path (processor_edges ts) t.0 x 1 → Path (processor_edges ts) v w 1
        turn x = after-onward (onward-or-there ts v t.0 t.1 t.2 t.3) (then-onward x.2 (start (order x.0 w)))
          where
            same : processor_of ts w ≡ processor_of ts t.0
            same = sym q ∙ t.3

            start : (x.0 ≤ w) ⊎ (w < x.0) → (x.0 ≡ w) ⊎ Path (processor_edges ts) x.0 w 0
            start (inl h) = onward-or-there ts x.0 w h l' (x.1.same ∙ sym same)
            start (inr h) = absurd (x.1.none_before w h same)

-- each task lies on its processor's cycle, of delay 1
pub processor-serial : (ts : List Task) (v : ℕ) → v < length ts → Path (processor_edges ts) v v 1
processor-serial ts v l = processor-around ts v v l l refl
