-- The search for next tasks: one task more, before the others, is the first one on its processor, and the next one for it is what was the first
-- there before; for the other processors nothing changes. What is found makes the processor edge out of a task.
use mathlib.Core.Path.{◌≡◌, refl, sym, ap, ◌∙◌, subst}
use mathlib.Core.Logic.{◌⊎◌, inl, inr, ◌≢◌}
use mathlib.Core.List.{List}
use Prim.Native.Nat.{ℕ, ◌+◌, ◌≤◌, ◌<◌}
use native.Mathlib.Omega.{arith}
use lib.ListN.{length, get_or, set, replicate, length-set, length-replicate, get_or-replicate}
use lib.Seq.{get_or-set_same, get_or-set_other}
use Rattle.model.specs.Tasks.{Task, Next, Last, First, onward, around, processor_of}
use Rattle.model.specs.Processors.{processor_edge}
use Rattle.model.proofs.Basics.{order}
use Rattle.model.proofs.Tests.{decided, eqb-decides}
use Rattle.model.proofs.Processors.{edge-is}
use Rattle.records.specs.Columns.{ProcessorsOf}
use Rattle.records.specs.Nexts.{FirstOn, FirstTasks, TaskOrNone, task, none, NextTasks}

-- Each processor's entry is a task, or stands for none.
pub record Told (processor first : List ℕ) : Type 0 where
  pub entry : (p : ℕ) → p < 256 → TaskOrNone processor (get_or first p 0)

-- ── Past the last task ──

pub firsts-none : (processor : List ℕ) {first : List ℕ} → length processor ≤ 64 → first ≡ replicate 256 64 → FirstTasks processor (length processor) first
firsts-none processor {first} few blank = record {
  room = ap length blank ∙ length-replicate {A = ℕ} 256 64;
  each = λ p l.
      let entry : get_or first p 0 ≡ 64 = ap (λ (xs : List ℕ). get_or xs p 0) blank ∙ get_or-replicate {A = ℕ} 256 p 64 0 l in
      record {
        later = omega arith;
        on = λ b. absurd (omega arith);
        none_between = λ k from to b e. absurd (omega arith);
      };
}

pub told_none : (processor : List ℕ) {first : List ℕ} → first ≡ replicate 256 64 → Told processor first
told_none processor blank = record { entry = λ p l. none (ap (λ (xs : List ℕ). get_or xs p 0) blank ∙ get_or-replicate {A = ℕ} 256 p 64 0 l) }

pub nexts-none : (processor : List ℕ) {next : List ℕ} → length processor ≤ length next → NextTasks processor (length processor) next
nexts-none processor room = record { room = room; each = λ v from b. absurd (omega arith); told = λ v from b. absurd (omega arith) }

-- ── One task more ──

module _ {processor : List ℕ} {v w : ℕ} (next-number : w ≡ v + 1) (below : v < length processor) (small : get_or processor v 0 < 256) where
  pub firsts_more :
      {first : List ℕ} → FirstTasks processor w first → FirstTasks processor v (set first (get_or processor v 0) v)
  firsts_more {first} later = record {
    room = length-set first (get_or processor v 0) v ∙ later.room;
    each = λ p l. go p l (decided (eqb-decides p (get_or processor v 0)));
  }
    where
      go : (p : ℕ) → p < 256 → (p ≡ get_or processor v 0) ⊎ (p ≡ get_or processor v 0 → ⊥) → FirstOn processor p v (get_or (set first (get_or processor v 0) v) p 0)
      go p l (inl own) =
          let entry : get_or (set first (get_or processor v 0) v) p 0 ≡ v
          = ap (λ (q : ℕ). get_or (set first (get_or processor v 0) v) q 0) own ∙ get_or-set_same first (get_or processor v 0) v 0 (omega (arith, later.room)) in
          subst (λ (r : ℕ). FirstOn processor p v r) (sym entry) (record {
            later = omega arith;
            on = λ b. sym own;
            none_between = λ k from to b e. absurd (omega arith);
          })
      go p l (inr other) =
          subst (λ (r : ℕ). FirstOn processor p v r) (sym (get_or-set_other first (get_or processor v 0) p v 0 other)) (record {
            later = omega (arith, (later.each p l).later);
            on = (later.each p l).on;
            none_between = λ k from to b e. past k e b to (order w k) from;
          })
        where
          past : (k : ℕ) → get_or processor k 0 ≡ p → k < length processor → k < get_or first p 0 → (w ≤ k) ⊎ (k < w) → v ≤ k → ⊥
          past k e b to (inl after) from = (later.each p l).none_between k after to b e
          past k e b to (inr before) from =
              let same : k ≡ v = omega arith in
              other (sym e ∙ ap (λ (i : ℕ). get_or processor i 0) same)

  pub told_more :
      {first : List ℕ} → length first ≡ 256 → Told processor first → Told processor (set first (get_or processor v 0) v)
  told_more {first} room told = record { entry = λ p l. go p l (decided (eqb-decides p (get_or processor v 0))) }
    where
      go : (p : ℕ) → p < 256 → (p ≡ get_or processor v 0) ⊎ (p ≡ get_or processor v 0 → ⊥) → TaskOrNone processor (get_or (set first (get_or processor v 0) v) p 0)
      go p l (inl own) =
          subst (λ (q : ℕ). TaskOrNone processor (get_or (set first (get_or processor v 0) v) q 0)) (sym own)
          (subst (TaskOrNone processor) (sym (get_or-set_same first (get_or processor v 0) v 0 (omega (arith, room)))) (task below))
      go p l (inr other) = subst (TaskOrNone processor) (sym (get_or-set_other first (get_or processor v 0) p v 0 other)) (told.entry p l)

  pub nexts-more :
      {next first : List ℕ} → FirstTasks processor w first → Told processor first → NextTasks processor w next
      → NextTasks processor v (set next v (get_or first (get_or processor v 0) 0))
  nexts-more {next} {first} firsts told later = record {
    room = subst (λ (n : ℕ). length processor ≤ n) (sym (length-set next v (get_or first (get_or processor v 0) 0))) later.room;
    each = λ u from b. go u b (order w u) from;
    told = λ u from b. say u b (order w u) from;
  }
    where
      go : (u : ℕ) → u < length processor → (w ≤ u) ⊎ (u < w) → v ≤ u
          → FirstOn processor (get_or processor u 0) (u + 1) (get_or (set next v (get_or first (get_or processor v 0) 0)) u 0)
      go u b (inl l) from =
          subst (λ (r : ℕ). FirstOn processor (get_or processor u 0) (u + 1) r)
          (sym (get_or-set_other next v u (get_or first (get_or processor v 0) 0) 0 (λ e. omega arith)))
          (later.each u l b)
      go u b (inr l) from =
          let same : v ≡ u = omega arith in
          let here : FirstOn processor (get_or processor v 0) (v + 1) (get_or first (get_or processor v 0) 0)
          = subst (λ (m : ℕ). FirstOn processor (get_or processor v 0) m (get_or first (get_or processor v 0) 0)) next-number (firsts.each (get_or processor v 0) small) in
          subst (λ (x : ℕ). FirstOn processor (get_or processor x 0) (x + 1) (get_or (set next v (get_or first (get_or processor v 0) 0)) x 0)) same
          (subst (λ (r : ℕ). FirstOn processor (get_or processor v 0) (v + 1) r)
          (sym (get_or-set_same next v (get_or first (get_or processor v 0) 0) 0 (omega (arith, later.room)))) here)

      say : (u : ℕ) → u < length processor → (w ≤ u) ⊎ (u < w) → v ≤ u
          → TaskOrNone processor (get_or (set next v (get_or first (get_or processor v 0) 0)) u 0)
      say u b (inl l) from =
          subst (TaskOrNone processor) (sym (get_or-set_other next v u (get_or first (get_or processor v 0) 0) 0 (λ e. omega arith))) (later.told u l b)
      say u b (inr l) from =
          let same : v ≡ u = omega arith in
          subst (λ (x : ℕ). TaskOrNone processor (get_or (set next v (get_or first (get_or processor v 0) 0)) x 0)) same
          (subst (TaskOrNone processor) (sym (get_or-set_same next v (get_or first (get_or processor v 0) 0) 0 (omega (arith, later.room)))) (told.entry (get_or processor v 0) small))

-- ── What is found makes an edge ──

module _ {ts : List Task} {processor : List ℕ} (of : ProcessorsOf ts processor) (v : ℕ) (below : v < length processor) where
  -- tasks on one processor
  alike : (u : ℕ) → u < length processor → get_or processor u 0 ≡ get_or processor v 0 → processor_of ts u ≡ processor_of ts v
  unfolding processor_of
  alike u b same = sym (of.same u (omega (arith, of.as_many))) ∙ (same ∙ of.same v (omega (arith, of.as_many)))

  unlike : (u : ℕ) → u < length processor → (get_or processor u 0 ≡ get_or processor v 0 → ⊥) → processor_of ts u ≢ processor_of ts v
  unfolding processor_of
  unlike u b other same = other (of.same u (omega (arith, of.as_many)) ∙ (same ∙ sym (of.same v (omega (arith, of.as_many)))))

  next-found : {w : ℕ} → FirstOn processor (get_or processor v 0) (v + 1) w → w < length processor → Next ts v w
  next-found {w} is there = record {
    later = omega (arith, is.later);
    present = omega (arith, of.as_many);
    same = alike w there (is.on there);
    none_between = λ u after before. unlike u (omega arith) (is.none_between u (omega arith) before (omega arith));
  }

  last_found : {w : ℕ} → FirstOn processor (get_or processor v 0) (v + 1) w → length processor ≤ w → Last ts v
  last_found {w} is missing = λ u after b.
      let inside : u < length processor = omega (arith, of.as_many) in
      unlike u inside (is.none_between u (omega arith) (omega arith) inside)

  first_found : {w : ℕ} → FirstOn processor (get_or processor v 0) 0 w → First ts v w
  first_found {w} is = record {
    present = omega (arith, there, of.as_many);
    same = alike w there (is.on there);
    none_before = λ u before. unlike u (omega (arith, there)) (is.none_between u (omega arith) before (omega (arith, there)));
  }
    where
      go : (w ≤ v) ⊎ (v < w) → w < length processor
      go (inl l) = omega arith
      go (inr l) = absurd (is.none_between v (omega arith) l below refl)

      there : w < length processor
      there = go (order w v)

-- ── What is found of all tasks ──

module _ {processor next first : List ℕ} (few : length processor ≤ 64) (nexts : NextTasks processor 0 next) (firsts : FirstTasks processor 0 first)
    (v : ℕ) (below : v < length processor) (small : get_or processor v 0 < 256) (ts : List Task) (of : ProcessorsOf ts processor) where
  present : v < length ts
  present = omega (arith, of.as_many)

  pub next-edge : get_or next v 0 < 64 → record { source = v; sink = get_or next v 0; delay = 0 } ≡ processor_edge ts v
  next-edge is = go (nexts.told v (omega arith) below)
    where
      go : TaskOrNone processor (get_or next v 0) → record { source = v; sink = get_or next v 0; delay = 0 } ≡ processor_edge ts v
      go (task there) = edge-is ts v present (onward present (next-found of v below (nexts.each v (omega arith) below) there) refl) refl
      go (none missing) = absurd (omega arith)

  pub first-edge : 64 ≤ get_or next v 0 → record { source = v; sink = get_or first (get_or processor v 0) 0; delay = 1 } ≡ processor_edge ts v
  first-edge missing = go (nexts.told v (omega arith) below)
    where
      go : TaskOrNone processor (get_or next v 0) → record { source = v; sink = get_or first (get_or processor v 0) 0; delay = 1 } ≡ processor_edge ts v
      go (task there) = absurd (omega arith)
      go (none is) =
          edge-is ts v present
          (around present (last_found of v below (nexts.each v (omega arith) below) (omega arith)) (first_found of v below (firsts.each (get_or processor v 0) small)) refl)
          refl
