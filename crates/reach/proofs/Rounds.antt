-- The words hold what the model's recursion over inner tasks computes: where one edge leads, then one round for each inner task. A least delay is there
-- where either of two is, or where both of a sum are.
use mathlib.Core.Path.{◌≡◌, refl, sym, ap, ap₂, ◌∙◌}
use mathlib.Core.Logic.{◌⊎◌, inl, inr}
use mathlib.Core.Bool.{Bool, true, false, not, ◌||◌, ◌&&◌}
use mathlib.Core.List.{List, [], ◌∷◌, ◌++◌}
use mathlib.Core.Option.{Option, none, some}
use Prim.Native.Nat.{ℕ, suc, ◌+◌, ◌≤◌, ◌<◌}
use native.Mathlib.Numerals.{add-one}
use native.Mathlib.Nat.{not-suc-le-zero}
use native.Mathlib.Omega.{arith}
use lib.Dec.{T, T_not, eqb, eqb→eq}
use lib.ListN.{length, get_or, set, take, drop, replicate, length-append, length-drop, length-set, length-replicate, get_or-append, get_or-replicate}
use Rattle.std.proofs.lemmas.List.{get_or-take}
use lib.Seq.{get_or-set_same, get_or-set_other}
use Rattle.model.specs.Lists.{put, keep}
use Rattle.model.specs.Tasks.{Edge}
use Rattle.model.specs.Compute.{lesser, plus, shortest, joins, through, least_delay, present}
use Rattle.model.proofs.Basics.{cases, is_true, is_false, eq→eqb, below_suc}
use Rattle.reach.specs.Reach.{bit, bit_in, Reaches, ReachesThrough, Merged}
use Rattle.reach.proofs.Bits.{or-false, bit-zero}

-- ── Whether there is a delay ──

present-lesser : (x y : Option ℕ) → present (lesser x y) ≡ present x || present y
unfolding present lesser
present-lesser (some a) (some b) = refl
present-lesser (some a) none = refl
present-lesser none y = refl

present-plus : (x y : Option ℕ) → present (plus x y) ≡ present x && present y
unfolding present plus
present-plus (some a) (some b) = refl
present-plus (some a) none = refl
present-plus none y = refl

-- of one edge more
present-more : (t : Edge → Bool) (es : List Edge) (e : Edge) → present (shortest (keep t (es ++ (e ∷ [])))) ≡ present (shortest (keep t es)) || t e
unfolding keep put shortest lesser present
present-more t [] e = go (t e)
  where
    go : (b : Bool) → present (shortest (put b e [])) ≡ b
    go true = refl
    go false = refl
present-more t (x ∷ es) e = go (t x) (present-more t es e)
  where
    go : (b : Bool) → present (shortest (keep t (es ++ (e ∷ [])))) ≡ present (shortest (keep t es)) || t e
        → present (shortest (put b x (keep t (es ++ (e ∷ []))))) ≡ present (shortest (put b x (keep t es))) || t e
    go true rest =
        present-lesser (some x.delay) (shortest (keep t (es ++ (e ∷ [])))) ∙
        sym (ap (λ (b : Bool). b || t e) (present-lesser (some x.delay) (shortest (keep t es))))
    go false rest = rest

-- ── One edge after the other ──

-- the words after these edges
pub record EdgesTaken (es : List Edge) (words : List ℕ) : Type 0 where
  pub room : length words ≡ 16
  pub edges : (a b : ℕ) → a < 16 → bit_in words a b ≡ present (shortest (keep (joins a b) es))

pub taken_none : (words : List ℕ) → words ≡ replicate 16 0 → EdgesTaken [] words
unfolding keep shortest present
taken_none words blank = record {
  room = ap length blank ∙ length-replicate {A = ℕ} 16 0;
  edges = λ a b l.
      ap (λ (xs : List ℕ). bit_in xs a b) blank ∙ (ap (λ (word : ℕ). bit word b) (get_or-replicate {A = ℕ} 16 a 0 0 l) ∙ bit-zero b);
}

-- an edge stored at its source's word
edge-stored :
    (words : List ℕ) (from to word a b : ℕ) → from < length words → bit word b ≡ bit_in words from b || eqb to b
    → bit_in (set words from word) a b ≡ bit_in words a b || (eqb from a && eqb to b)
edge-stored words from to word a b inside stored = go (cases (eqb from a))
  where
    go : T (eqb from a) ⊎ T (not (eqb from a)) → bit_in (set words from word) a b ≡ bit_in words a b || (eqb from a && eqb to b)
    go (inl t) =
        let same : from ≡ a = eqb→eq from a t in
        ap (λ (v : ℕ). bit_in (set words from word) v b) (sym same) ∙
        (ap (λ (x : ℕ). bit x b) (get_or-set_same words from word 0 inside) ∙
        (stored ∙
        ap₂ (λ (v : ℕ) (x : Bool). bit_in words v b || (x && eqb to b)) same (sym (is_true (eqb from a) t))))
    go (inr n) =
        ap (λ (x : ℕ). bit x b) (get_or-set_other words from a word 0 (λ q. T_not (eqb from a) n (eq→eqb (sym q)))) ∙
        sym (ap (λ (x : Bool). bit_in words a b || (x && eqb to b)) (is_false (eqb from a) n) ∙ or-false (bit_in words a b))

pub taken_more :
    (es : List Edge) (e : Edge) (word : ℕ) {words : List ℕ} → EdgesTaken es words → e.source < 16
    → ((b : ℕ) → bit word b ≡ bit_in words e.source b || eqb e.sink b) → EdgesTaken (es ++ (e ∷ [])) (set words e.source word)
unfolding joins
taken_more es e word {words} done inside stored = record {
  room = length-set words e.source word ∙ done.room;
  edges = λ a b l.
      let room : length words ≡ 16 = done.room in
      let t = joins a b in
      edge-stored words e.source e.sink word a b (omega arith) (stored b) ∙
      (ap (λ (x : Bool). x || (eqb e.source a && eqb e.sink b)) (done.edges a b l) ∙ sym (present-more t es e));
}

pub taken-all : {n : ℕ} {es : List Edge} {words : List ℕ} → EdgesTaken es words → n ≤ 16 → ReachesThrough 0 n es words
unfolding through
taken-all done few = record { room = done.room; paths = λ a b l m. done.edges a b (omega arith) }

-- ── One inner task after the other ──

-- the first i words merged with a row, the others as before
pub record PartMerged (i k row : ℕ) (before after : List ℕ) : Type 0 where
  pub done : (a b : ℕ) → a < i → bit_in after a b ≡ bit_in before a b || (bit_in before a k && bit row b)
  pub rest : (a : ℕ) → i ≤ a → get_or after a 0 ≡ get_or before a 0

pub merged-none : (k row : ℕ) (words : List ℕ) → PartMerged 0 k row words words
merged-none k row words = record { done = λ a b l. absurd (not-suc-le-zero l); rest = λ a l. refl }

pub merged-more :
    {i k row : ℕ} {before words : List ℕ} (word : ℕ) → PartMerged i k row before words → i < length words
    → ((b : ℕ) → bit word b ≡ bit_in words i b || (bit_in words i k && bit row b)) → PartMerged (i + 1) k row before (set words i word)
merged-more {i} {k} {row} {before} {words} word part inside stored = record {
  done = λ a b l. let below : a < suc i = omega arith in done a b (below_suc below);
  rest = λ a l. get_or-set_other words i a word 0 (λ q. omega arith) ∙ part.rest a (omega arith);
}
  where
    done : (a b : ℕ) → (a < i) ⊎ (a ≡ i) → bit_in (set words i word) a b ≡ bit_in before a b || (bit_in before a k && bit row b)
    done a b (inl l) = ap (λ (x : ℕ). bit x b) (get_or-set_other words i a word 0 (λ q. omega arith)) ∙ part.done a b l
    done a b (inr q) =
        let old : get_or words i 0 ≡ get_or before i 0 = part.rest i (omega arith) in
        ap (λ (v : ℕ). bit_in (set words i word) v b) q ∙
        (ap (λ (x : ℕ). bit x b) (get_or-set_same words i word 0 inside) ∙
        (stored b ∙
        (ap (λ (x : ℕ). bit x b || (bit x k && bit row b)) old ∙
        ap (λ (v : ℕ). bit_in before v b || (bit_in before v k && bit row b)) (sym q))))

-- the first n words merged, the rest left
pub merged-all :
    {n k : ℕ} {words items : List ℕ} → PartMerged n k (get_or words k 0) (take n words) items → length items ≡ n → n ≤ 16 → length words ≡ 16
    → Merged n k words (items ++ drop n words)
merged-all {n} {k} {words} {items} part whole few room = record {
  room = omega (arith, length-append items (drop n words), length-drop n words);
  bits = λ a b l.
      let row = get_or words k 0 in
      let inside : a < length items = omega arith in
      ap (λ (x : ℕ). bit x b) (get_or-append items (drop n words) 0 a inside) ∙
      (part.done a b l ∙ ap (λ (x : ℕ). bit x b || (bit x k && bit row b)) (get_or-take n words a 0 l));
}

-- a round is a step of the recursion
pub through-more :
    {k n : ℕ} {es : List Edge} {before after : List ℕ} → ReachesThrough k n es before → Merged n k before after → k < n → ReachesThrough (k + 1) n es after
unfolding through
through-more {k} {n} {es} {before} {after} held merged inner = record {
  room = merged.room;
  paths = λ a b l m.
      merged.bits a b l ∙
      (ap₂ (λ (x y : Bool). x || y) (held.paths a b l m)
      (ap₂ (λ (x y : Bool). x && y) (held.paths a k l inner) (held.paths k b inner m) ∙ sym (present-plus (through es k a k) (through es k k b))) ∙
      (sym (present-lesser (through es k a b) (plus (through es k a k) (through es k k b))) ∙
      ap (λ (i : ℕ). present (through es i a b)) (sym (add-one k))));
}

-- of fewer processors
pub through-fewer : {k m n : ℕ} {es : List Edge} {words : List ℕ} → m ≤ n → ReachesThrough k n es words → ReachesThrough k m es words
through-fewer few held = record { room = held.room; paths = λ a b l m. held.paths a b (omega arith) (omega arith) }

pub through-all : {k n : ℕ} {es : List Edge} {words : List ℕ} → ReachesThrough k n es words → k ≡ n → Reaches n es words
unfolding least_delay
through-all {k} {n} {es} held whole = record {
  room = held.room;
  paths = λ a b l m. held.paths a b l m ∙ ap (λ (i : ℕ). present (through es i a b)) whole;
}
