-- least_delay is the least delay over paths. Sound: each value is a path's delay. Complete: a path whose inner tasks are below k + 1 is
-- cut at its visits of task k into two paths whose inner tasks are below k. Delays are whole numbers from 0, so what lies between the
-- first and the last visit can be left out.
use mathlib.Core.Path.{◌≡◌, refl, sym, ap, ◌∙◌, subst}
use mathlib.Core.Logic.{◌⊎◌, inl, inr}
use mathlib.Core.List.Memᴰ.{head as here}
use mathlib.Core.List.Memᴰ.{tail as there}
use mathlib.Core.List.{List, [], ◌∷◌}
use mathlib.Core.Option.{Option, none, some}
use Prim.Native.Nat.{ℕ, zero, suc, ◌+◌, ◌≤◌, ◌<◌, min}
use native.Mathlib.Nat.{le_refl, le_trans, le_antisymm, add-zero, min-eq_left, min-eq_right, min-le_left, min-le_right, not-suc-le-zero, add-le-add}
use native.Mathlib.Omega.{arith}
use lib.Dec.{eqb, eqb→eq}
use Rattle.model.specs.Lists.{keep}
use Rattle.model.specs.Tasks.{Edge, ◌∈◌, Ends}
use Rattle.model.specs.Paths.{total, Walk, stop, step, Path, Least, smallest, no-path}
use Rattle.model.specs.Compute.{lesser, plus, shortest, joins, through, least_delay}
use Rattle.model.specs.Theorems.{Within, within, LeastDelayIs, RowLeast}
use Rattle.model.proofs.Basics.{keep-in, keep_out, and_left, and_right, and_both, eq→eqb, below_suc, order}
use Rattle.model.proofs.Walks.{path-edge, path-append, path-ends, path-delay}

-- if o is a number, it is the delay of a path
data Sound (es : List Edge) (a b : ℕ) : Option ℕ → Type 0 where
  sound : {d : ℕ} → Path es a b d → Sound es a b (some d)
  nothing : Sound es a b none

-- ── Sound ──

module _ {es : List Edge} where
  lesser-sound : {a b : ℕ} {x y : Option ℕ} → Sound es a b x → Sound es a b y → Sound es a b (lesser x y)
  unfolding lesser
  lesser-sound {a} {b} (sound {d = x} p) (sound {d = y} q) = go (order x y)
    where
      go : (x ≤ y) ⊎ (y < x) → Sound es a b (some (min x y))
      go (inl h) = sound (path-delay (sym (min-eq_left h)) p)
      go (inr h) = let h' : y ≤ x = omega arith in sound (path-delay (sym (min-eq_right h')) q)
  lesser-sound (sound p) nothing = sound p
  lesser-sound nothing q = q

  plus-sound : {a b c : ℕ} {x y : Option ℕ} → Sound es a b x → Sound es b c y → Sound es a c (plus x y)
  unfolding plus
  plus-sound (sound p) (sound q) = sound (path-append p q)
  plus-sound (sound p) nothing = nothing
  plus-sound nothing q = nothing

  shortest-sound : {a b : ℕ} (xs : List Edge) → ((e : Edge) → e ∈ xs → Path es a b e.delay) → Sound es a b (shortest xs)
  unfolding shortest
  shortest-sound [] h = nothing
  shortest-sound (e ∷ xs) h = lesser-sound (sound (h e (here refl))) (shortest-sound xs (λ f m. h f (there m)))

through-sound : (es : List Edge) (k a b : ℕ) → Sound es a b (through es k a b)
unfolding through
through-sound es zero a b = shortest-sound (keep (joins a b) es) direct
  where
    direct : (e : Edge) → e ∈ keep (joins a b) es → Path es a b e.delay
    direct e m =
        let r = keep_out (joins a b) es m in
        let s = eqb→eq e.source a (and_left (eqb e.source a) (eqb e.sink b) r.1) in
        let t = eqb→eq e.sink b (and_right (eqb e.source a) (eqb e.sink b) r.1) in
        path-ends s t (path-edge r.0)
through-sound es (suc k) a b = lesser-sound (through-sound es k a b) (plus-sound (through-sound es k a k) (through-sound es k k b))

-- ── Complete ──

pub within-mono : {o : Option ℕ} {d d' : ℕ} → Within o d → d ≤ d' → Within o d'
within-mono (within h) l = within (le_trans h l)

pub within-left : {x : Option ℕ} (y : Option ℕ) {d : ℕ} → Within x d → Within (lesser x y) d
unfolding lesser
within-left (some y) (within {x = x} h) = within (le_trans (min-le_left x y) h)
within-left none (within h) = within h

pub within-right : (x : Option ℕ) {y : Option ℕ} {d : ℕ} → Within y d → Within (lesser x y) d
unfolding lesser
within-right (some x) (within {x = y} h) = within (le_trans (min-le_right x y) h)
within-right none (within h) = within h

pub within-plus : {x y : Option ℕ} {d d' : ℕ} → Within x d → Within y d' → Within (plus x y) (d + d')
unfolding plus
within-plus (within h) (within k) = within (add-le-add h k)

within-shortest : {e : Edge} {xs : List Edge} → e ∈ xs → Within (shortest xs) e.delay
unfolding shortest
within-shortest (here {x = x} {xs = xs} q) = within-left (shortest xs) (within (subst (λ (y : Edge). x.delay ≤ y.delay) (sym q) (le_refl x.delay)))
within-shortest (there {x = x} {xs = xs} m) = within-right (some x.delay) (within-shortest m)

-- a path of delay d whose inner tasks are below k
data Via (es : List Edge) (k : ℕ) : ℕ → ℕ → ℕ → Type 0 where
  one : {a b d : ℕ} {e : Edge} → e ∈ es → e.source ≡ a → e.sink ≡ b → e.delay ≡ d → Via es k a b d
  more : {a b d d' : ℕ} {e : Edge} → e ∈ es → e.source ≡ a → e.sink < k → Via es k e.sink b d' → e.delay + d' ≡ d → Via es k a b d

-- a path that is cut at task k into two, of together no larger delay
abbrev Cut : List Edge → ℕ → ℕ → ℕ → ℕ → Type 0
Cut es k a b d = (d₁ : ℕ) × (d₂ : ℕ) × Via es k a k d₁ × Via es k k b d₂ × (d₁ + d₂ ≤ d)

module _ {es : List Edge} where
  cut : {k a b d : ℕ} → Via es (suc k) a b d → Via es k a b d ⊎ Cut es k a b d
  cut (one m s t q) = inl (one m s t q)
  cut {k} {a} {b} {d} (more {d' = d'} {e = e} m s l v q) = go (below_suc l) (cut v)
    where
      at-k : e.sink ≡ k → {x : ℕ} → Via es k e.sink b x → Via es k k b x
      at-k h {x} w = subst (λ (y : ℕ). Via es k y b x) h w

      go : (e.sink < k) ⊎ (e.sink ≡ k) → Via es k e.sink b d' ⊎ Cut es k e.sink b d' → Via es k a b d ⊎ Cut es k a b d
      go (inl h) (inl w) = inl (more m s h w q)
      go (inl h) (inr c) = let r = c.4 in inr (e.delay + c.0, c.1, more m s h c.2 refl, c.3, omega arith)
      go (inr h) (inl w) = inr (e.delay, d', one m s h refl, at-k h w, omega arith)
      go (inr h) (inr c) = let r = c.4 in inr (e.delay, c.1, one m s h refl, c.3, omega arith)

  through-complete : (k : ℕ) {a b d : ℕ} → Via es k a b d → Within (through es k a b) d
  unfolding through
  through-complete zero {a} {b} (one {e = e} m s t q) =
      let j = and_both (eqb e.source a) (eqb e.sink b) (eq→eqb s) (eq→eqb t) in
      subst (λ (x : ℕ). Within (shortest (keep (joins a b) es)) x) q (within-shortest (keep-in (joins a b) m j))
  through-complete zero (more m s l v q) = absurd (not-suc-le-zero l)
  through-complete (suc k) {a} {b} {d} v = go (λ x y z w. through-complete k w) (cut v)
    where
      go : ((x y z : ℕ) → Via es k x y z → Within (through es k x y) z) → Via es k a b d ⊎ Cut es k a b d →
          Within (lesser (through es k a b) (plus (through es k a k) (through es k k b))) d
      go ih (inl w) = within-left (plus (through es k a k) (through es k k b)) (ih a b d w)
      go ih (inr c) = within-right (through es k a b) (within-mono (within-plus (ih a k c.0 c.2) (ih k b c.1 c.3)) c.4)

  walk-via : {n : ℕ} → Ends n es → {a b : ℕ} {e : Edge} {p : List Edge} → e ∈ es → e.source ≡ a → Walk es e.sink p b → Via es n a b (e.delay + total p)
  unfolding total
  walk-via ends {e = e} m s (stop q) = one m s q (sym (add-zero e.delay))
  walk-via ends {e = e} m s (step {e = f} {p = p} k t w) = more m s (ends e m).1 (walk-via ends k t w) refl

  path-via : {n : ℕ} → Ends n es → {a b d : ℕ} → Path es a b d → Via es n a b d
  unfolding total
  path-via {n} ends {a} {b} r = subst (λ (x : ℕ). Via es n a b x) r.sum (go r.walk)
    where
      go : {e : Edge} {p : List Edge} → Walk es a (e ∷ p) b → Via es n a b (total (e ∷ p))
      go (step m s w) = walk-via ends m s w

-- ── The theorem, and what gives equations ──

pub below-within : {x d : ℕ} → Within (some x) d → x ≤ d
below-within (within h) = h

pub within-number : {o : Option ℕ} {d : ℕ} → Within o d → (x : ℕ) × (o ≡ some x) × (x ≤ d)
within-number (within {x = x} h) = (x, refl, h)

pub none_within : {d : ℕ} → Within none d → ⊥
none_within h = elim h [ ]

pub least-delay : LeastDelayIs
unfolding least_delay
least-delay n es ends a b = go (through-sound es n a b) (λ d r. through-complete n (path-via ends r))
  where
    go : {o : Option ℕ} → Sound es a b o → ((d : ℕ) → Path es a b d → Within o d) → Least es a b o
    go (sound p) c = smallest p (λ d r. below-within (c d r))
    go nothing c = no-path (λ d r. none_within (c d r))

-- a pair of tasks has one least delay only
pub least-unique : {es : List Edge} {a b : ℕ} {x y : Option ℕ} → Least es a b x → Least es a b y → x ≡ y
least-unique (smallest {d = d} p h) (smallest {d = d'} q k) = ap {B = Option ℕ} some (le_antisymm (h d' q) (k d p))
least-unique (smallest {d = d} p h) (no-path k) = absurd (k d p)
least-unique (no-path h) (smallest {d = d} p k) = absurd (h d p)
least-unique (no-path h) (no-path k) = refl

-- A row of path delays from a that no edge betters is least: neither an edge out of a, nor one out of a task that has an entry.
pub row_least : RowLeast
unfolding total
row_least es a row paths out onward b = go (row b) refl
  where
    reach : {c : ℕ} {p : List Edge} → Walk es c p b → (x d : ℕ) → row c ≡ some x → x ≤ d → Within (row b) (d + total p)
    reach (stop q) x d r l = subst (λ (o : Option ℕ). Within o (d + 0)) (sym r ∙ ap row q) (within (omega arith))
    reach (step {e = e} {p = p} m s w) x d r l =
        let h = within-number (onward e x m (ap row s ∙ r)) in
        let k = h.2 in
        within-mono (reach w h.0 (x + e.delay) h.1 k) (omega arith)

    all : (d : ℕ) → Path es a b d → Within (row b) d
    all d r = subst (λ (x : ℕ). Within (row b) x) r.sum (from r.walk)
      where
        from : {e : Edge} {p : List Edge} → Walk es a (e ∷ p) b → Within (row b) (e.delay + total p)
        from (step {e = e} m s w) = let h = within-number (out e m s) in reach w h.0 e.delay h.1 h.2

    go : (o : Option ℕ) → row b ≡ o → Least es a b o
    go (some d) q = smallest (paths b d q) (λ d' r. below-within (subst (λ (o : Option ℕ). Within o d') q (all d' r)))
    go none q = no-path (λ d r. none_within (subst (λ (o : Option ℕ). Within o d) q (all d r)))
