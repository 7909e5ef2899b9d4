-- A finished row kept in the square: its entries are least delays, so no edge betters one, and the other rows are as they were.
use mathlib.Core.Path.{◌≡◌, refl, sym, ap, ◌∙◌, subst}
use mathlib.Core.Logic.{◌⊎◌, inl, inr}
use mathlib.Core.Bool.{Bool, true, false, ◌||◌, true≢false}
use mathlib.Core.List.{List}
use mathlib.Core.Option.{Option}
use Prim.Native.Nat.{ℕ, ◌+◌, ◌*◌, ◌≤◌, ◌<◌, min}
use native.Mathlib.Omega.{arith}
use lib.Dec.{eqb}
use lib.ListN.{get_or}
use borrow.Author.Tests.{eqb-true}
use Rattle.model.specs.Tasks.{Edge, ◌∈◌}
use Rattle.model.specs.Paths.{Least, smallest, no-path}
use Rattle.model.proofs.Basics.{order}
use Rattle.model.proofs.Tests.{decided, eqb-decides}
use Rattle.model.proofs.Theorems.{least-delay-is}
use Rattle.model.proofs.Walks.{path-edge, path-append, path-ends, path-delay}
use Rattle.reach.specs.Reach.{bit}
use Rattle.delays.specs.Delays.{entry, delay_row}
use Rattle.delays.specs.Rows.{row_at, PathDelay, LeastEntry, Known}
use Rattle.delays.proofs.Table.{row-at}
use Rattle.delays.proofs.Parts.{PartDone}
use Rattle.delays.proofs.Rows.{held-is, none-less}

-- an entry of a finished row or table cut at 16,383 is the least delay, or 16,383 where no path is shorter
pub cut-least : {es : List Edge} {a b x : ℕ} {o : Option ℕ} → Least es a b o → x ≡ entry o → LeastEntry es a b (min x 16383)
unfolding entry
cut-least (smallest {d = d} path least) is = record {
  held = record { small = omega arith; path = λ l. path-delay (omega arith) path };
  least = λ k other. let low = least k other in omega arith;
}
cut-least (no-path absent) is = record {
  held = record { small = omega arith; path = λ l. absurd (omega arith) };
  least = λ k other. absurd (absent k other);
}

module _
    {n a done : ℕ} (word : ℕ) {es : List Edge} {row known after : List ℕ} (inner : a < n) (square : Known n es done known) (is : row ≡ delay_row n es a)
    (kept : PartDone (a * 64) n (λ b. min (get_or row b 0) 16383) known after) (marked : (b : ℕ) → bit word b ≡ bit done b || eqb a b)
  where
    few : n ≤ 64
    few = square.few

    mine : (b : ℕ) → b < n → LeastEntry es a b (row_at after a b)
    mine b l =
        subst (λ (x : ℕ). LeastEntry es a b x) (sym (kept.done b l))
        (cut-least (least-delay-is n es square.fit.ends a b) (ap (λ (xs : List ℕ). get_or xs b 0) is ∙ row-at n es a b l))

    other : (u b : ℕ) → (u ≡ a → ⊥) → b < 64 → row_at after u b ≡ row_at known u b
    other u b apart l = kept.rest (u * 64 + b) (go (order u a) (order a u))
      where
        go : (u ≤ a) ⊎ (a < u) → (a ≤ u) ⊎ (u < a) → (u * 64 + b < a * 64) ⊎ (a * 64 + n ≤ u * 64 + b)
        go (inr above) q = inr (omega (arith, few))
        go (inl p) (inr below) = inl (omega arith)
        go (inl p) (inl q) = absurd (apart (omega arith))

    held : (u b : ℕ) → u < 64 → b < 64 → (u ≡ a) ⊎ (u ≡ a → ⊥) → (n ≤ b) ⊎ (b < n) → PathDelay es u b (row_at after u b)
    held u b k l (inl same) (inr within) = subst (λ (x : ℕ). PathDelay es x b (row_at after x b)) (sym same) (mine b within).held
    held u b k l (inl same) (inl past) = held-is (kept.rest (u * 64 + b) (inr (omega arith))) (square.held u b k l)
    held u b k l (inr apart) q = held-is (other u b apart l) (square.held u b k l)

    module _ (e : Edge) (m : e ∈ es) where
      from : e.source < n
      from = (square.fit.ends e m).0

      to : e.sink < n
      to = (square.fit.ends e m).1

      direct : (e.source ≡ a) ⊎ (e.source ≡ a → ⊥) → row_at after e.source e.sink ≤ e.delay
      direct (inl same) =
          subst (λ (x : ℕ). row_at after x e.sink ≤ e.delay) (sym same) ((mine e.sink to).least e.delay (path-ends same refl (path-edge m)))
      direct (inr apart) = omega (arith, other e.source e.sink apart (omega (arith, to, few)), square.direct e m)

      own : (16383 ≤ row_at after a e.source) ⊎ (row_at after a e.source < 16383) → row_at after a e.sink ≤ row_at after a e.source + e.delay
      own (inl far) = omega (arith, (mine e.sink to).held.small)
      own (inr near) =
          (mine e.sink to).least (row_at after a e.source + e.delay) (path-append ((mine e.source from).held.path near) (path-edge m))

      closed : (u : ℕ) → u < n → bit word u ≡ true → (u ≡ a) ⊎ (u ≡ a → ⊥) → row_at after u e.sink ≤ row_at after u e.source + e.delay
      closed u l on (inl same) =
          subst (λ (x : ℕ). row_at after x e.sink ≤ row_at after x e.source + e.delay) (sym same) (own (order 16383 (row_at after a e.source)))
      closed u l on (inr apart) =
          omega (
            arith,
            other u e.sink apart (omega (arith, to, few)),
            other u e.source apart (omega (arith, from, few)),
            square.closed u l (before (bit done u) (eqb a u) refl (sym (marked u) ∙ on)) e m,
          )
        where
          before : (x y : Bool) → eqb a u ≡ y → x || y ≡ true → x ≡ true
          before true y q h = refl
          before false true q h = absurd (apart (sym (eqb-true a u q)))
          before false false q h = absurd (true≢false (sym h))

    pub known_more : Known n es word after
    known_more = record {
      few = few;
      fit = square.fit;
      size = kept.size ∙ square.size;
      held = λ u b k l. held u b k l (decided (eqb-decides u a)) (order n b);
      direct = λ e m. direct e m (decided (eqb-decides e.source a));
      closed = λ u l on e m. closed e m u l on (decided (eqb-decides u a));
    }

-- the entries of a row that is finished are least
pub finished-least :
    {n done : ℕ} {es : List Edge} {known : List ℕ} → Known n es done known → (u b : ℕ) → u < n → b < 64 → bit done u ≡ true → LeastEntry es u b (row_at known u b)
finished-least {es = es} {known} square u b l k on = record {
  held = square.held u b (omega (arith, square.few)) k;
  least = λ d path.
      none-less (λ x. row_at known u x) (λ e m own. subst (λ (x : ℕ). row_at known x e.sink ≤ e.delay) own (square.direct e m)) (square.closed u l on) path;
}
