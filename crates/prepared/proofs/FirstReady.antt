-- The lists that the steps of a plan start from: the graph's own least delays are those of its first stage.
use mathlib.Core.Path.{◌≡◌, refl, sym, ap, ◌∙◌, subst}
use mathlib.Core.List.{List}
use mathlib.Core.Option.{Option, none, some}
use Prim.Native.Nat.{ℕ, ◌+◌, ◌*◌, ◌<◌, min}
use native.Mathlib.Nat.{mul-one}
use native.Mathlib.Omega.{arith}
use lib.ListN.{length}
use Rattle.model.specs.Lists.{tabulate}
use Rattle.model.specs.Tasks.{Edge}
use Rattle.model.specs.Graph.{Graph, count, edges}
use Rattle.model.specs.Proposals.{AcceptedGraph}
use Rattle.model.specs.Plan.{present_edges, counting, first_stage}
use Rattle.model.proofs.Updates.{first-counting}
use Rattle.records.specs.Columns.{at}
use Rattle.records.proofs.Fill.{length-tabulate, get_d_tabulate}
use Rattle.records.proofs.Rows.{rows_at}
use Rattle.delays.specs.Delays.{entry}
use Rattle.subsumption.specs.Subsumption.{CountsOf}
use Rattle.updates.specs.Updates.{Spread}
use Rattle.candidates.specs.Candidates.{count_table}
use Rattle.prepared.specs.Ready.{cut, Ready}

-- ── Numbers ──

-- an entry of the table, cut
entry-cut : (x : Option ℕ) → min (entry x) 16383 ≡ cut x
unfolding entry cut
entry-cut (some d) = refl
entry-cut none = omega arith

module _ (n : ℕ) (es : List Edge) where
  row-length : (a : ℕ) → length (tabulate n (λ b. entry (counting n es a b))) ≡ n
  row-length a = length-tabulate n (λ b. entry (counting n es a b))

  counts-at : (a b : ℕ) → a < n → b < n → at (count_table n es) (a * n + b) ≡ entry (counting n es a b)
  unfolding count_table at
  counts-at a b la lb =
      rows_at n (λ c. tabulate n (λ d. entry (counting n es c d))) row-length n a b la lb ∙ get_d_tabulate n (λ d. entry (counting n es a d)) 0 b lb

module _ {tasks : ℕ} {g : Graph} (accepted : AcceptedGraph g) (same : tasks ≡ count g) where
  -- ── Delays and counts of the first stage ──

  module _ {table : List ℕ} (is : table ≡ count_table tasks (edges g)) where
    -- an entry of the graph's table
    entry-is : (x y : ℕ) → x < count g → y < count g → at table (x * tasks + y) ≡ entry (counting (count g) (edges g) x y)
    entry-is x y lx ly =
        (λ i. at (is i) (x * tasks + y)) ∙
        ((λ i. at (count_table (same i) (edges g)) (x * same i + y)) ∙ counts-at (count g) (edges g) x y lx ly)

    cut-is : (x y : ℕ) → x < count g → y < count g → (p : ℕ) → p ≡ x * tasks + y →
        min (at table p) 16383 ≡ cut (counting (count g) (present_edges g (first_stage g)) x y)
    cut-is x y lx ly p place =
        ap (λ (q : ℕ). min (at table q) 16383) place ∙
        (ap (λ (v : ℕ). min v 16383) (entry-is x y lx ly) ∙
        (entry-cut (counting (count g) (edges g) x y) ∙ ap cut (sym (first-counting g accepted x y))))

    pub first-ready :
        {from to counts : List ℕ} → Spread table tasks 1 tasks from → Spread table 1 tasks tasks to →
        CountsOf tasks from to (first_stage g) counts → Ready g (first_stage g) from to counts
    first-ready {from} {to} {counts} by-source by-sink many = record {
      from_size = omega (arith, by-source.size, same);
      to_size = omega (arith, by-sink.size, same);
      from_small = by-source.small;
      to_small = by-sink.small;
      from_is = λ x y lx ly.
          by-source.inside x y (below lx) (below ly) ∙ cut-is x y lx ly (x * tasks + y * 1) (ap (λ (k : ℕ). x * tasks + k) (mul-one y));
      to_is = λ x y lx ly. by-sink.inside y x (below ly) (below lx) ∙ cut-is x y lx ly (y * 1 + x * tasks) (omega (arith, mul-one y));
      counts_are = subst (λ (n : ℕ). CountsOf n from to (first_stage g) counts) same many;
    }
      where
        below : {v : ℕ} → v < count g → v < tasks
        below l = omega (arith, same, l)
