-- `redundancy::redundant_marks` meets its contract: the last steps are taken into a square with room for 64 tasks; after i edges the words have their marks.
use mathlib.Core.Path.{◌≡◌, refl, sym, ◌∙◌, subst}
use mathlib.Core.Bool.{Bool}
use Prim.Native.Nat.{ℕ, ◌+◌, ◌<◌}
use mathlib.Core.List.{List}
use native.Mathlib.Omega.{arith}
use Rattle.delays.proofs.Steps.{fit_wide}
use Rattle.records.specs.Columns.{edges_in}
use Rattle.redundancy.specs.Redundancy.{redundant_in, Tabled}
use Rattle.redundancy.proofs.Rule.{past_end}
use Rattle.redundancy.proofs.Words.{MarkedWords, marked-none, mark-left, mark-set, all-marked}
use Rattle.redundancy.proofs.redundant_marks.Goals as goal
use Rattle.redundancy.proofs.redundant_marks.Goals.{After-take_last_steps, then-is_redundant, else-is_redundant}

-- with the last steps taken into the square
tabled : (c : After-take_last_steps) → Tabled c.args.tasks c.args.edges.now c.args.table.now c.take_last_steps.new.square
tabled c =
    let asked = c.requires in
    record {
      few = asked.tasks_bound.0;
      fit = asked.fit;
      apart = asked.apart;
      least = asked.table_value;
      steps = c.take_last_steps.ensures;
    }

pub take_last_steps-requires : goal.take_last_steps-requires
take_last_steps-requires c = record { fit = fit_wide c.requires.tasks_bound.0 c.requires.fit; square_value = refl }

pub loop-i-init : goal.loop-i-init
loop-i-init c = marked-none (redundant_in c.args.tasks (edges_in c.args.edges.now))

pub loop-i-preserved : goal.loop-i-preserved
loop-i-preserved c =
    let test : ℕ → Bool = redundant_in c.args.tasks (edges_in c.args.edges.now) in
    let few : c.loop-i.i < 256 = omega (arith, c.loop-i-test.true, c.min-count.ensures) in
    let Next : List ℕ → Type 0 = λ words. MarkedWords test (c.loop-i.i + 1) words in
    let told : c.is_redundant.result ≡ test c.loop-i.i = c.is_redundant.ensures c.loop-i.i refl in
    elim c.if-is_redundant.branch [
      | then-is_redundant w ↦ subst Next (sym w.words-is) (mark-set few c.loop-i.invariant (sym told ∙ w.if-is_redundant.true))
      | else-is_redundant w ↦ subst Next (sym w.words-is) (mark-left few c.loop-i.invariant (sym told ∙ w.if-is_redundant.false))
    ]

pub returns : goal.returns
returns c = λ x. record { words = all-marked c.loop-i.invariant (λ k l h. past_end c.args.tasks c.args.edges.now k (omega (arith, c.loop-i-test.false, c.min-count.ensures, c.saturating_sub.ensures))) x }
