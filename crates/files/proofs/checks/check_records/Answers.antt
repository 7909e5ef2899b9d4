-- `files::checks::check_records` meets its contract: a check that fails ends the chain, one that passes is left out of it.
use mathlib.Core.Path.{◌≡◌, refl, sym, ap, ◌∙◌}
use mathlib.Core.List.{List}
use Prim.Native.Nat.{ℕ}
use lib.ListN.{length}
use Rattle.std.proofs.lemmas.List.{length-map}
use Rattle.layout.specs.declared.EdgeRecord.{EdgeRecord}
use Rattle.model.specs.Lists.{tabulate}
use Rattle.model.specs.Tasks.{Edge}
use Rattle.records.specs.Columns.{edge_of, edges_in}
use Rattle.files.specs.declared.Refusal.{Refusal}
use Rattle.files.specs.Files.{first_of, graph_records_refusal, edge_refusal, repeat_refusal}
use Rattle.files.proofs.First.{fault_ends, goes_on, last-answer}
use Rattle.files.proofs.checks.check_records.Goals as goal

-- what is refused of the records is refused of the edges
of-edges :
    (f : List Edge → ℕ → Refusal) {es : List Edge} (rs : List EdgeRecord) → es ≡ edges_in rs
    → first_of (length rs) (f (edges_in rs)) ≡ first_of (length es) (f es)
of-edges f rs same =
    ap (λ (n : ℕ). first_of n (f (edges_in rs))) (sym (length-map rs edge_of)) ∙ sym (ap (λ (es : List Edge). first_of (length es) (f es)) same)

pub returns-in_err-check_times : goal.returns-in_err-check_times
unfolding graph_records_refusal
returns-in_err-check_times c = λ g on of are. fault_ends _ _ _ c.from_residual.ensures.1 (c.in_err-check_times.ensures g of)

pub returns-in_err-check_edges : goal.returns-in_err-check_edges
unfolding graph_records_refusal
returns-in_err-check_edges c = λ g on of are.
    fault_ends _ _ _ c.from_residual-in_err-check_edges.ensures.1
    (c.in_err-check_edges.ensures g.tasks on ∙ of-edges (edge_refusal g.tasks) c.args.edges.now are) ∙
    sym (goes_on _ (c.in_ok-check_times.ensures g of) refl)

pub returns : goal.returns
unfolding graph_records_refusal first_of
returns c = λ g on of are.
    let rs = c.args.edges.now in
    sym
    (goes_on _ (c.in_ok-check_times.ensures g of) refl ∙
    (goes_on _ (c.in_ok-check_edges.ensures g.tasks on ∙ of-edges (edge_refusal g.tasks) rs are) refl ∙
    (last-answer (tabulate (length g.syncs) (repeat_refusal g.syncs)) ∙ sym (c.check_repeats.ensures ∙ of-edges repeat_refusal rs are))))
