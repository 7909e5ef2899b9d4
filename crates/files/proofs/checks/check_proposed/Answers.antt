-- `files::checks::check_proposed` meets its contract: a check that fails ends the chain, one that passes is left out of it.
use mathlib.Core.Path.{◌≡◌, refl, sym, ap, ◌∙◌}
use Prim.Native.Nat.{ℕ}
use lib.ListN.{length}
use Rattle.std.proofs.lemmas.List.{length-map}
use Rattle.model.specs.Lists.{tabulate}
use Rattle.records.specs.Columns.{edge_of, edges_in}
use Rattle.files.specs.Files.{first_of, proposed_edges_refusal, ends_refusal, repeat_refusal}
use Rattle.files.proofs.First.{fault_ends, goes_on, last-answer}
use Rattle.files.proofs.checks.check_proposed.Goals as goal

pub returns-in_err-check_ends : goal.returns-in_err-check_ends
unfolding proposed_edges_refusal
returns-in_err-check_ends c =
    let rs = c.args.edges.now in
    fault_ends _ _ _ c.from_residual.ensures.1
    (c.in_err-check_ends.ensures ∙ ap (λ (n : ℕ). first_of n (ends_refusal c.args.tasks (edges_in rs))) (sym (length-map rs edge_of)))

pub returns : goal.returns
unfolding proposed_edges_refusal first_of
returns c =
    let rs = c.args.edges.now in
    let es = edges_in rs in
    let as_many : length rs ≡ length es = sym (length-map rs edge_of) in
    sym
    (goes_on _ (c.in_ok-check_ends.ensures ∙ ap (λ (n : ℕ). first_of n (ends_refusal c.args.tasks es)) as_many) refl ∙
    (last-answer (tabulate (length es) (repeat_refusal es)) ∙
    sym (c.check_repeats.ensures ∙ ap (λ (n : ℕ). first_of n (repeat_refusal es)) as_many)))
