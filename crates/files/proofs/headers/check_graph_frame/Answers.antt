-- `files::headers::check_graph_frame` meets its contract: a check that fails ends the chain, one that passes is left out of it.
use mathlib.Core.Path.{refl, sym, ap, ◌∙◌, subst}
use Prim.Native.Nat.{ℕ, ◌≤◌}
use native.Mathlib.Omega.{arith}
use Rattle.layout.specs.Layout.{graph_header}
use Rattle.files.specs.Files.{length_refusal, filling_refusal, header_ends_refusal, graph_frame_refusal}
use Rattle.files.proofs.First.{fault_ends, goes_on, one-check, number_same}
use Rattle.files.proofs.Frame.{length-exact, graph-bits-few, graph-bits-are, header_outside}
use Rattle.files.proofs.headers.check_graph_frame.Goals as goal

pub returns-in_err-check_graph_header : goal.returns-in_err-check_graph_header
unfolding graph_frame_refusal
returns-in_err-check_graph_header c = fault_ends _ _ _ c.from_residual.ensures.1 c.in_err-check_graph_header.ensures

pub check_length-requires : goal.check_length-requires
check_length-requires c =
    subst (λ (n : ℕ). n ≤ 65536) (sym (graph-bits-are c.args.bytes.now c.requires)) (graph-bits-few c.args.bytes.now)

pub returns-in_err-check_length : goal.returns-in_err-check_length
unfolding graph_frame_refusal
returns-in_err-check_length c =
    let s = c.args.bytes.now in
    fault_ends _ _ _ c.from_residual-in_err-check_length.ensures.1 (c.in_err-check_length.ensures ∙ ap (length_refusal s) (graph-bits-are s c.requires)) ∙
    sym (goes_on _ c.in_ok-check_graph_header.ensures refl)

pub check_filling-requires : goal.check_filling-requires
check_filling-requires c =
    let s = c.args.bytes.now in
    record {
      used_bound = subst (λ (n : ℕ). n ≤ 65536) (sym (graph-bits-are s c.requires)) (graph-bits-few s);
      bytes_len = length-exact s _ (number_same (sym c.in_ok-check_length.ensures));
    }

pub returns-in_err-check_filling : goal.returns-in_err-check_filling
unfolding graph_frame_refusal
returns-in_err-check_filling c =
    let s = c.args.bytes.now in
    fault_ends _ _ _ c.from_residual-in_err-check_filling.ensures.1 (c.in_err-check_filling.ensures ∙ ap (filling_refusal s) (graph-bits-are s c.requires)) ∙
    sym
    (goes_on _ c.in_ok-check_graph_header.ensures refl ∙
    goes_on _ (c.in_ok-check_length.ensures ∙ ap (length_refusal s) (graph-bits-are s c.requires)) refl)

pub returns : goal.returns
unfolding graph_frame_refusal header_ends_refusal
returns c =
    let s = c.args.bytes.now in
    sym
    (goes_on _ c.in_ok-check_graph_header.ensures refl ∙
    (goes_on _ (c.in_ok-check_length.ensures ∙ ap (length_refusal s) (graph-bits-are s c.requires)) refl ∙
    (goes_on _ (c.in_ok-check_filling.ensures ∙ ap (filling_refusal s) (graph-bits-are s c.requires)) refl ∙
    (one-check (header_outside (graph_header s)) 6 0 (λ z. omega arith) ∙ sym (c.check_header_ends.ensures s c.requires)))))
