-- `files::headers::check_proposal_frame` meets its contract: a check that fails ends the chain, one that passes is left out of it.
use mathlib.Core.Path.{refl, sym, ap, ◌∙◌, subst}
use mathlib.Core.Bool.{not}
use Prim.Native.Nat.{ℕ, ◌≤◌}
use native.Mathlib.Omega.{arith}
use lib.Dec.{eqb}
use Rattle.layout.specs.Layout.{filling}
use Rattle.files.specs.Files.{proposal_bits, length_refusal, filling_refusal, proposal_frame_refusal}
use Rattle.files.proofs.First.{fault_ends, goes_on, one-check, number_same}
use Rattle.files.proofs.Frame.{length-exact, proposal-bits-few, proposal-bits-are}
use Rattle.files.proofs.headers.check_proposal_frame.Goals as goal

pub returns-in_err-check_proposal_header : goal.returns-in_err-check_proposal_header
unfolding proposal_frame_refusal
returns-in_err-check_proposal_header c = fault_ends _ _ _ c.from_residual.ensures.1 c.in_err-check_proposal_header.ensures

pub check_length-requires : goal.check_length-requires
check_length-requires c =
    subst (λ (n : ℕ). n ≤ 65536) (sym (proposal-bits-are c.args.bytes.now c.requires)) (proposal-bits-few c.args.bytes.now)

pub returns-in_err-check_length : goal.returns-in_err-check_length
unfolding proposal_frame_refusal
returns-in_err-check_length c =
    let s = c.args.bytes.now in
    fault_ends _ _ _ c.from_residual-in_err-check_length.ensures.1 (c.in_err-check_length.ensures ∙ ap (length_refusal s) (proposal-bits-are s c.requires)) ∙
    sym (goes_on _ c.in_ok-check_proposal_header.ensures refl)

pub returns-in_err-check_zeros : goal.returns-in_err-check_zeros
unfolding proposal_frame_refusal
returns-in_err-check_zeros c =
    let s = c.args.bytes.now in
    fault_ends _ _ _ c.from_residual-in_err-check_zeros.ensures.1 (c.in_err-check_zeros.ensures s c.requires) ∙
    sym
    (goes_on _ c.in_ok-check_proposal_header.ensures refl ∙
    goes_on _ (c.in_ok-check_length.ensures ∙ ap (length_refusal s) (proposal-bits-are s c.requires)) refl)

pub check_filling-requires : goal.check_filling-requires
check_filling-requires c =
    let s = c.args.bytes.now in
    record {
      used_bound = subst (λ (n : ℕ). n ≤ 65536) (sym (proposal-bits-are s c.requires)) (proposal-bits-few s);
      bytes_len = length-exact s _ (number_same (sym c.in_ok-check_length.ensures));
    }

pub returns : goal.returns
unfolding proposal_frame_refusal filling_refusal
returns c =
    let s = c.args.bytes.now in
    sym
    (goes_on _ c.in_ok-check_proposal_header.ensures refl ∙
    (goes_on _ (c.in_ok-check_length.ensures ∙ ap (length_refusal s) (proposal-bits-are s c.requires)) refl ∙
    (goes_on _ (c.in_ok-check_zeros.ensures s c.requires) refl ∙
    (one-check (not (eqb (filling s (proposal_bits s)) 0)) 4 0 (λ z. omega arith) ∙
    sym (c.check_filling.ensures ∙ ap (filling_refusal s) (proposal-bits-are s c.requires))))))
