-- `verdict::weighed` meets its contract: by the answer, accepted, late or another fault.
use mathlib.Core.Path.{◌≡◌, ap, ◌∙◌}
use Prim.Native.Nat.{◌<◌}
use lib.IntN.{ℤ}
use lib.Signed.{mag}
use mir.Syntax.{w32}
use mir.Val.{to_z, of_z}
use mir.ValLaws.{to_z-of_z}
use Rattle.std.proofs.Common.{Err}
use Rattle.files.specs.declared.Fault.{Fault}
use Rattle.files.specs.Refusals.{refusal_of}
use Rattle.acceptance.specs.Outcomes.{outcome}
use Rattle.verdict.proofs.Told.{accepted-told, late-told, plain-told}
use Rattle.verdict.proofs.weighed.Goals as goal

-- a margin keeps its number in the 32 bits of its field
kept : {z m : ℤ} → mag z < 2147483648 → z ≡ m → to_z w32 (of_z w32 z) ≡ m
kept {z} fits is = to_z-of_z w32 z (record { sfits = fits }) ∙ is

pub returns-in-Ok : goal.returns-in-Ok
unfolding outcome
returns-in-Ok c =
    let told = accepted-told c.args.bound c.in-Ok.is in
    record { outcome = told.0; latency = told.1; margin = kept c.margin_of.type_inv c.margin_of.ensures ∙ told.2 }

pub returns-in-Late : goal.returns-in-Late
unfolding outcome
returns-in-Late c =
    let told = late-told c.args.bound (c.in-Err.is ∙ ap Err c.in-Late.is) in
    let plain = c.refused-answer.ensures.0 ∙ ap (λ (f : Fault). outcome (refusal_of f)) c.in-Late.is in
    let margin = kept c.margin_of-answer.type_inv c.margin_of-answer.ensures in
    record {
      outcome = (λ i. record { number = (plain i).number; place = (plain i).place; latency = c.in-Late.latency; margin = margin i }) ∙ told.0;
      latency = c.refused-answer.ensures.1 ∙ told.1;
      margin = c.refused-answer.ensures.2 ∙ told.2;
    }

pub returns-in_default : goal.returns-in_default
returns-in_default c =
    let told = plain-told c.args.bound c.in-Err.is c.in_default.not-Late in
    record {
      outcome = c.refused-answer.ensures.0 ∙ told.0;
      latency = c.refused-answer.ensures.1 ∙ told.1;
      margin = c.refused-answer.ensures.2 ∙ told.2;
    }
