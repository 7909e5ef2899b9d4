-- The example desk's file is accepted.
use mathlib.Core.Path.{◌≡◌, sym, subst}
use Rattle.model.specs.Proposals.{AcceptedGraph}
use Rattle.model.proofs.Example.{desk-accepted}
use Rattle.files.specs.Refusals.{not_refused}
use Rattle.files.proofs.Example.{desk_bytes, desk-file, desk-passes}
use Rattle.files.proofs.First.{none-refused, number_same}
use Rattle.acceptance.specs.Acceptance.{acceptance_refusal}
use Rattle.acceptance.proofs.Judged.{accepted-iff-passed}

pub desk-given : acceptance_refusal desk_bytes ≡ not_refused
unfolding acceptance_refusal
desk-given =
    none-refused _
    ((accepted-iff-passed desk_bytes).1 (number_same desk-passes, subst AcceptedGraph (sym desk-file) desk-accepted))
