-- What passes: a chain of refusals refuses nothing, and then names no place, exactly if its sequence says 0 and 0. So a graph is accepted and a proposal
-- well-formed exactly if they pass demand 1's sequences.
use mathlib.Core.Path.{◌≡◌, sym, ap, subst}
use mathlib.Core.Logic.{◌↔◌}
use mathlib.Core.List.{List}
use Prim.Native.Nat.{ℕ}
use Rattle.files.specs.declared.Refusal.{Refusal}
use Rattle.files.specs.Files.{task_count, graph_refusal, proposal_refusal}
use Rattle.files.specs.Refusals.{not_refused}
use Rattle.files.proofs.First.{none-refused}
use Rattle.readings.proofs.Whole.{task-count}
use Rattle.acceptance.specs.Acceptance.{acceptance_refusal}
use Rattle.acceptance.specs.Outcomes.{tasks_of}
use Rattle.acceptance.specs.Theorems.{AcceptedFile}
use Rattle.acceptance.proofs.Judged.{accepted-iff-passed}
use Rattle.acceptance.proofs.Rooms.{success-plain}
use Rattle.claims.specs.Demand1.{Sequence, Says, graph_checks, proposal_file_checks}
use Rattle.claims.specs.Demand3.{WellFormedFile}
use Rattle.claims.proofs.Followed.{graph-follows, proposal-file-follows}
use Rattle.claims.proofs.Sequences.{Follows, says, says-one}

-- a file that is read has no refusal, so no place of one
pub graph-file-plain : (s : List ℕ) → (graph_refusal s).number ≡ 0 → graph_refusal s ≡ not_refused
unfolding graph_refusal
graph-file-plain s none = none-refused _ none

pub proposal-file-plain : (n : ℕ) (p : List ℕ) → (proposal_refusal n p).number ≡ 0 → proposal_refusal n p ≡ not_refused
unfolding proposal_refusal
proposal-file-plain n p none = none-refused _ none

passed-says : (checks : Sequence) (r : Refusal) → Follows checks r → (r.number ≡ 0 → r ≡ not_refused) → (r.number ≡ 0) ↔ Says checks 0 0
passed-says checks r follows plain = (
  λ none. subst (λ (q : Refusal). Says checks q.number q.place) (plain none) said,
  λ passed. sym (says-one checks 0 r.number 0 r.place passed said).0,
)
  where
    said : Says checks r.number r.place
    said = says checks r follows (λ none. ap (λ (q : Refusal). q.place) (plain none))

pub graph_passes : (s : List ℕ) → AcceptedFile s ↔ Says (graph_checks s) 0 0
graph_passes s =
    let iff = passed-says (graph_checks s) (acceptance_refusal s) (graph-follows s) (success-plain s) in
    (λ graph. iff.0 ((accepted-iff-passed s).1 graph), λ said. (accepted-iff-passed s).0 (iff.1 said))

pub proposal_passes : (s p : List ℕ) → WellFormedFile s p ↔ Says (proposal_file_checks (task_count s) p) 0 0
unfolding tasks_of
proposal_passes s p =
    passed-says (proposal_file_checks (task_count s) p) (proposal_refusal (tasks_of s) p)
    (proposal-file-follows (task-count s) p) (proposal-file-plain (tasks_of s) p)
