-- Demand 1 is met: each call's refusals follow its sequence, a sequence says one thing only, and the other fields and the lent lists are what the calls' crates
-- prove of them.
use mathlib.Core.Path.{◌≡◌, refl, ap, sym, ◌∙◌, subst}
use mathlib.Core.Logic.{◌≢◌}
use mathlib.Core.List.{List}
use Rattle.std.proofs.Common.{Result}
use Prim.Native.Nat.{ℕ}
use native.Mathlib.Omega.{arith}
use lib.IntN.{pos}
use lib.ListN.{length}
use Rattle.files.specs.declared.Refusal.{Refusal}
use Rattle.files.specs.Files.{graph_refusal, proposal_refusal}
use Rattle.files.specs.declared.Fault.{Fault}
use Rattle.files.specs.Refusals.{refusal_in}
use Rattle.readings.specs.declared.GraphReading.{GraphReading}
use Rattle.readings.specs.declared.ProposalReading.{ProposalReading}
use Rattle.readings.specs.Working.{GraphRead, ProposalRead}
use Rattle.readings.proofs.Held.{graph-refusal-given, proposal-refusal-given}
use Rattle.acceptance.specs.declared.Outcome.{Outcome}
use Rattle.acceptance.specs.Acceptance.{acceptance_refusal}
use Rattle.acceptance.specs.Outcomes.{outcome}
use Rattle.acceptance.proofs.Rooms.{success-plain}
use Rattle.figures.specs.Figures.{figures_of}
use Rattle.figures.proofs.Meanings.{figures_refused}
use Rattle.least_delays.specs.LeastDelays.{delays_refusal}
use Rattle.least_delays.proofs.Lists.{delays_kept}
use Rattle.least_delays.proofs.Meanings.{delays-plain}
use Rattle.redundant.specs.Redundant.{redundant_of}
use Rattle.redundant.proofs.Meanings.{redundant_refused}
use Rattle.timetable.specs.Timetable.{timetable_refusal}
use Rattle.timetable.proofs.Given.{timetable-plain}
use Rattle.timetable.proofs.Lists.{timetable_kept}
use Rattle.plan.specs.Plan.{plan_refusal, plan_answer_of}
use Rattle.plan.proofs.Meanings.{plan-plain, plan_refused, plan_kept}
use Rattle.verdict.specs.Verdict.{verdict_of}
use Rattle.claims.specs.Demand1.{Sequence, Says, graph_file_checks, proposal_file_checks, graph_checks, delays_checks, timetable_checks, plan_checks, verdict_checks, Obeys, Demand1}
use Rattle.claims.proofs.Followed.{graph-file-follows, proposal-file-follows, graph-follows, delays-follow, timetable-follows, plan-follows}
use Rattle.claims.proofs.Passed.{graph-file-plain, proposal-file-plain}
use Rattle.claims.proofs.Sequences.{Follows, says, says-one}
use Rattle.claims.proofs.Verdicts.{verdict-says, place-passed, verdict-unnamed, verdict-plain, verdict_late}

module _ (checks : Sequence) where
  obeys :
      (o : Outcome) → Says checks o.number o.place → (o.number ≢ 15 → (o.latency ≡ 0) × (o.margin ≡ pos 0)) →
      (o.number ≡ 0 → o.place ≡ 0) → Obeys checks o
  obeys o said unnamed nowhere =
      record {
        called_for = said;
        never_otherwise = λ number place other. says-one checks number o.number place o.place other said;
        unnamed = unnamed;
        not-refused = λ none. let plain = unnamed (λ is. omega (arith, none, is)) in (nowhere none, plain.0, plain.1);
      }

  -- a call whose refusals name neither latency nor margin
  obeys-plainly : (r : Refusal) → Follows checks r → (r.number ≡ 0 → r.place ≡ 0) → Obeys checks (outcome r)
  unfolding outcome
  obeys-plainly r follows nowhere = obeys (outcome r) (says checks r follows nowhere) (λ other. (refl, refl)) nowhere

-- no place where nothing is refused
graph-nowhere : (s : List ℕ) → (acceptance_refusal s).number ≡ 0 → (acceptance_refusal s).place ≡ 0
graph-nowhere s none = ap (λ (r : Refusal). r.place) (success-plain s none)

delays-nowhere : (s : List ℕ) (room : ℕ) → (delays_refusal s room).number ≡ 0 → (delays_refusal s room).place ≡ 0
delays-nowhere s room none = ap (λ (r : Refusal). r.place) (delays-plain s room none)

timetable-nowhere : (s : List ℕ) (turns room : ℕ) → (timetable_refusal s turns room).number ≡ 0 → (timetable_refusal s turns room).place ≡ 0
timetable-nowhere s turns room none = ap (λ (r : Refusal). r.place) (timetable-plain s turns room none)

plan-obeys : (s : List ℕ) (room : ℕ) → Obeys (plan_checks s room) (plan_answer_of s room).outcome
unfolding plan_answer_of
plan-obeys s room =
    obeys-plainly (plan_checks s room) (plan_refusal s room) (plan-follows s room)
    (λ none. ap (λ (r : Refusal). r.place) (plan-plain s room none))

figures-obey : (s : List ℕ) → Obeys (graph_checks s) (figures_of s).outcome
unfolding figures_of
figures-obey s = obeys-plainly (graph_checks s) (acceptance_refusal s) (graph-follows s) (graph-nowhere s)

redundant-obeys : (s : List ℕ) → Obeys (graph_checks s) (redundant_of s).outcome
unfolding redundant_of
redundant-obeys s = obeys-plainly (graph_checks s) (acceptance_refusal s) (graph-follows s) (graph-nowhere s)

-- the files, and the readings, whose refusals are those of their files
graph-files-obey : (s : List ℕ) → Obeys (graph_file_checks s) (outcome (graph_refusal s))
graph-files-obey s =
    obeys-plainly (graph_file_checks s) (graph_refusal s) (graph-file-follows s) (λ none. ap (λ (r : Refusal). r.place) (graph-file-plain s none))

proposal-files-obey : (n : ℕ) (p : List ℕ) → Obeys (proposal_file_checks n p) (outcome (proposal_refusal n p))
proposal-files-obey n p =
    obeys-plainly (proposal_file_checks n p) (proposal_refusal n p) (proposal-file-follows {k = n} {n = n} refl p) (λ none. ap (λ (r : Refusal). r.place) (proposal-file-plain n p none))

read-graph-obeys : (s : List ℕ) (r : Result GraphReading Fault) → GraphRead s r → Obeys (graph_file_checks s) (outcome (refusal_in r))
read-graph-obeys s r read = subst (λ (q : Refusal). Obeys (graph_file_checks s) (outcome q)) (sym (graph-refusal-given s r read)) (graph-files-obey s)

read-proposal-obeys :
    (n : ℕ) (p : List ℕ) (r : Result ProposalReading Fault) → ProposalRead n p r → Obeys (proposal_file_checks n p) (outcome (refusal_in r))
read-proposal-obeys n p r read =
    subst (λ (q : Refusal). Obeys (proposal_file_checks n p) (outcome q)) (sym (proposal-refusal-given n p r read)) (proposal-files-obey n p)

-- the outcome's number is the refusal's
plan-number : (s : List ℕ) (room : ℕ) → (plan_answer_of s room).outcome.number ≡ (plan_refusal s room).number
unfolding plan_answer_of outcome
plan-number s room = refl

pub demand1-met : Demand1
demand1-met =
    record {
      graph_files = graph-files-obey;
      proposal_files = proposal-files-obey;
      read_graph = read-graph-obeys;
      read_proposal = read-proposal-obeys;
      figures = figures-obey;
      figures_refused = λ s some. let h = figures_refused s some in (h.1, h.2, h.3);
      redundant = redundant-obeys;
      redundant_refused = λ s some. let h = redundant_refused s some in (h.1, h.2);
      delays = λ s room. obeys-plainly (delays_checks s room) (delays_refusal s room) (delays-follow s room) (delays-nowhere s room);
      delays_kept = delays_kept;
      timetable = λ s turns room.
          obeys-plainly (timetable_checks s turns room) (timetable_refusal s turns room) (timetable-follows s turns room) (timetable-nowhere s turns room);
      timetable_kept = timetable_kept;
      plan = plan-obeys;
      plan_refused = λ s room some. plan_refused s room (λ none. some (plan-number s room ∙ none));
      plan_kept = λ s list some. plan_kept s list (λ none. some (plan-number s (length list) ∙ none));
      verdict = λ s p. obeys (verdict_checks s p) (verdict_of s p).outcome (verdict-says s p) (verdict-unnamed s p) (place-passed s p);
      verdict_refused = verdict-plain;
      verdict_late = verdict_late;
    }
