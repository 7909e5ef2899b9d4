-- The chain of checks 13 to 15, stopped by each, and passed.
use mathlib.Core.Path.{◌≡◌, sym, ◌∙◌}
use mathlib.Core.Logic.{◌≢◌}
use mathlib.Core.List.{List, [], ◌∷◌}
use Prim.Native.Nat.{◌≤◌, ◌<◌}
use native.Mathlib.Omega.{arith}
use lib.Dec.{ltb}
use lib.ListN.{length}
use borrow.Author.Tests.{lt-ltb, le-ltb}
use Rattle.model.specs.Tasks.{Edge}
use Rattle.model.specs.Graph.{Graph}
use Rattle.model.specs.Compute.{latency_of}
use Rattle.model.specs.Proposals.{result}
use Rattle.files.specs.declared.Refusal.{Refusal}
use Rattle.files.specs.Refusals.{not_refused, refuse, first}
use Rattle.files.specs.Files.{first_of}
use Rattle.files.proofs.First.{check-passes, check-stops, stops, passes, number_same, no-checks}
use Rattle.judgement.specs.Judgement.{cycle_refusal, lost_refusal, judged_refusal}

module _ (g : Graph) (proposed : List Edge) where
  -- what the searches of 13 and 14 come to
  abbrev pub cycles_searched : Refusal
  cycles_searched = first_of (length proposed) (cycle_refusal g proposed)

  abbrev pub orders_searched : Refusal
  orders_searched = first_of (length g.syncs) (lost_refusal g proposed)

  abbrev from-15 : List Refusal
  from-15 = refuse (ltb g.bound (latency_of (result g proposed))) 15 0 ∷ []

  abbrev from-14 : List Refusal
  from-14 = orders_searched ∷ from-15

  pub stops-13 : {r : Refusal} → cycles_searched ≡ r → r.number ≢ 0 → judged_refusal g proposed ≡ r
  unfolding judged_refusal
  stops-13 is some = stops cycles_searched from-14 (λ z. some (number_same (sym is) ∙ z)) ∙ is

  module _ (off : cycles_searched ≡ not_refused) where
    after-13 : judged_refusal g proposed ≡ first from-14
    unfolding judged_refusal
    after-13 = passes cycles_searched from-14 (number_same off)

    pub stops-14 : {r : Refusal} → orders_searched ≡ r → r.number ≢ 0 → judged_refusal g proposed ≡ r
    stops-14 is some = after-13 ∙ (stops orders_searched from-15 (λ z. some (number_same (sym is) ∙ z)) ∙ is)

    module _ (held : orders_searched ≡ not_refused) where
      after-14 : judged_refusal g proposed ≡ first from-15
      after-14 = after-13 ∙ passes orders_searched from-15 (number_same held)

      pub stops-15 : g.bound < latency_of (result g proposed) → judged_refusal g proposed ≡ record { number = 15; place = 0 }
      stops-15 above = after-14 ∙ check-stops 15 0 [] (λ z. omega arith) (lt-ltb g.bound (latency_of (result g proposed)) above)

      pub passed : latency_of (result g proposed) ≤ g.bound → judged_refusal g proposed ≡ not_refused
      passed within = after-14 ∙ (check-passes 15 0 [] (le-ltb g.bound (latency_of (result g proposed)) within) ∙ no-checks)
