-- The chain of checks 9 to 12, stopped by each, and passed.
use mathlib.Core.Path.{◌≡◌, ap, ◌∙◌}
use mathlib.Core.Bool.{true, false, not}
use mathlib.Core.List.{List, [], ◌∷◌}
use Prim.Native.Nat.{ℕ, ◌≤◌, ◌<◌}
use native.Mathlib.Omega.{arith}
use lib.Dec.{ltb}
use borrow.Author.Tests.{lt-ltb, le-ltb}
use Rattle.model.specs.Tasks.{Edge}
use Rattle.model.specs.Compute.{zero_cycle, input_free, joined, latency}
use Rattle.files.specs.declared.Refusal.{Refusal}
use Rattle.files.specs.Refusals.{not_refused, refuse, first}
use Rattle.files.proofs.First.{check-passes, check-stops, no-checks}
use Rattle.acceptance.specs.Acceptance.{schedule_checks}

module _ (n : ℕ) (es : List Edge) (time : ℕ → ℕ) (input output bound : ℕ) where
  abbrev from-12 : List Refusal
  from-12 = refuse (ltb bound (latency n es time output)) 12 0 ∷ []

  abbrev from-11 : List Refusal
  from-11 = refuse (not (joined n es input output)) 11 0 ∷ from-12

  abbrev from-10 : List Refusal
  from-10 = refuse (not (input_free es input)) 10 0 ∷ from-11

  pub stops-9 : zero_cycle n es ≡ true → schedule_checks n es time input output bound ≡ record { number = 9; place = 0 }
  unfolding schedule_checks
  stops-9 cyclic = check-stops 9 0 _ (λ z. omega arith) cyclic

  module _ (acyclic : zero_cycle n es ≡ false) where
    after-9 : schedule_checks n es time input output bound ≡ first from-10
    unfolding schedule_checks
    after-9 = check-passes 9 0 from-10 acyclic

    pub stops-10 : input_free es input ≡ false → schedule_checks n es time input output bound ≡ record { number = 10; place = 0 }
    stops-10 waits = after-9 ∙ check-stops 10 0 from-11 (λ z. omega arith) (ap not waits)

    module _ (free : input_free es input ≡ true) where
      after-10 : schedule_checks n es time input output bound ≡ first from-11
      after-10 = after-9 ∙ check-passes 10 0 from-11 (ap not free)

      pub stops-11 : joined n es input output ≡ false → schedule_checks n es time input output bound ≡ record { number = 11; place = 0 }
      stops-11 apart = after-10 ∙ check-stops 11 0 from-12 (λ z. omega arith) (ap not apart)

      module _ (met : joined n es input output ≡ true) where
        after-11 : schedule_checks n es time input output bound ≡ first from-12
        after-11 = after-10 ∙ check-passes 11 0 from-12 (ap not met)

        pub stops-12 : bound < latency n es time output → schedule_checks n es time input output bound ≡ record { number = 12; place = 0 }
        stops-12 below = after-11 ∙ check-stops 12 0 [] (λ z. omega arith) (lt-ltb bound (latency n es time output) below)

        pub passed : latency n es time output ≤ bound → schedule_checks n es time input output bound ≡ not_refused
        passed within = after-11 ∙ (check-passes 12 0 [] (le-ltb bound (latency n es time output) within) ∙ no-checks)
