-- What the call of crates/resync_c for the plan promises, in the definitions that the demands speak of: its contract is just this, so a promise dropped there
-- would not be proved here. (The other calls are made in src/lib.rt.)
use mathlib.Core.Path.{◌≡◌}
use lib.ListN.{length}
use seplogic.Ra.Ura.{Ura}
use base.Logic.{SProp, ent, sep, id⊢}
use prog.Memory.{Memory}
use prog.Routine.{Routine}
use types.Logic.{Logic}
use contract.Lifetimes.{Lfts}
use contract.Monad.{Fun, fact}
use Rattle.plan.specs.declared.PlanAnswer.{PlanAnswer}
use Rattle.plan.specs.Plan.{plan_answer_of, plan_after}
use Rattle.resync_c.specs.contracts.resync_plan as exported

module _ {M : Type 1} {𝓤 : Ura M} (𝓛 : Logic 𝓤) (mem : Memory → SProp 𝓤) (run : Routine → Fun 𝓤) (κs : Lfts 2) where
  pub plan-promised :
      (args : _) (r : PlanAnswer) (end : _) →
      ent 𝓤 ((exported.clauses 𝓛 mem run κs args).ensures tt r end)
      (sep 𝓤 (fact 𝓤 (r ≡ plan_answer_of args.0.now (length args.1.0.now))) (fact 𝓤 (end.1.0.now ≡ plan_after args.0.now args.1.0.now)))
  plan-promised args r end = id⊢ 𝓤 _
