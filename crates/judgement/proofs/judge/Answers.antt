-- `judgement::judge` meets its contract: the first fault that is given ends the chain, with no latency; the last check gives it.
use mathlib.Core.Path.{refl}
use Rattle.judgement.proofs.Judging.{made, off_cycles, no-cycle, judges-13, judges-14, judges-last}
use Rattle.judgement.proofs.judge.Goals as goal

pub returns-in_err-check_cycle : goal.returns-in_err-check_cycle
returns-in_err-check_cycle c = judges-13 c.requires _ _ c.from_residual.ensures.1 c.in_err-check_cycle.ensures

pub check_order-requires : goal.check_order-requires
check_order-requires c = record { accepted_reading = c.requires.accepted; made = (_, made c.requires c.made_result-made.ensures) }

pub returns-in_err-check_order : goal.returns-in_err-check_order
returns-in_err-check_order c =
    judges-14 c.requires c.made_result-made.ensures _ _ c.from_residual-in_err-check_order.ensures.1 (no-cycle c.requires c.in_ok-check_cycle.ensures refl)
    c.in_err-check_order.ensures

pub check_lateness-requires : goal.check_lateness-requires
check_lateness-requires c =
    record {
      accepted_reading = c.requires.accepted;
      made = (_, made c.requires c.made_result-made.ensures);
      made_value = off_cycles c.requires c.made_result-made.ensures (no-cycle c.requires c.in_ok-check_cycle.ensures refl);
    }

pub returns : goal.returns
returns c =
    judges-last c.requires c.made_result-made.ensures (no-cycle c.requires c.in_ok-check_cycle.ensures refl) c.in_ok-check_order.ensures refl c.check_lateness.ensures
